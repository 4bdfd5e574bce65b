use Rattle.std.proofs.Common.{[]}
use Rattle.sqlite.specs.Held.{state}
use Rattle.store_statements.specs.Texts.{page_text}
use Rattle.store_tables.proofs.InsideLemmas.{query_keeps}
use Rattle.store_tables.proofs.PageLemmas.{page_by}
use Rattle.keeper_sqlite.proofs.moving.read_page.Goals as goal

pub returns-clause-page : goal.returns-clause-page
returns-clause-page g c clean inside =
    page_by (state g.S.Store c.args.tx.now.conn.now) (state g.S.Store c.query_all.new.self.conn.now)
    (λ rows. rows.items) c.query_all.result inside (c.query_all.ensures.ok clean)

pub returns-clause-keeps : goal.returns-clause-keeps
returns-clause-keeps g c clean inside =
    query_keeps page_text [] (state g.S.Store c.args.tx.now.conn.now)
    (state g.S.Store c.query_all.new.self.conn.now) (λ rows. rows.items) c.query_all.result inside
    (c.query_all.ensures.ok clean) (c.query_all.ensures.err clean)
