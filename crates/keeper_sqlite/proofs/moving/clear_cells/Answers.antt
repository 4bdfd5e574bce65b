use Rattle.std.proofs.Common.{◌≡◌, [], ◌∷◌, rules, subst}
use Rattle.sqlite_value.specs.declared.value.Value.TheVariants.{Int}
use Rattle.sqlite_value.specs.Value.{owned}
use Rattle.sqlite.specs.Held.{state}
use Rattle.sqlite.specs.State.{ExecutesInside}
use Rattle.sqlite.specs.Values.{bound_value}
use Rattle.store_statements.specs.Texts.{clear_text}
use Rattle.store_tables.proofs.PageLemmas.{clears_by}
use Rattle.keeper_sqlite.proofs.moving.clear_cells.Goals as goal

pub returns-clause-clears : goal.returns-clause-clears
returns-clause-clears g c clean inside =
    let old = state g.S.Store c.args.tx.now.conn.now in
    let new = state g.S.Store c.execute.new.self.conn.now in
    let is : bound_value (owned c.id_value.result) ≡ Int c.args.last = search rules in
    clears_by c.args.last old new c.execute.result
    (subst (λ v. ExecutesInside 0 clear_text (v ∷ []) old new c.execute.result) is
    (c.execute.ensures.runs clean inside))
