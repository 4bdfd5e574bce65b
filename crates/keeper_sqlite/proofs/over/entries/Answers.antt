use Rattle.std.proofs.Common.{◌∙◌}
use Rattle.sqlite.specs.Held.{state}
use Rattle.store_tables.proofs.CallLemmas.{if_ok}
use Rattle.store_tables.proofs.StateLemmas.{steady_then}
use Rattle.keeper_sqlite.proofs.StoreLemmas.{same_entries}
use Rattle.keeper_sqlite.proofs.over.entries.Goals as goal

pub returns-in-Ok-clause-steady : goal.returns-in-Ok-clause-steady
returns-in-Ok-clause-steady g c =
    steady_then (state g.S.Store c.args.conn.now) (state g.S.Store c.prepare.new.conn)
    (state g.S.Store c.read_entries.new.conn) c.prepare.ensures.steady c.read_entries.ensures.steady

pub returns-in-Err-clause-steady : goal.returns-in-Err-clause-steady
returns-in-Err-clause-steady g c =
    steady_then (state g.S.Store c.args.conn.now) (state g.S.Store c.prepare.new.conn)
    (state g.S.Store c.read_entries.new.conn) c.prepare.ensures.steady c.read_entries.ensures.steady

pub returns-in-Ok-clause-answer : goal.returns-in-Ok-clause-answer
returns-in-Ok-clause-answer g c clean =
    if_ok c.entries_of.result _ _
    (λ list is t told. same_entries c.as_slice.result.now list _ is
    (c.as_slice.ensures.value ∙ c.in-Ok.ensures.answer clean t told)) c.entries_of.ensures.ok
