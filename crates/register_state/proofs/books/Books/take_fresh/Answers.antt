use Rattle.std.proofs.Common.{◌+◌, ◌≤◌, subst}
use Rattle.cell_reads.specs.Reads.{Agrees}
use Rattle.lei_records.specs.Tables.{Table, record_count}
use Rattle.register_history.specs.Register.{after}
use Rattle.register_history.specs.State.{OfficeState}
use Rattle.register_history.proofs.Registers.{after-fit}
use Rattle.register_state.proofs.books.Books.take_fresh.Goals as goal

pub is_usable-requires-clause-fits : goal.is_usable-requires-clause-fits
is_usable-requires-clause-fits g c = rw c.self.invariant.of_table.rows (after-fit c.self.inside.limits c.self.inside.ledger.entries).fits

pub take_planned-requires-clause-agrees : goal.take_planned-requires-clause-agrees
take_planned-requires-clause-agrees g c =
    let reads = c.in-Some.plan.outcome.reads in
    let O : OfficeState → Type 0 = λ o. Agrees reads (after o.limits o.history) in
    subst O c.self.view_is (subst (Agrees reads) c.self.invariant.of_table.rows (c.is_usable.ensures.agrees c.if-is_usable.true))

pub take_planned-requires-clause-fits : goal.take_planned-requires-clause-fits
take_planned-requires-clause-fits g c =
    let new = c.in-Some.plan.outcome.new_records in
    let T : Table → Type 0 = λ t. record_count t + new ≤ c.self.inside.limits.records in
    let O : OfficeState → Type 0 = λ o. record_count (after o.limits o.history) + new ≤ o.limits.records in
    subst O c.self.view_is (subst T c.self.invariant.of_table.rows (c.is_usable.ensures.fits c.if-is_usable.true))
