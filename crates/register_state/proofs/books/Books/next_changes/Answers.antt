use Rattle.std.proofs.Common.{ap, length, refl, ◌∙◌}
use Rattle.register_history.specs.Publications.{last_published}
use Rattle.register_history.proofs.OwnChanges.{own_changes}
use Rattle.register_state.proofs.Shelved.{next-changes}
use Rattle.register_state.proofs.books.Books.next_changes.Goals as goal

pub returns-clause-own : goal.returns-clause-own
returns-clause-own c =
    let inside = c.self.inside in
    let made = c.in_ok-changes.changes.items in
    own_changes inside.limits inside.ledger.entries made c.self.invariant.legal
    (next-changes inside.limits inside.ledger.entries _ _ inside.table.held made made (c.last_published-after.ensures ∙ ap last_published c.entries-entries.ensures)
    (ap length c.entries-entries.ensures) c.self.invariant.of_table.held refl c.in_ok-changes.ensures)
