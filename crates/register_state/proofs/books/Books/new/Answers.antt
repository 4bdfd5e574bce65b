use Rattle.std.proofs.Common.{◌≡◌, [], subst, sym, rules}
use Rattle.upload_ledger.specs.History.{History}
use Rattle.register_history.proofs.Histories.{Legal-opened}
use Rattle.register_history.proofs.TableLemmas.{kept-none}
use Rattle.register_state.specs.Books.{AreBooks}
use Rattle.register_state.proofs.books.Books.new.Goals as goal

pub invariant_of-result : goal.invariant_of-result
invariant_of-result c =
    let none : c.in_ok-ledger.ledger.entries ≡ [] = search rules in
    let table = c.in_ok-table.table in
    let made = c.in_ok-table.ensures in
    let B : History → Type 0 = λ h. AreBooks c.args.limits h table in
    subst B (sym none) (record { of_limits = c.requires; legal = Legal-opened c.args.limits; of_table = kept-none c.args.limits table made.held made.rows made.numbers })
