use Rattle.std.proofs.Common.{subst}
use Rattle.lei_office.specs.Opening.{Compares}
use Rattle.register_history.specs.Register.{held_after}
use Rattle.register_history.proofs.Cells.{touched-page}
use Rattle.lei_office.proofs.ComparedPages.{page-compares}
use Rattle.lei_office.proofs.comparing.compare_page.Goals as goal

pub returns-clause-compares : goal.returns-clause-compares
returns-clause-compares g c =
    let bounds = c.args.bounds in
    let office = c.args.register.now in
    let held = held_after office.limits office.history in
    let found = c.in_ok-first_difference.field-0 in
    let compares = subst (λ l. Compares l c.in_ok-made.made found) c.as_slice.ensures
    (subst (λ l. Compares c.as_slice.result.now l found) c.as_slice-2.ensures c.in_ok-first_difference.ensures) in
    page-compares (g.K.Keeper.tables c.cells.new.self) held bounds c.in_ok-kept.kept c.in_ok-made.made found c.in_ok-kept.ensures.answer
    (touched-page bounds.0 bounds.1 held c.in_ok-made.made c.in_ok-made.ensures) compares
