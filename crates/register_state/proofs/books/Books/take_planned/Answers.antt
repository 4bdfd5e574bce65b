use Rattle.std.proofs.Common.{ap, arith}
use Rattle.register_history.proofs.Registers.{after-fit}
use Rattle.register_state.proofs.Planned.{planned_by}
use Rattle.register_state.proofs.books.Books.take_planned.Goals as goal

pub add_judged-requires-clause-judged : goal.add_judged-requires-clause-judged
add_judged-requires-clause-judged c =
    let office = c.args.self.now in
    let limits = c.limits-limits.ensures in
    let most = limits.limits.3.1 in
    let same = ap (λ l. l.records) limits.value in
    planned_by office c.args.call.now c.args.terms.now c.args.plan c.requires.plan c.requires.newest c.requires.day
    (after-fit office.limits office.history).sound c.requires.agrees c.requires.fits (omega (arith, most, same))
