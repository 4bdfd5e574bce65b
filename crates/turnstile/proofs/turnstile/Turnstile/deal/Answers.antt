use Rattle.std.proofs.Common.{ap, ◌∙◌, arith, rules}
use Rattle.turnstile.specs.Rule.{busy, in_turn}
use Rattle.turnstile.proofs.Parting.{splits}
use Rattle.turnstile.proofs.Dealing.{cut_off, last_off, dealt_more, dealt_all, dealt_none, AllDealt}
use Rattle.turnstile.proofs.turnstile.Turnstile.deal.Given.{Over}
use Rattle.turnstile.proofs.turnstile.Turnstile.deal.Goals as goal

pub loop-number-init : goal.loop-number-init
loop-number-init g c = (c.requires.seat, c.requires.room.1, dealt_none _ _ _ _ _ _ c.requires.room.0 c.requires.view)

pub split_seat-part-requires : goal.split_seat-part-requires
split_seat-part-requires g c =
    let seat = c.loop-number.invariant.2.me_is in
    (search rules, omega (arith, c.self.invariant.0), splits _ _ _ _ _ (ap (λ me. busy me.0) seat) (ap (λ me. in_turn me.0) seat))

pub of-requires : goal.of-requires
of-requires g c =
    let left = c.loop-number-test.true in
    cut_off c.args.self.now.table _ _ _ _ _ _ _ c.split_seat-part.result.table_id c.loop-number.invariant.2 (omega (arith, left)) c.split_seat-part.ensures.4

pub loop-number-preserved : goal.loop-number-preserved
loop-number-preserved g c =
    let inv = c.loop-number.invariant in
    let left = c.loop-number-test.true in (
      c.split_seat-part.ensures.0 ∙ inv.0,
      (let room = c.push_reserved.ensures.room in omega (arith, inv.1, room)),
      dealt_more _ _ _ _ _ _ _ _ _ _ _ _ inv.2 (omega (arith, left)) c.split_seat-part.ensures.4 c.split_seat-part.ensures.2 (c.split_seat-part.ensures.3 ∙ inv.0)
          c.of.ensures c.push_reserved.ensures.items,
    )

pub of-requires-2 : goal.of-requires-2
of-requires-2 g c =
    let done = c.loop-number-test.false in
    let end = c.loop-number.auto._number-end in
    last_off c.args.self.now.table _ _ _ _ _ _ c.loop-number.seat.table_id c.loop-number.invariant.2 (omega (arith, done, end, c.requires.some))

dealt : (g : Over) (c : goal.After-push_reserved-2 g)
    → AllDealt c.args.self.now.table (g.T.Tally.entries c.args.self.now.value) (g.T.Tally.stays c.args.self.now.value) c.args.passes c.push_reserved-2.new.list.items
dealt g c =
    let inv = c.loop-number.invariant in
    let done = c.loop-number-test.false in
    let end = c.loop-number.auto._number-end in
    dealt_all _ _ _ _ _ _ _ _ _ _ inv.2 (omega (arith, done, end, c.requires.some)) inv.0 c.of-2.ensures c.push_reserved-2.ensures.items

pub returns-clause-passes : goal.returns-clause-passes
returns-clause-passes g c = (dealt g c).new

pub returns-clause-all : goal.returns-clause-all
returns-clause-all g c = (dealt g c).all
