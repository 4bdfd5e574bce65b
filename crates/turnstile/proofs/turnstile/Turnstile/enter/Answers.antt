use Rattle.std.specs.Fn.{FnOnceReturnsAtMut}
use Rattle.turnstile.specs.Meaning.{meaning}
use Rattle.std.proofs.Common.{sym, ◌∙◌}
use Rattle.turnstile.proofs.Turning.{at_turn, written, passed_on, still_pass, turn_is}
use Rattle.turnstile.proofs.turnstile.Turnstile.enter.Goals as goal

pub pass_on-requires-clause-value : goal.pass_on-requires-clause-value
pass_on-requires-clause-value g c =
    let value = c.wait_turn-seat.ensures.value in
    let answer = c.act_on-answer.result in
    let y = c.act_on-answer.new.value in
    let acted = at_turn (λ x. FnOnceReturnsAtMut g.F.FnOnce c.args.act x answer y) _ _ _ _ value.2 c.slot_mut.ensures.value c.act_on-answer.ensures in
    (c.args.pass, value.0, value.1, y, written _ _ _ _ value.2, value.3.stays.0, c.requires.goes_on _ _ _ acted, c.requires.tells _ _ _ acted)

pub of-requires : goal.of-requires
of-requires g c =
    let m = meaning g.T.Tally.entries g.T.Tally.faults g.T.Tally.stays g.T.Tally.first g.T.Tally.tells in
    let value = c.wait_turn-seat.ensures.value in
    let answer = c.act_on-answer.result in
    let y = c.act_on-answer.new.value in
    let seat = passed_on m c.args.pass value.0 value.1 y (g.A.Said.said answer) _ _ (written _ _ _ _ value.2) c.pass_on.ensures.view in
    still_pass m c.args.pass value.1 y (g.A.Said.said answer) c.pass_on.new.seat.table_id _ seat

pub returns : goal.returns
returns g c =
    let m = meaning g.T.Tally.entries g.T.Tally.faults g.T.Tally.stays g.T.Tally.first g.T.Tally.tells in
    let value = c.wait_turn-seat.ensures.value in
    let answer = c.act_on-answer.result in
    let y = c.act_on-answer.new.value in
    let acted = at_turn (λ x. FnOnceReturnsAtMut g.F.FnOnce c.args.act x answer y) _ _ _ _ value.2 c.slot_mut.ensures.value c.act_on-answer.ensures in
    let seat = passed_on m c.args.pass value.0 value.1 y (g.A.Said.said answer) _ _ (written _ _ _ _ value.2) c.pass_on.ensures.view in
    let table = c.pass_on.ensures.seat ∙ c.wait_turn-seat.ensures.seat in
    record {
      turn = (value.1, y, acted, turn_is m c.args.pass value.1 y (g.A.Said.said answer) c.pass_on.new.seat.table_id _ _ value.3 (c.requires.goes_on _ _ _ acted) seat (table ∙ sym c.requires.pass) c.of.ensures);
    }
