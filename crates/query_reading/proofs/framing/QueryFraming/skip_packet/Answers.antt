use Rattle.std.proofs.Common.{◌≤◌, ◌+◌, ◌++◌, length, arith, length-append}
use Rattle.query_reading.proofs.QueryFronts.{skipped_frame, skips_on, drop-after}
use Rattle.query_reading.proofs.framing.QueryFraming.skip_packet.Goals as goal

pub returns-then-held-left : goal.returns-then-held-left
returns-then-held-left g c bytes holds =
    skips_on g.G.Grammar.says bytes c.args.held.now c.args.refusal c.args.left c.if-held-left.true holds

pub returns : goal.returns
returns g c bytes holds =
    let held = c.args.held.now in
    let left = c.args.left in
    let long : left ≤ length held = omega (arith, c.if-held-left.false) in
    let dropped = holds.1 in
    skipped_frame g.G.Grammar.says bytes held holds.0 (dropped ++ held) left (length dropped + left) c.args.refusal
    c.want_of.result long holds.4 holds.2 holds.3 (omega (arith, long, length-append dropped held))
    (drop-after dropped held left) c.want_of.ensures
