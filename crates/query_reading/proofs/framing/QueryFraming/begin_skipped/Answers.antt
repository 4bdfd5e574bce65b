use Rattle.std.proofs.Common.{◌≤◌, ◌+◌, length, take, drop, ap, arith, length-drop}
use Rattle.std.proofs.lemmas.List.{drop-drop}
use Rattle.query_reading.proofs.QueryFronts.{skipped_frame}
use Rattle.query_reading.proofs.framing.QueryFraming.begin_skipped.Goals as goal

pub returns : goal.returns
returns g c ends is =
    let held = c.args.held.now in
    let end = c.args.end in
    let size = c.args.size in
    let long : size ≤ length (drop (end + 1) held) = omega
    (arith, c.if-after-size.false, ap length c.split_at.ensures.back) in
    skipped_frame g.G.Grammar.says held held (take end held) (drop (end + 1) held) (end + 1 + size) size c.args.refusal
    c.want_of.result (omega (arith, long, length-drop (end + 1) held, c.requires.within)) (omega arith) ends is long
    (drop-drop size (end + 1) held) c.want_of.ensures
