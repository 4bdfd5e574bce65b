use Rattle.std.proofs.Common.{◌≤◌, length, refl, arith}
use Rattle.query_reading.proofs.QueryFronts.{packet_frame}
use Rattle.query_reading.proofs.framing.QueryFraming.read_packet.Goals as goal

pub returns : goal.returns
returns g c bytes holds =
    let held = c.args.held.now in
    let size = c.args.size in
    let long : size ≤ length held = omega (arith, c.if-held-size.false) in
    packet_frame g.G.Grammar.says bytes held holds.0 held size size c.args.head c.packet_of-asked.result
    c.want_of.result long
    holds.3 holds.1 holds.2 long refl c.packet_of-asked.ensures c.want_of.ensures
