use Rattle.std.proofs.Common.{◌<◌, ◌^◌, ap, length, rules}
use Rattle.lei_mirror.specs.declared.packet.Packet.{Packet}
use Rattle.lei_mirror.proofs.PacketLemmas.{same_packet}
use Rattle.lei_mirror.proofs.reading.read_body.Goals as goal

pub returns-in-Ok : goal.returns-in-Ok
returns-in-Ok c = λ packet is.
    let short : length c.args.bytes.now < 2 ^ 64 = search rules in
    ap (λ (p : Packet). p.body) (same_packet c.args.sheet c.args.bytes.now short c.args.kind c.in-Ok.packet packet c.in-Ok.ensures.found is)
