use Rattle.std.proofs.Common.{sym, subst}
use Rattle.std.specs.Prelude.{IsErrOf}
use Rattle.lei_mirror.specs.declared.faults.MirrorFault.{MirrorFault}
use Rattle.lei_mirror.specs.declared.packet.PacketKind.{PacketKind}
use Rattle.lei_mirror.specs.Packets.{IsNoPacket}
use Rattle.lei_mirror.proofs.reading.read_packet.Goals as goal

pub returns-in-Copy-clause-only : goal.returns-in-Copy-clause-only
returns-in-Copy-clause-only c =
    let F : PacketKind → Type 0 = λ kind. IsErrOf c.read_copy_packet.result MirrorFault.NotRead → IsNoPacket kind c.args.sheet c.args.bytes.now in
    subst F (sym c.in-Copy.is) c.read_copy_packet.ensures.only

pub returns-in-Delta-clause-only : goal.returns-in-Delta-clause-only
returns-in-Delta-clause-only c =
    let F : PacketKind → Type 0 = λ kind. IsErrOf c.read_delta_packet.result MirrorFault.NotRead → IsNoPacket kind c.args.sheet c.args.bytes.now in
    subst F (sym c.in-Delta.is) c.read_delta_packet.ensures.only
