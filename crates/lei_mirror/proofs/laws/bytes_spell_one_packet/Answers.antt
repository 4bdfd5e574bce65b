use Rattle.lei_mirror.proofs.PacketLemmas.{same_packet}
use Rattle.lei_mirror.proofs.laws.bytes_spell_one_packet.Goals as goal

pub returns : goal.returns
returns c = λ kind sheet bytes packet other short is are. same_packet sheet bytes short kind packet other is are
