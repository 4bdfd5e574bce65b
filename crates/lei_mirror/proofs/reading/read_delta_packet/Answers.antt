use Rattle.std.proofs.Common.{Err, ap}
use Rattle.lei_mirror.proofs.PacketLemmas.{no_delta}
use Rattle.lei_mirror.proofs.reading.read_delta_packet.Goals as goal

pub returns-in-Err-NotRead-clause-only : goal.returns-in-Err-NotRead-clause-only
returns-in-Err-NotRead-clause-only c = λ _. no_delta c.args.sheet c.args.bytes.now (c.in-Err-NotRead.ensures.only (ap Err c.in-Err-NotRead.field-0-is))
