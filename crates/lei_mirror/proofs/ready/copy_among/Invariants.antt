use Rattle.std.proofs.Common.{◌≡◌, drop}
use Rattle.std.specs.List.{find}
use Rattle.lei_mirror.specs.Packets.{is_copy_of}
use Rattle.lei_mirror.proofs.ready.copy_among.Given as goal

-- the first match among the rest is the first among all
abbrev pub invariant-loop-packet : goal.invariant-loop-packet
invariant-loop-packet l = find (is_copy_of l.sheet l.number) (drop l.packet-index l.kept) ≡ find (is_copy_of l.sheet l.number) l.kept
