use Rattle.std.proofs.Common.{◌≡◌, drop}
use Rattle.std.specs.List.{find}
use Rattle.lei_mirror.specs.Packets.{is_delta_to}
use Rattle.lei_mirror.proofs.ready.delta_among.Given as goal

-- the first match among the rest is the first among all
abbrev pub invariant-loop-packet : goal.invariant-loop-packet
invariant-loop-packet l =
    find (is_delta_to l.sheet l.number l.shown) (drop l.packet-index l.kept) ≡ find (is_delta_to l.sheet l.number l.shown) l.kept
