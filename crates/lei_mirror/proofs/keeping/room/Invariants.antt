use Rattle.std.proofs.Common.{◌≡◌, ◌-◌, take}
use Rattle.lei_mirror.specs.Mirrors.{bytes_in}
use Rattle.lei_mirror.proofs.keeping.room.Given as goal

-- the number of bytes that are left after the packets so far
abbrev pub invariant-loop-packet : goal.invariant-loop-packet
invariant-loop-packet l = l.room ≡ 536_870_912 - bytes_in (take l.packet-index l.kept)
