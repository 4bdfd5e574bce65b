use Rattle.std.proofs.Common.{◌≡◌, false, take}
use Rattle.std.specs.List.{list_any}
use Rattle.lei_mirror.specs.Packets.{is_like}
use Rattle.lei_mirror.proofs.keeping.is_kept.Given as goal

-- no packet so far is like it
abbrev pub invariant-loop-other : goal.invariant-loop-other
invariant-loop-other l = list_any (is_like l.packet) (take l.other-index l.kept) ≡ false
