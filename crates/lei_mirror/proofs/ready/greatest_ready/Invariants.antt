use Rattle.lei_mirror.proofs.ReadyLemmas.{GreatestSoFar}
use Rattle.lei_mirror.proofs.ready.greatest_ready.Given as goal

-- the greatest ready publication of the packets so far
abbrev pub invariant-loop-packet : goal.invariant-loop-packet
invariant-loop-packet l = GreatestSoFar l.shown l.kept l.packet-index l.greatest
