use Rattle.lei_office.proofs.Differing.{SoFar}
use Rattle.lei_office.proofs.comparing.first_difference.Given as goal

abbrev pub invariant-loop-place : goal.invariant-loop-place
invariant-loop-place l = SoFar l.kept l.made l.place
