use Rattle.std.proofs.Common.{◌≡◌, get_or, map, take}
use Rattle.group_reports.proofs.tops.twice.Given as goal

-- those of the places so far were pushed
abbrev pub invariant-loop-place : goal.invariant-loop-place
invariant-loop-place l = l.further.items ≡ map (λ place. get_or l.far place 0) (take l.place-index l.far)
