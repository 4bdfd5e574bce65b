use Rattle.std.proofs.Common.{◌≡◌, map, take}
use Rattle.lei_mirror.proofs.showing.lent_rows.Given as goal

-- the references are those to the rows so far
abbrev pub invariant-loop-row : goal.invariant-loop-row
invariant-loop-row l = map (λ row. row.now) l.made.items ≡ take l.row-index l.rows
