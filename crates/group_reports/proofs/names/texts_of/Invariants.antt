use Rattle.std.proofs.Common.{◌≡◌, map, take}
use Rattle.lei_records.specs.Rows.{text_at}
use Rattle.group_reports.proofs.names.texts_of.Given as goal

-- the texts of the rows so far were pushed
abbrev pub invariant-loop-row : goal.invariant-loop-row
invariant-loop-row l = l.texts ≡ map (λ row. text_at row.texts l.place) (take l.row-index l.rows)
