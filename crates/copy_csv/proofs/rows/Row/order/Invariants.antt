use Rattle.std.proofs.Common.{◌≡◌, drop}
use Rattle.lei_records.specs.Tables.{key_cmp}
use Rattle.copy_csv.specs.Sheets.{key}
use Rattle.copy_csv.proofs.rows.Row.order.Given as goal

-- the rests of the keys compare as the whole keys do
abbrev pub invariant-loop-index : goal.invariant-loop-index
invariant-loop-index l = key_cmp (drop l.index (key l.self)) (drop l.index (key l.other)) ≡ key_cmp (key l.self) (key l.other)
