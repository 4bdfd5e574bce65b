use Rattle.std.proofs.Common.{◌≡◌, map, take}
use Rattle.lei_records.specs.Rows.{text_at}
use Rattle.copy_forms.specs.JsonReading.{json_ranks}
use Rattle.copy_forms.proofs.json_read.row_by_names.Given as goal

abbrev pub invariant-loop-rank : goal.invariant-loop-rank
invariant-loop-rank l = l.row ≡ map (text_at l.texts) (take l.rank-index (json_ranks l.fn.sheet))
