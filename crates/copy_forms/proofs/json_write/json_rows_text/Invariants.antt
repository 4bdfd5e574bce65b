use Rattle.std.proofs.Common.{◌≡◌, ◌∷◌, ◌++◌, [], false, drop, length, map}
use Rattle.std.specs.Prelude.{nat_lt}
use Rattle.copy_forms.specs.Json.{json_record}
use Rattle.copy_forms.specs.JsonTexts.{before_copy, records_text}
use Rattle.copy_forms.proofs.json_write.json_rows_text.Given as goal

abbrev pub invariant-loop-index : goal.invariant-loop-index
invariant-loop-index l =
    l.out.items ++ (records_text (nat_lt 0 l.index) (map (λ row. json_record row.now) (drop l.index l.rows)) ++ 125 ∷ [])
    ≡ before_copy l.fn.head (length l.rows) (records_text false (map (λ row. json_record row.now) l.rows) ++ 125 ∷ [])
