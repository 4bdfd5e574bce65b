use Rattle.std.proofs.Common.{◌≡◌, ◌∷◌, ◌++◌, [], false, drop, length, map}
use Rattle.std.specs.Prelude.{nat_lt}
use Rattle.copy_forms.specs.JsonTexts.{before_delta, records_text, text_change_record}
use Rattle.copy_forms.proofs.json_write.json_delta_text.Given as goal

abbrev pub invariant-loop-index : goal.invariant-loop-index
invariant-loop-index l =
    l.out.items ++ (records_text (nat_lt 0 l.index) (map text_change_record (drop l.index l.changes)) ++ 125 ∷ [])
    ≡ before_delta l.fn.head (length l.changes) (records_text false (map text_change_record l.changes) ++ 125 ∷ [])
