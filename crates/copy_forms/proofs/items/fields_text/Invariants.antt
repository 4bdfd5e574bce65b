use Rattle.std.proofs.Common.{◌≡◌, [], ◌∷◌, ◌++◌, drop}
use Rattle.json.specs.Token.{begin_object}
use Rattle.copy_forms.specs.Json.{json_fields}
use Rattle.copy_csv.specs.Sheets.{row_of_texts}
use Rattle.copy_forms.proofs.JsonPrinting.{object_end}
use Rattle.copy_forms.proofs.items.fields_text.Given as goal

abbrev pub invariant-loop-place : goal.invariant-loop-place
invariant-loop-place l = record {
  alone : l.out.before ≡ [];
  so_far : l.out.tokens ++ object_end (drop l.place-index (json_fields (row_of_texts l.sheet l.texts))) ≡ begin_object ∷ object_end (json_fields (row_of_texts l.sheet l.texts));
}
