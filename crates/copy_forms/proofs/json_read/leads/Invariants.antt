use Rattle.std.proofs.Common.{◌≡◌, true, map, take}
use Rattle.lei_records.specs.Rows.{text_at}
use Rattle.copy_csv.specs.Sheets.{column_names}
use Rattle.copy_forms.specs.Json.{json_places}
use Rattle.copy_forms.specs.JsonTexts.{lead}
use Rattle.copy_forms.proofs.json_read.leads.Given as goal

abbrev pub invariant-loop-place : goal.invariant-loop-place
invariant-loop-place l =
    l.leads.items ≡ map (λ place. lead true (text_at (column_names l.fn.sheet) place)) (take l.place-index (json_places l.fn.sheet))
