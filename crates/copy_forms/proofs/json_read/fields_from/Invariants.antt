use Rattle.std.proofs.Common.{◌≡◌, false, drop}
use Rattle.copy_forms.specs.Json.{json_names}
use Rattle.copy_forms.specs.JsonReading.{fields_from}
use Rattle.copy_forms.proofs.JsonSteps.{with_texts}
use Rattle.copy_forms.proofs.json_read.fields_from.Given as goal

abbrev pub invariant-loop-lead : goal.invariant-loop-lead
invariant-loop-lead l =
    with_texts l.texts (fields_from (drop l.lead-index (json_names l.fn.sheet)) l.later l.rest) ≡ fields_from (json_names l.fn.sheet) false l.bytes
