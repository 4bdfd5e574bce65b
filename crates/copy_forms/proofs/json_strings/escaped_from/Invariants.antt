use Rattle.std.proofs.Common.{◌≡◌, length}
use Rattle.copy_forms.specs.JsonReading.{string_from}
use Rattle.copy_forms.proofs.JsonStrings.{with_text}
use Rattle.copy_forms.proofs.json_strings.escaped_from.Given as goal

abbrev pub decreases-loop-text : goal.decreases-loop-text
decreases-loop-text l = length l.rest

abbrev pub invariant-loop-text : goal.invariant-loop-text
invariant-loop-text l = with_text l.text.items (string_from l.rest) ≡ string_from l.bytes
