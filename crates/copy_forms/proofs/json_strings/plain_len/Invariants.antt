use Rattle.std.proofs.Common.{◌≡◌, ℕ, ◌<◌, false, get_or}
use Rattle.copy_forms.specs.JsonReading.{is_escaped}
use Rattle.copy_forms.proofs.json_strings.plain_len.Given as goal

abbrev pub invariant-loop-index : goal.invariant-loop-index
invariant-loop-index l = (k : ℕ) → k < l.index → is_escaped (get_or l.bytes k 0) ≡ false
