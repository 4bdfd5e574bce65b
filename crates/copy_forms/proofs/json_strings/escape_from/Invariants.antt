use Rattle.std.proofs.Common.{◌≡◌, ℕ, ◌<◌, [], map, None, get_or}
use Rattle.copy_forms.specs.JsonReading.{after_front, escapes, read_escape}
use Rattle.copy_forms.proofs.json_strings.escape_from.Given as goal

abbrev pub invariant-loop-byte : goal.invariant-loop-byte
invariant-loop-byte l = record {
  table : map read_escape l.byte-items ≡ escapes;
  missed : (k : ℕ) → k < l.byte-index → after_front (get_or escapes k (0, [])).1 l.bytes ≡ None;
}
