use Rattle.std.proofs.Common.{◌≡◌, ◌-◌, ◌≤◌, ◌++◌, codes, length, replicate}
use Rattle.copy_csv.specs.Sheets.{key_len, width}
use Rattle.golden_shelf.specs.Keys.{key_texts}
use Rattle.golden_shelf.proofs.deltas.dropped_row.Given as goal

-- the texts of the key are followed by empty ones
abbrev pub invariant-loop-texts : goal.invariant-loop-texts
invariant-loop-texts l = record {
  made : l.texts ≡ key_texts l.key ++ replicate (length l.texts - key_len l.sheet) (codes "");
  wide : key_len l.sheet ≤ length l.texts;
  within : length l.texts ≤ width l.sheet;
}

abbrev pub decreases-loop-texts : goal.decreases-loop-texts
decreases-loop-texts l = width l.sheet - length l.texts
