use Rattle.std.proofs.Common.{◌≡◌, ◌-◌, ◌≤◌, true, drop, length, take}
use Rattle.std.specs.FinMap.Entries.{below_all}
use Rattle.lei_records.specs.Tables.{key_cmp}
use Rattle.golden_shelf.specs.Keys.{key_texts}
use Rattle.golden_shelf.proofs.Woven.{AreBelow}
use Rattle.golden_shelf.proofs.lines.Lines.place.Given as goal

-- the lines before `low` are before the key, and those from `high` on are after it
abbrev pub invariant-loop-low : goal.invariant-loop-low
invariant-loop-low l = record {
  below : AreBelow (key_texts l.key) (take l.low l.self.lines);
  above : below_all key_cmp (key_texts l.key) (drop l.high l.self.lines) ≡ true;
  ordered : l.low ≤ l.high;
  within : l.high ≤ length l.keys;
}

abbrev pub decreases-loop-low : goal.decreases-loop-low
decreases-loop-low l = l.high - l.low
