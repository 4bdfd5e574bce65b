use Rattle.std.proofs.Common.{◌≡◌, ◌++◌, true, drop, map}
use Rattle.std.specs.List.{All}
use Rattle.golden_shelf.specs.Deltas.{changed_in, texts_in}
use Rattle.golden_shelf.specs.Keys.{is_key_of}
use Rattle.golden_shelf.proofs.touched.all_touched.Given as goal

-- the keys so far and those of the publications that are left are all keys
abbrev pub invariant-loop-issue : goal.invariant-loop-issue
invariant-loop-issue l = record {
  keys : map texts_in l.keys.items ++ changed_in l.sheet (drop l.issue-index l.issues) ≡ changed_in l.sheet l.issues;
  own : All (λ key. is_key_of l.sheet key.key ≡ true) l.keys.items;
}
