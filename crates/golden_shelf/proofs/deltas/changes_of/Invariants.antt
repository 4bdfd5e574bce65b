use Rattle.std.proofs.Common.{◌≡◌, ◌++◌, drop, map}
use Rattle.copy_csv.specs.Csv.{rendered_in}
use Rattle.golden_shelf.specs.Deltas.{shown_in, texts_in}
use Rattle.golden_shelf.proofs.deltas.changes_of.Given as goal

-- the changes so far and those of the keys that are left are all changes
abbrev pub invariant-loop-key : goal.invariant-loop-key
invariant-loop-key l =
    map rendered_in l.changes.items ++ map (λ key. shown_in l.sheet l.side.lines (texts_in key)) (drop l.key-index l.keys)
    ≡ map (λ key. shown_in l.sheet l.side.lines (texts_in key)) l.keys
