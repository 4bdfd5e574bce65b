use Rattle.std.proofs.Common.{◌≡◌, ◌-◌, ◌++◌, [], length}
use Rattle.std.specs.Prelude.{replicate}
use Rattle.copy_csv.proofs.csv_rows.with_absent_texts.Given as goal

-- the texts so far, with those still to be appended, are all the texts
abbrev pub invariant-loop : goal.invariant-loop
invariant-loop l = l.texts ++ replicate (l.count - l.counter) [] ≡ l.fn.texts ++ replicate (l.count - length l.fn.texts) []
