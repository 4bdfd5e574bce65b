use Rattle.std.proofs.Common.{◌≡◌, length, false}
use Rattle.copy_csv.specs.CsvReading.{csv_text_from, with_front}
use Rattle.copy_csv.proofs.csv_read.Reader.text.Given as goal

-- what was made, followed by what the rest gives, is what all bytes give
abbrev pub invariant-loop-self : goal.invariant-loop-self
invariant-loop-self l = with_front l.out.items (csv_text_from l.self false) ≡ with_front l.initial.out.items (csv_text_from l.initial.self false)

abbrev pub decreases-loop-self : goal.decreases-loop-self
decreases-loop-self l = length l.self
