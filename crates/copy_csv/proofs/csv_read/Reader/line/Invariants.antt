use Rattle.std.proofs.Common.{◌≡◌, ◌-◌}
use Rattle.std.specs.Str.{IsUtf8}
use Rattle.copy_csv.specs.CsvReading.{line_from, with_first_texts}
use Rattle.copy_csv.specs.Cuts.{IsCut, parts_at_ends}
use Rattle.copy_csv.proofs.csv_read.Reader.line.Given as goal

-- the texts that were read, followed by those that the rest gives, are those that all bytes give
abbrev pub invariant-loop-index : goal.invariant-loop-index
invariant-loop-index l = record {
  ahead : with_first_texts (parts_at_ends l.bytes.items l.ends) (line_from (l.count - l.index) l.self) ≡ line_from l.count l.initial.self;
  cut : IsCut l.bytes.items l.ends;
  utf8 : IsUtf8 l.self;
}
