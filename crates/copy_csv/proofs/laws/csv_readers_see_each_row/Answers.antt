use Rattle.copy_csv.proofs.RecordLemmas.{copy-records, csv_line-records, delta-records}
use Rattle.copy_csv.proofs.laws.csv_readers_see_each_row.Goals as goal

pub returns-clause-lines : goal.returns-clause-lines
returns-clause-lines c = csv_line-records

pub returns-clause-copies : goal.returns-clause-copies
returns-clause-copies c = copy-records

pub returns-clause-deltas : goal.returns-clause-deltas
returns-clause-deltas c = delta-records
