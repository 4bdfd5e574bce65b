use Rattle.copy_csv.proofs.FileLemmas.{one_copy, one_delta}
use Rattle.copy_forms.proofs.laws.csv_tells_its_rows.Goals as goal

pub returns : goal.returns
returns c = record { copies = one_copy; deltas = one_delta }
