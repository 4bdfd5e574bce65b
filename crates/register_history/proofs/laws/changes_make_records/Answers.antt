use Rattle.register_history.proofs.Passing.{all_records}
use Rattle.register_history.proofs.laws.changes_make_records.Goals as goal

pub returns : goal.returns
returns c = all_records
