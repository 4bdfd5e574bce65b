use Rattle.copy_forms.proofs.CsvJoined.{delta-joined-ok}
use Rattle.copy_forms.proofs.copies.delta_in_csv.Goals as goal

pub returns : goal.returns
returns c = delta-joined-ok c.args.sheet c.args.wide c.args.changes.now c.csv_delta_text.result c.csv_delta_text.ensures
