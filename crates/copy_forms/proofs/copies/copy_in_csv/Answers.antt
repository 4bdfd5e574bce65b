use Rattle.copy_forms.proofs.CsvJoined.{copy-joined-ok}
use Rattle.copy_forms.proofs.copies.copy_in_csv.Goals as goal

pub returns : goal.returns
returns c = copy-joined-ok c.args.sheet c.args.wide c.args.rows.now c.csv_copy_text.result c.csv_copy_text.ensures
