use Rattle.copy_forms.proofs.CopyLemmas.{csv-copy, copy-read}
use Rattle.copy_forms.proofs.copies.read_copy_in_csv.Goals as goal

pub returns-clause-found : goal.returns-clause-found
returns-clause-found c =
    copy-read c.args.sheet c.args.bytes.now c.read_csv_copy.result c.read_csv_copy.ensures.head c.read_csv_copy.ensures.found

pub returns-clause-only : goal.returns-clause-only
returns-clause-only c = λ err head wide rows is.
    c.read_csv_copy.ensures.only err wide rows (csv-copy c.args.sheet c.args.bytes.now head wide rows is)
