use Rattle.copy_forms.proofs.CopyLemmas.{csv-delta, delta-read}
use Rattle.copy_forms.proofs.copies.read_delta_in_csv.Goals as goal

pub returns-clause-found : goal.returns-clause-found
returns-clause-found c =
    delta-read c.args.sheet c.args.bytes.now c.read_csv_delta.result c.read_csv_delta.ensures.head c.read_csv_delta.ensures.found

pub returns-clause-only : goal.returns-clause-only
returns-clause-only c = λ err head wide changes is.
    c.read_csv_delta.ensures.only err wide changes (csv-delta c.args.sheet c.args.bytes.now head wide changes is)
