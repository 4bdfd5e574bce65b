use Rattle.lei_records.proofs.PrintedLemmas.{moment_in-read}
use Rattle.lei_records.proofs.printed.Printed.moment.Goals as goal

pub returns-in-Some : goal.returns-in-Some
returns-in-Some c = moment_in-read _ c.args.place _ c.in-Some.ensures
