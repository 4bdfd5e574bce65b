use Rattle.delta_apply.proofs.Answering.{csv-answer, csv-changes, csv-widths}
use Rattle.delta_apply.proofs.applying.apply_in_csv.Goals as goal

pub patch_csv-requires-clause-changes : goal.patch_csv-requires-clause-changes
patch_csv-requires-clause-changes c = csv-changes c.args.delta.now c.args.sheet c.in-Ok.read c.in-Ok.ensures.found

pub patch_csv-requires-clause-widths : goal.patch_csv-requires-clause-widths
patch_csv-requires-clause-widths c = csv-widths c.args.delta.now c.args.sheet c.in-Ok.read c.in-Ok.ensures.found

pub returns : goal.returns
returns c =
    csv-answer c.args.copy.now c.args.delta.now c.args.sheet c.in-Ok.read c.in-Ok.ensures.found c.patch_csv.result c.patch_csv.ensures
