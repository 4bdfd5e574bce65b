use Rattle.std.proofs.Common.{refl}
use Rattle.delta_apply.proofs.Putting.{csv-older}
use Rattle.delta_apply.proofs.csv.answer_older.Goals as goal

pub returns-in-Ok : goal.returns-in-Ok
returns-in-Ok c = λ lines changes has.
    (c.in-Ok.read.rows, csv-older c.args.sheet c.in-Ok.read.wide c.args.copy.now lines c.in-Ok.read.rows has c.in-Ok.ensures.found, refl)
