use Rattle.std.proofs.Common.{ap}
use Rattle.golden_shelf.proofs.DeltaLemmas.{rows_each}
use Rattle.golden_shelf.proofs.Publishing.{copied, rows_kept}
use Rattle.golden_shelf.proofs.shelf.Shelf.copy.Goals as goal

pub returns-in-Ok-clause-copy : goal.returns-in-Ok-clause-copy
returns-in-Ok-clause-copy c = λ trail last keeps is.
    copied trail last c.args.sheet c.args.form c.is_wide-wide.result c.in-Ok.text c.in-Some.latest.0 c.in-Some.latest.1 is (c.in-Some.ensures.latest trail keeps)
    (c.is_wide-wide.ensures trail last keeps is)
    (c.in-Ok.ensures (last.rows c.args.sheet)
    (rows_kept c.self.inside.issues.items c.self.inside.sides c.args.self.now.now trail last c.args.sheet c.texts.result.now
    (ap (λ s. s.now) c.self.view_is) keeps is c.texts.ensures)
    (rows_each trail last c.args.sheet keeps.sound is))
