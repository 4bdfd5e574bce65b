use Rattle.golden_shelf.proofs.DeltaLemmas.{changes_are, changes_good, delta_given, lines_latest, rows_latest}
use Rattle.copy_forms.specs.Trails.{changes_between}
use Rattle.std.proofs.Common.{length}
use Rattle.golden_shelf.proofs.shelf.Shelf.delta_from.Goals as goal

pub returns-in-Ok-clause-given : goal.returns-in-Ok-clause-given
returns-in-Ok-clause-given c = λ trail last keeps is.
    let sheet = c.args.sheet in
    delta_given trail last sheet c.args.form c.is_wide-wide.result c.in-Ok.text c.args.from c.in-Some.newest.0 c.in-Some.newest.1 is (c.in-Some.ensures.latest trail keeps)
    (c.is_wide-wide.ensures trail last keeps is)
    (c.in-Ok.ensures (changes_between trail c.args.from (length trail) last sheet)
    (changes_good sheet trail last c.args.from keeps.sound (rows_latest trail last sheet keeps.sound is))
    (changes_are sheet _ _ trail last c.args.from keeps.issues_are (lines_latest trail last c.args.self.now.now sheet keeps is)))
