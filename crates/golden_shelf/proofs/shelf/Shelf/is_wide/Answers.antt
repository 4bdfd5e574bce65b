use Rattle.std.proofs.Common.{ap, ◌∙◌, ◌-◌, length}
use Rattle.std.specs.List.{slice_get}
use Rattle.golden_shelf.proofs.Publishing.{none_told, wide_told}
use Rattle.golden_shelf.proofs.shelf.Shelf.is_wide.Goals as goal

pub returns-in-Some : goal.returns-in-Some
returns-in-Some c = λ trail last keeps is.
    c.width_in.ensures
    ∙ wide_told c.self.inside.issues.items c.args.self.now.now.issues trail last c.args.sheet c.args.form c.in-Some.issue.now
    (ap (λ s. s.now.issues) c.self.view_is) keeps.issues_are is
    (c.in-Some.ensures.value ∙ ap (λ l. slice_get l (length l - 1)) c.as_slice.ensures.value)

pub returns-in-None : goal.returns-in-None
returns-in-None c = λ trail last keeps is.
    absurd (none_told c.self.inside.issues.items c.args.self.now.now.issues trail last (ap (λ s. s.now.issues) c.self.view_is) keeps.issues_are is
    (c.in-None.ensures.value ∙ ap (λ l. slice_get l (length l - 1)) c.as_slice.ensures.value))
