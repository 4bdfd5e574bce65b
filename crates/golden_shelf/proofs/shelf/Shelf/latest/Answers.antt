use Rattle.std.proofs.Common.{ap, sym, subst, length, arith, ◌-◌, ◌∙◌}
use Rattle.std.specs.List.{slice_get}
use Rattle.golden_shelf.specs.Shelves.{AreIssuesOf}
use Rattle.golden_shelf.proofs.Publishing.{latest_told, length_issues}
use Rattle.golden_shelf.proofs.shelf.Shelf.latest.Goals as goal

pub returns-clause-latest : goal.returns-clause-latest
returns-clause-latest c = λ trail keeps.
    let are = subst (λ l. AreIssuesOf l trail) (sym (ap (λ s. s.now.issues) c.self.view_is)) keeps.issues_are in
    let n = length_issues c.self.inside.issues.items trail are in
    let m = c.len.ensures in
    latest_told c.self.inside.issues.items trail c.len.result c.in_ok-issue.issue.now are (omega (arith, n, m))
    (c.in_ok-issue.ensures.value ∙ ap (λ l. slice_get l (length l - 1)) c.as_slice.ensures.value)
