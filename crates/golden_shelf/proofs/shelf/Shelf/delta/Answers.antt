use Rattle.std.proofs.Common.{ap, length, ◌∙◌}
use Rattle.copy_forms.specs.Trails.{delta_between}
use Rattle.golden_shelf.specs.Bases.{base_in, moments_in}
use Rattle.golden_shelf.proofs.BaseLemmas.{found_so, found_within, in_both, not_found, not_refused, refused_so}
use Rattle.golden_shelf.proofs.Publishing.{if_ok}
use Rattle.golden_shelf.proofs.shelf.Shelf.delta.Goals as goal

pub delta_from-requires-clause-from : goal.delta_from-requires-clause-from
delta_from-requires-clause-from c =
    let same = ap (λ s. s.now.issues) c.self.view_is in
    let numbered = c.base_number.ensures ∙ ap (λ l. base_in (moments_in l) c.args.base) c.as_slice.ensures.value in
    found_within c.self.inside.issues.items c.args.self.now.now.issues c.args.base c.base_number.result c.in-Ok.from same numbered c.in-Ok.is

pub returns-in-Ok-clause-refused : goal.returns-in-Ok-clause-refused
returns-in-Ok-clause-refused c = λ trail fault keeps refused.
    let same = ap (λ s. s.now.issues) c.self.view_is in
    let numbered = c.base_number.ensures ∙ ap (λ l. base_in (moments_in l) c.args.base) c.as_slice.ensures.value in
    absurd (not_refused c.self.inside.issues.items c.args.self.now.now.issues trail c.args.base c.base_number.result fault c.in-Ok.from same
    keeps.issues_are numbered c.in-Ok.is refused)

pub returns-in-Ok-clause-given : goal.returns-in-Ok-clause-given
returns-in-Ok-clause-given c = λ trail from last keeps is found.
    let same = ap (λ s. s.now.issues) c.self.view_is in
    let numbered = c.base_number.ensures ∙ ap (λ l. base_in (moments_in l) c.args.base) c.as_slice.ensures.value in
    in_both c.delta_from.result _ _
    (if_ok c.delta_from.result _ _ c.delta_from.ensures.given
    (λ bytes given. given trail last keeps is
    ∙ ap (λ n. delta_between trail n (length trail) last c.args.sheet c.args.form)
    (found_so c.self.inside.issues.items c.args.self.now.now.issues trail c.args.base c.base_number.result c.in-Ok.from from same keeps.issues_are
    numbered c.in-Ok.is found)))
    c.delta_from.ensures.faults

pub returns-in-Err-clause-refused : goal.returns-in-Err-clause-refused
returns-in-Err-clause-refused c = λ trail fault keeps refused.
    let same = ap (λ s. s.now.issues) c.self.view_is in
    let numbered = c.base_number.ensures ∙ ap (λ l. base_in (moments_in l) c.args.base) c.as_slice.ensures.value in
    refused_so c.self.inside.issues.items c.args.self.now.now.issues trail c.args.base c.base_number.result c.in-Err.fault fault same
    keeps.issues_are numbered c.in-Err.is refused

pub returns-in-Err-clause-given : goal.returns-in-Err-clause-given
returns-in-Err-clause-given c = λ trail from last keeps is found.
    let same = ap (λ s. s.now.issues) c.self.view_is in
    let numbered = c.base_number.ensures ∙ ap (λ l. base_in (moments_in l) c.args.base) c.as_slice.ensures.value in
    absurd (not_found c.self.inside.issues.items c.args.self.now.now.issues trail c.args.base c.base_number.result c.in-Err.fault from same
    keeps.issues_are numbered c.in-Err.is found)
