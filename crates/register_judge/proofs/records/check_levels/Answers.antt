use Rattle.std.proofs.Common.{◌≡◌, ◌∙◌, IfOk, ap, false, length, subst, sym, unwrap_or}
use Rattle.std.specs.Prelude.{◌==◌}
use Rattle.lei_records.specs.Cells.{lei_in, successors_in}
use Rattle.relation_rules.specs.declared.checked.Checked.{Checked}
use Rattle.relation_rules.specs.Checking.{check_walked}
use Rattle.successor_rules.specs.Successors.{walk_by_levels}
use Rattle.register_judge.specs.Judging.{check_each, check_key, check_levels}
use Rattle.register_judge.proofs.TakingLemmas.{levels_of}
use Rattle.register_judge.proofs.records.check_levels.Goals as goal

pub returns-in-Some : goal.returns-in-Some
returns-in-Some g c =
    let cells = g.V.View.cells c.args.view.now in
    let item = c.args.item.now in
    let named = successors_in item in
    let next = check_walked 17 18 (walk_by_levels cells (lei_in item) named) (check_key cells item) in
    let some : (length named == 0) ≡ false = ap (λ leis. length leis == 0) (sym c.successors-successors.ensures) ∙ (sym c.is_empty.ensures ∙ c.if-is_empty.false) in
    sym (levels_of cells item named some
    ∙ (ap (λ leis. check_each cells leis next) (sym (c.as_slice.ensures ∙ c.successors-successors.ensures))
    ∙ (c.first_unheld.ensures next ∙ ap (λ found. unwrap_or found next) c.in-Some.is)))

pub returns-in-None : goal.returns-in-None
returns-in-None g c =
    let cells = g.V.View.cells c.args.view.now in
    let item = c.args.item.now in
    let named = successors_in item in
    let next = check_walked 17 18 (walk_by_levels cells (lei_in item) named) (check_key cells item) in
    let some : (length named == 0) ≡ false = ap (λ leis. length leis == 0) (sym c.successors-successors.ensures) ∙ (sym c.is_empty.ensures ∙ c.if-is_empty.false) in
    let same : check_levels cells item named ≡ next =
    levels_of cells item named some
    ∙ (ap (λ leis. check_each cells leis next) (sym (c.as_slice.ensures ∙ c.successors-successors.ensures))
    ∙ (c.first_unheld.ensures next ∙ ap (λ found. unwrap_or found next) c.in-None.is)) in
    let P : Checked → Type 0 = λ right. IfOk c.check_spread.result (λ checked. checked ≡ right) in
    subst P (ap (λ leis. check_walked 17 18 (walk_by_levels cells (lei_in item) leis) (check_key cells item)) c.successors-successors.ensures ∙ sym same) c.check_spread.ensures
