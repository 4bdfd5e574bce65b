use Rattle.std.proofs.Common.{◌≡◌, Some, get_or, length, option_map, slice_get, take, arith, ap, refl, rules, subst, sym, ◌∙◌}
use Rattle.std.proofs.lemmas.Option.{slice_get-get_or}
use mathlib.Core.Bool.{true≢false}
use Rattle.register_history.specs.Damage.{not_made}
use Rattle.lei_office.proofs.Differing.{differs-at, lacks-at, one-more, same-all}
use Rattle.lei_office.proofs.comparing.first_difference.Goals as goal

pub returns-then-not-is_same : goal.returns-then-not-is_same
returns-then-not-is_same c =
    let kept = c.args.kept.now in
    let place = c.loop-place.place in
    let cell = c.index-kept-place.result in
    let own : get_or kept place cell ≡ cell = search rules in
    let at : slice_get kept place ≡ Some cell = slice_get-get_or kept place cell c.loop-place-test.true ∙ ap Some own in
    let found = c.cell_at-other.ensures in
    let apart : slice_get c.args.made.now place ≡ Some cell → ⊥ = λ is. true≢false (sym (c.if-not-is_same.ensures.apart (found ∙ is))) in
    differs-at kept c.args.made.now place cell c.in_ok-not_made.field-0 c.loop-place.invariant.same c.loop-place.invariant.within at apart
    (c.in_ok-not_made.ensures ∙ ap (not_made cell) found)

pub loop-place-preserved : goal.loop-place-preserved
loop-place-preserved c =
    let kept = c.args.kept.now in
    let place = c.loop-place.place in
    let cell = c.index-kept-place.result in
    let own : get_or kept place cell ≡ cell = search rules in
    let at : slice_get kept place ≡ Some cell = slice_get-get_or kept place cell c.loop-place-test.true ∙ ap Some own in
    let other : slice_get c.args.made.now place ≡ Some cell = sym c.cell_at-other.ensures ∙ c.if-not-is_same.ensures.same refl in
    one-more kept c.args.made.now place cell c.loop-place.invariant.same at other

pub returns-in_ok-not_kept-in-Some : goal.returns-in_ok-not_kept-in-Some
returns-in_ok-not_kept-in-Some c =
    let kept = c.args.kept.now in
    let all : c.loop-place.place ≡ length kept = search (arith, rules) in
    let same : take (length kept) kept ≡ take (length kept) c.args.made.now = subst (λ n. take n kept ≡ take n c.args.made.now) all c.loop-place.invariant.same in
    let at : slice_get c.args.made.now (length kept) ≡ Some c.in-Some.cell.now = sym c.cell_at.ensures ∙ ap (option_map (λ cell. cell.now)) c.in-Some.is in
    lacks-at kept c.args.made.now c.in-Some.cell.now c.in_ok-not_kept-in-Some.field-0 same at c.in_ok-not_kept-in-Some.ensures

pub returns-in-None : goal.returns-in-None
returns-in-None c =
    let kept = c.args.kept.now in
    let all : c.loop-place.place ≡ length kept = search (arith, rules) in
    let same : take (length kept) kept ≡ take (length kept) c.args.made.now = subst (λ n. take n kept ≡ take n c.args.made.now) all c.loop-place.invariant.same in
    same-all kept c.args.made.now same (sym c.cell_at.ensures ∙ ap (option_map (λ cell. cell.now)) c.in-None.is)
