use Rattle.std.proofs.Common.{◌≡◌, ℕ, ◌+◌, ◌++◌, ◌∷◌, [], ap, cond, sym, take, arith, ◌∙◌}
use Rattle.std.specs.Prelude.{count_by}
use Rattle.std.proofs.lemmas.List.{take_more}
use Rattle.std.proofs.lemmas.List.Sums.{sum_by-append}
use Rattle.register_state.specs.Planning.{is_accepted}
use Rattle.register_state.proofs.planning.count_accepted.Goals as goal

pub loop-verdict-preserved : goal.loop-verdict-preserved
loop-verdict-preserved c =
    let list = c.args.verdicts.now in
    let at = c.loop-verdict.verdict-index in
    let v = c.verdict-item.result in
    let one : ℕ = cond (is_accepted v) 1 0 in
    let taken : take (at + 1) list ≡ take at list ++ v ∷ [] = take_more list at v c.loop-verdict-test.true ∙ ap (λ t. take at list ++ t ∷ []) (sym c.verdict-item.is) in
    let counts : count_by is_accepted (take (at + 1) list) ≡ count_by is_accepted (take at list) + (0 + one) =
    ap (count_by is_accepted) taken ∙ sum_by-append (λ v. cond (is_accepted v) 1 0) (take at list) (v ∷ []) in
    let before = c.loop-verdict.invariant in
    let added = c.one_if_accepted.ensures in
    let now = c.saturating_add-count.ensures in
    grind (arith, counts, before, added, now)
