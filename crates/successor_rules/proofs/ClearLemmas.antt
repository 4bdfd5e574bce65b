-- If the walk by levels ends, each way from what the entity names ends without meeting it.
use Rattle.std.specs.Prelude.{◌≡◌, ℕ, zero, suc, ◌≤◌, max, Bool, true, false, not, cond, ◌&&◌, ◌||◌, List, [], ◌∷◌, ◌++◌, length}
use Rattle.std.specs.List.{Contains}
use Rattle.std.specs.Str.{bytes_eq}
use Rattle.std.proofs.Common.{refl, sym, ap, subst, ◌∙◌, inl, inr, arith}
use Rattle.std.proofs.lemmas.Bool.{cases_Bool, cond-false, false≢true, ltb-false, or_left, or_right}
use Rattle.std.proofs.lemmas.Map.Made.{is_member-Decides}
use Rattle.std.proofs.lemmas.Slice.Eq.{bytes_eq-Decides}
use Rattle.successor_rules.specs.declared.walks.Walked.{Walked}
use Rattle.successor_rules.specs.Chains.{AllEnd, EndsClear, EndsIn, IsTurned, Nexts}
use Rattle.successor_rules.specs.Levels.{each_once, has_wide_levels, is_back, next_level, onward_leis, others, spread_out}
use Rattle.successor_rules.proofs.ChainLemmas.{keeps_ends}
use Rattle.successor_rules.proofs.LevelLemmas.{has, has-append, next-has, once-has, same_text}
use Rattle.successor_rules.proofs.RiseLemmas.{levels-has, others-next, others-stand}

-- membership in a list, by test and by place
pub has_so : (xs : List (List ℕ)) (x : List ℕ) → Contains xs x → has xs x ≡ true
has_so xs x at = (is_member-Decides bytes_eq-Decides xs x).1 at

-- what ends within this many steps ends within more
ends_more : (m n : ℕ) (nexts : Nexts) (lei : List ℕ) → n ≤ m → EndsIn n nexts lei → EndsIn m nexts lei
ends_more m zero nexts lei less ends = absurd ends
ends_more zero (suc n) nexts lei less ends = absurd (omega arith)
ends_more (suc m) (suc n) nexts lei less ends = λ next at. ends_more m n nexts next (omega arith) (ends next at)

-- the ways from several LEIs end within a common number of steps
ends_together : (nexts : Nexts) (leis : List (List ℕ)) → AllEnd nexts → (n : ℕ) × ((lei : List ℕ) → has leis lei ≡ true → EndsIn n nexts lei)
ends_together nexts [] all = (0, λ lei at. absurd (false≢true at))
ends_together nexts (x ∷ xs) all =
    let here = all x in
    let rest = ends_together nexts xs all in (
      max here.0 rest.0,
      λ lei at.
          elim (cases_Bool (bytes_eq lei x)) [
            | inl is ↦ ends_more (max here.0 rest.0) here.0 nexts lei (omega arith) (subst (EndsIn here.0 nexts) (sym (same_text lei x is)) here.1)
            | inr other ↦ ends_more (max here.0 rest.0) rest.0 nexts lei (omega arith)
                (rest.1 lei (sym (ap (λ b. b || has xs lei) other) ∙ at))
          ],
    )

-- a walk that ends is neither too long nor back
ended_parts : (wide back : Bool) → cond wide Walked.Long (cond back Walked.Meets Walked.Ends) ≡ Walked.Ends → (wide ≡ false) × (back ≡ false)
ended_parts true back is = absurd cc
ended_parts false true is = absurd cc
ended_parts false false is = (refl, refl)

module _ (nexts : Nexts) (own : List ℕ) (targets : List (List ℕ)) (ended : spread_out nexts own targets ≡ Walked.Ends) where
  -- the LEIs that are reached, and all that they and the entity name
  reached : List (List ℕ)
  reached = others 200 nexts own targets

  named : List (List ℕ)
  unfolding reached
  named = targets ++ next_level nexts own reached

  parts : (has_wide_levels nexts own targets ≡ false) × (is_back nexts own targets ≡ false)
  parts = ended_parts (has_wide_levels nexts own targets) (is_back nexts own targets) ended

  -- the reached LEIs are all the named ones except the entity's own
  closed : reached ≡ each_once (own ∷ []) named
  unfolding reached named
  closed =
      sym (others-stand nexts own targets 200 (ltb-false 200 (length (others 201 nexts own targets)) parts.0))
      ∙ others-next nexts own targets 200

  own_unnamed : has named own ≡ false
  unfolding reached named
  own_unnamed = sym (levels-has nexts own targets 200 own) ∙ parts.1

  inside : (lei : List ℕ) → has named lei ≡ true → (bytes_eq lei own ≡ false) × (has reached lei ≡ true)
  inside lei at = elim (cases_Bool (bytes_eq lei own)) [
    | inl is ↦ absurd (false≢true (sym own_unnamed ∙ subst (λ l. has named l ≡ true) (same_text lei own is) at))
    | inr other ↦ (
      other,
      ap (λ l. has l lei) closed ∙ (once-has (own ∷ []) named lei
          ∙ λ i. at i && not (other i || false)),
    )
  ]

  goes_on : (lei next : List ℕ) → has named lei ≡ true → Contains (nexts lei) next → has named next ≡ true
  unfolding reached named
  goes_on lei next at names =
      let is = inside lei at in
      let onward_has : has (onward_leis nexts own lei) next ≡ true =
      ap (λ l. has l next) (cond-false (bytes_eq lei own) [] (nexts lei) is.0) ∙ has_so (nexts lei) next names in
      has-append targets (next_level nexts own reached) next
      ∙ or_right (has targets next) (has (next_level nexts own reached) next) (next-has nexts own reached lei next is.1 onward_has)

  clear : (n : ℕ) (lei : List ℕ) → has named lei ≡ true → EndsIn n nexts lei → EndsClear n nexts own lei
  clear zero lei at ends = absurd ends
  clear (suc n) lei at ends = (
    λ same. false≢true (sym (inside lei at).0 ∙ (bytes_eq-Decides lei own).1 same),
    λ next names. clear n next (goes_on lei next at names) (ends next names),
  )

  target_named : (lei : List ℕ) → Contains targets lei → has named lei ≡ true
  unfolding named
  target_named lei at =
      has-append targets (next_level nexts own reached) lei
      ∙ or_left (has targets lei) (has (next_level nexts own reached) lei) (has_so targets lei at)

  -- so each way still ends after the entity names these
  pub levels-keep_ends : (after : Nexts) → AllEnd nexts → IsTurned nexts after own targets → AllEnd after
  levels-keep_ends after all turned =
      let bound = ends_together nexts targets all in
      keeps_ends nexts after own targets bound.0 all turned (λ lei at.
      clear bound.0 lei (target_named lei at) (bound.1 lei (has_so targets lei at)))
