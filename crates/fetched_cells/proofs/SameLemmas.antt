-- The LEIs that are found level by level are those of the walk by levels.
use Rattle.std.specs.Prelude.{◌≡◌, ℕ, zero, suc, Bool, true, false, not, ◌&&◌, ◌||◌, List, [], ◌∷◌, ◌++◌, flat_map}
use Rattle.std.specs.Cmp.{both_ways}
use Rattle.std.specs.Str.{bytes_eq}
use Rattle.std.proofs.Common.{refl, sym, ap, subst, ◌∙◌, inl, inr}
use Rattle.std.proofs.lemmas.Bool.{cases_Bool, cond-false, false≢true}
use Rattle.std.proofs.lemmas.Grind.{flat_map-append}
use Rattle.std.proofs.lemmas.List.{append-nil}
use Rattle.successor_rules.specs.Chains.{Nexts}
use Rattle.successor_rules.specs.Levels.{levels, next_level, onward_leis, others}
use Rattle.successor_rules.proofs.LevelLemmas.{has, has-append, next-has, once-has, others-has, own_text, same_text}
use Rattle.successor_rules.proofs.RiseLemmas.{others-next}
use Rattle.fetched_cells.specs.Nearest.{by_levels, new_ones}
use Rattle.fetched_cells.proofs.CloseLemmas.{named_by, names_there}
use Rattle.fetched_cells.proofs.OrderLemmas.{new_ones-has}
use Rattle.fetched_cells.proofs.SpreadLemmas.{onward_names}

-- lists of the same LEIs name the same LEIs
flat-same : (nexts : Nexts) (xs ys : List (List ℕ)) → ((x : List ℕ) → has xs x ≡ has ys x) → (y : List ℕ)
    → has (flat_map nexts xs) y ≡ has (flat_map nexts ys) y
flat-same nexts xs ys same y =
    both_ways (has (flat_map nexts xs) y) (has (flat_map nexts ys) y)
    (λ at. let by = named_by nexts xs y at in names_there nexts ys by.lei y (sym (same by.lei) ∙ by.at) by.names)
    (λ at. let by = named_by nexts ys y at in names_there nexts xs by.lei y (same by.lei ∙ by.at) by.names)

-- one more level has what the LEIs of the level before and those of the levels so far name, unless it was met
levels-more : (n : ℕ) (nexts : Nexts) (met before : List (List ℕ)) (y : List ℕ) → has (by_levels (suc n) nexts met before) y
    ≡ ((has (flat_map nexts before) y || has (flat_map nexts (by_levels n nexts met before)) y) && not (has met y))
unfolding by_levels
levels-more zero nexts met before y =
    ap (λ l. has l y) (append-nil (new_ones nexts met before))
    ∙ (new_ones-has nexts met before y ∙ alone (has (flat_map nexts before) y) (has met y))
  where
    alone : (f m : Bool) → (f && not m) ≡ ((f || false) && not m)
    alone true m = refl
    alone false m = refl
levels-more (suc n) nexts met before y =
    let level = new_ones nexts met before in
    let rest = by_levels n nexts (met ++ level) level in
    let f = has (flat_map nexts before) y in
    let m = has met y in
    let g = has (flat_map nexts level) y || has (flat_map nexts rest) y in
    has-append level (by_levels (suc n) nexts (met ++ level) level) y
    ∙ (ap (λ b. has level y || b) (levels-more n nexts (met ++ level) level y)
    ∙ (ap (λ b. has level y || (g && not b)) (has-append met level y)
    ∙ (ap (λ b. b || (g && not (m || b))) (new_ones-has nexts met before y)
    ∙ (turn f m g
    ∙ ap (λ b. (f || b) && not m) (sym (ap (λ l. has l y) (flat_map-append nexts level rest)
    ∙ has-append (flat_map nexts level) (flat_map nexts rest) y))))))
  where
    turn : (f m g : Bool) → ((f && not m) || (g && not (m || (f && not m)))) ≡ ((f || g) && not m)
    turn true true true = refl
    turn true true false = refl
    turn true false g = refl
    turn false true true = refl
    turn false true false = refl
    turn false false true = refl
    turn false false false = refl

module _ (nexts : Nexts) (own : List ℕ) where
  -- the walk continues from all LEIs except the entity's own
  onward-all : (xs : List (List ℕ)) → has xs own ≡ false → (y : List ℕ) → has (next_level nexts own xs) y ≡ has (flat_map nexts xs) y
  onward-all xs none y =
      both_ways (has (next_level nexts own xs) y) (has (flat_map nexts xs) y)
      (λ at. let by = named_by (onward_leis nexts own) xs y at in names_there nexts xs by.lei y by.at (onward_names nexts own by.lei y by.names))
      (λ at.
      let by = named_by nexts xs y at in
      elim (cases_Bool (bytes_eq by.lei own)) [
        | inl is ↦ absurd (false≢true (sym none ∙ subst (λ l. has xs l ≡ true) (same_text by.lei own is) by.at))
        | inr is ↦ next-has nexts own xs by.lei y by.at (ap (λ l. has l y) (cond-false (bytes_eq by.lei own) [] (nexts by.lei) is) ∙ by.names)
      ])

  own_none : (n : ℕ) (first : List (List ℕ)) → has (others n nexts own first) own ≡ false
  own_none n first =
      others-has n nexts own first own ∙ (ap (λ b. has (levels n nexts own first) own && not b) (own_text own) ∙ none (has (levels n nexts own first) own))
    where
      none : (b : Bool) → (b && false) ≡ false
      none true = refl
      none false = refl

  others-more : (n : ℕ) (first : List (List ℕ)) (y : List ℕ) → has (others (suc n) nexts own first) y
      ≡ ((has first y || has (flat_map nexts (others n nexts own first)) y) && not (has (own ∷ []) y))
  others-more n first y =
      let reached = others n nexts own first in
      ap (λ l. has l y) (others-next nexts own first n)
      ∙ (once-has (own ∷ []) (first ++ next_level nexts own reached) y
      ∙ ap (λ b. b && not (has (own ∷ []) y)) (has-append first (next_level nexts own reached) y
      ∙ ap (λ b. has first y || b) (onward-all reached (own_none n first) y)))

  pub same_levels : (n : ℕ) (y : List ℕ) → has (by_levels n nexts (own ∷ []) (own ∷ [])) y ≡ has (others n nexts own (nexts own)) y
  unfolding by_levels levels
  same_levels zero y = refl
  same_levels (suc n) y =
      let found = by_levels n nexts (own ∷ []) (own ∷ []) in
      let reached = others n nexts own (nexts own) in
      levels-more n nexts (own ∷ []) (own ∷ []) y
      ∙ (ap (λ l. (has l y || has (flat_map nexts found) y) && not (has (own ∷ []) y)) (append-nil (nexts own))
      ∙ (ap (λ b. (has (nexts own) y || b) && not (has (own ∷ []) y)) (flat-same nexts found reached (same_levels n) y)
      ∙ sym (others-more n (nexts own) y)))
