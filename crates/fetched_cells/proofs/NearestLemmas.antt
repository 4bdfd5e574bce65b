-- The LEIs that are found level by level, in byte order within a level.
use Rattle.std.specs.Prelude.{◌≡◌, ℕ, zero, suc, ◌+◌, ◌<◌, ◌≤◌, Bool, true, false, not, cond, List, [], ◌∷◌, ◌++◌, length, take, drop, filter, flat_map}
use Rattle.std.specs.BTreeSet.{insert_key}
use Rattle.std.specs.Cmp.Lexicographic.{slice_cmp}
use Rattle.std.specs.List.{fold}
use Rattle.std.specs.Ordering.{nat_cmp}
use Rattle.std.specs.Set.{is_member}
use Rattle.std.specs.Str.{bytes_eq}
use Rattle.std.proofs.Common.{refl, sym, ap, ◌∙◌, arith, get_or, drop-cons, add-one, append_assoc}
use Rattle.std.proofs.lemmas.List.{append-nil, drop_all, length-append, take-append-le}
use Rattle.std.proofs.lemmas.List.Sums.{fold-append}
use Rattle.successor_rules.specs.Chains.{Nexts}
use Rattle.fetched_cells.specs.Nearest.{by_levels, new_ones, unmet_leis}

-- ---- one LEI after another

-- a level after those of the LEIs that weren't met were added
abbrev pub with_unmet : List (List ℕ) → List (List ℕ) → List (List ℕ) → List (List ℕ)
with_unmet met level leis = fold (insert_key (slice_cmp nat_cmp)) level (unmet_leis met leis)

filter-both : (p : List ℕ → Bool) (xs ys : List (List ℕ)) → filter p (xs ++ ys) ≡ filter p xs ++ filter p ys
filter-both p [] ys = refl
filter-both p (x ∷ xs) ys = by (p x) (filter-both p xs ys)
  where
    by : (b : Bool) → filter p (xs ++ ys) ≡ filter p xs ++ filter p ys
        → cond b (x ∷ filter p (xs ++ ys)) (filter p (xs ++ ys)) ≡ cond b (x ∷ filter p xs) (filter p xs) ++ filter p ys
    by true rest = ap (λ l. x ∷ l) rest
    by false rest = rest

with_unmet-append : (met level xs ys : List (List ℕ)) → with_unmet met level (xs ++ ys) ≡ with_unmet met (with_unmet met level xs) ys
with_unmet-append met level xs ys =
    ap (fold (insert_key (slice_cmp nat_cmp)) level) (filter-both (λ lei. not (is_member bytes_eq met lei)) xs ys)
    ∙ fold-append (insert_key (slice_cmp nat_cmp)) level (unmet_leis met xs) (unmet_leis met ys)

module _ (met level leis : List (List ℕ)) (i : ℕ) (lei : List ℕ) (less : i < length leis) (is : get_or leis i lei ≡ lei) where
  rest_is : drop i leis ≡ lei ∷ drop (i + 1) leis
  rest_is = rw add-one (drop-cons leis i lei less ∙ ap (λ x. x ∷ drop (suc i) leis) is)

  -- an LEI that was met adds nothing
  pub unmet_past : is_member bytes_eq met lei ≡ true → with_unmet met level (drop i leis) ≡ with_unmet met level (drop (i + 1) leis)
  unmet_past old =
      ap (with_unmet met level) rest_is
      ∙ ap (λ b. fold (insert_key (slice_cmp nat_cmp)) level (cond (not b) (lei ∷ unmet_leis met (drop (i + 1) leis)) (unmet_leis met (drop (i + 1) leis)))) old

  pub unmet_one : is_member bytes_eq met lei ≡ false
      → with_unmet met level (drop i leis) ≡ with_unmet met (insert_key (slice_cmp nat_cmp) level lei) (drop (i + 1) leis)
  unmet_one new =
      ap (with_unmet met level) rest_is
      ∙ ap (λ b. fold (insert_key (slice_cmp nat_cmp)) level (cond (not b) (lei ∷ unmet_leis met (drop (i + 1) leis)) (unmet_leis met (drop (i + 1) leis)))) new

  -- an LEI adds those that it names and that weren't met
  pub names_one : (nexts : Nexts)
      → with_unmet met level (flat_map nexts (drop i leis)) ≡ with_unmet met (with_unmet met level (nexts lei)) (flat_map nexts (drop (i + 1) leis))
  names_one nexts =
      ap (λ l. with_unmet met level (flat_map nexts l)) rest_is
      ∙ with_unmet-append met level (nexts lei) (flat_map nexts (drop (i + 1) leis))

-- ---- level by level

-- the LEIs that were found so far, followed by those of the next levels
abbrev pub found_with : ℕ → Nexts → List (List ℕ) → List (List ℕ) → List (List ℕ)
found_with n nexts met before = met ++ by_levels n nexts met before

module _ (nexts : Nexts) (met : List (List ℕ)) where
  pub levels_none : (before : List (List ℕ)) → found_with 0 nexts met before ≡ met
  unfolding by_levels
  levels_none before = append-nil met

  pub levels_next : (n : ℕ) (before : List (List ℕ))
      → found_with (suc n) nexts met before ≡ found_with n nexts (met ++ new_ones nexts met before) (new_ones nexts met before)
  unfolding by_levels
  levels_next n before =
      let level = new_ones nexts met before in
      sym (append_assoc met level (by_levels n nexts (met ++ level) level))

-- after a level without a new LEI there are no new ones
pub levels_end : (n : ℕ) (nexts : Nexts) (met : List (List ℕ)) → by_levels n nexts met [] ≡ []
unfolding by_levels
levels_end zero nexts met = refl
levels_end (suc n) nexts met = levels_end n nexts (met ++ [])

-- the search after some levels: what was met, the index from which it has the LEIs of the last level, and all LEIs to
-- find
pub record Searched (nexts : Nexts) (n : ℕ) (met : List (List ℕ)) (before : ℕ) (all : List (List ℕ)) : Type 0 where
  pub within : before ≤ length met
  pub goes : found_with n nexts met (drop before met) ≡ all

drop-front : (xs ys : List (List ℕ)) → drop (length xs) (xs ++ ys) ≡ ys
drop-front [] ys = refl
drop-front (x ∷ xs) ys = drop-front xs ys

module _ (nexts : Nexts) (n : ℕ) (met : List (List ℕ)) (before : ℕ) (all : List (List ℕ)) where
  pub searched_next : Searched nexts (suc n) met before all → (level now : List (List ℕ)) → level ≡ new_ones nexts met (drop before met)
      → now ≡ met ++ level → Searched nexts n now (length met) all
  searched_next old level now is added = record {
    within = let count = ap length added ∙ length-append met level in omega arith;
    goes =
        ap (λ l. found_with n nexts l (drop (length met) l)) (added ∙ ap (λ l. met ++ l) is)
        ∙ (ap (found_with n nexts (met ++ new_ones nexts met (drop before met))) (drop-front met (new_ones nexts met (drop before met)))
        ∙ (sym (levels_next nexts met n (drop before met)) ∙ old.goes));
  }

  pub searched_many : Searched nexts n met before all → 201 < length met → take 202 met ≡ take 202 all
  searched_many old many =
      sym (take-append-le 202 met (by_levels n nexts met (drop before met)) (omega arith)) ∙ ap (take 202) old.goes

  pub searched_end : Searched nexts n met before all → length met ≤ before → take 202 met ≡ take 202 all
  searched_end old end =
      ap (take 202) (sym (append-nil met)
      ∙ (ap (λ l. met ++ l) (sym (levels_end n nexts met))
      ∙ (ap (found_with n nexts met) (sym (drop_all before met end)) ∙ old.goes)))

pub searched_all : (nexts : Nexts) (met : List (List ℕ)) (before : ℕ) (all : List (List ℕ)) → Searched nexts 0 met before all → take 202 met ≡ take 202 all
searched_all nexts met before all old = ap (take 202) (sym (levels_none nexts met (drop before met)) ∙ old.goes)

-- the LEIs to find, after the entity's own
abbrev pub sought : Nexts → List ℕ → List (List ℕ)
sought nexts own = own ∷ by_levels 201 nexts (own ∷ []) (own ∷ [])

pub searched_first : (nexts : Nexts) (own : List ℕ) (met : List (List ℕ)) → met ≡ own ∷ [] → Searched nexts 201 met 0 (sought nexts own)
searched_first nexts own met is = record {
  within = omega arith;
  goes = ap (λ l. found_with 201 nexts l l) is;
}
