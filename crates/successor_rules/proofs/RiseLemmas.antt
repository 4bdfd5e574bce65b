-- The different LEIs of levels: those of one level more start with those of the levels before, and are gathered from
-- these.
use Rattle.std.specs.Prelude.{◌≡◌, ℕ, zero, suc, ◌+◌, ◌<◌, ◌≤◌, false, cond, ◌||◌, List, [], ◌∷◌, ◌++◌, length}
use Rattle.std.proofs.Common.{refl, sym, ap, subst, ◌∙◌, ◌⊎◌, inl, inr, arith, append_assoc}
use Rattle.std.proofs.lemmas.Bool.{cases_lt, false≢true}
use Rattle.std.proofs.lemmas.List.{append-nil, length-append, nil_from_length}
use Rattle.successor_rules.specs.Chains.{Nexts}
use Rattle.successor_rules.specs.Levels.{each_once, levels, next_level, others}
use Rattle.successor_rules.proofs.LevelLemmas.{Within, has, has-append, levels-last, next-append, next-member, next-once, once-append, own_text}

-- ---- lists that start with others

-- the second list starts with the first
pub record Begins (xs ys : List (List ℕ)) : Type 0 where
  pub rest : List (List ℕ)
  pub is : ys ≡ xs ++ rest

pub begins_self : (xs : List (List ℕ)) → Begins xs xs
begins_self xs = record { rest = []; is = sym (append-nil xs) }

pub begins_more : (xs ys : List (List ℕ)) → Begins xs (xs ++ ys)
begins_more xs ys = record { rest = ys; is = refl }

pub begins_on : (xs ys zs : List (List ℕ)) → Begins xs ys → Begins ys zs → Begins xs zs
begins_on xs ys zs one two = record {
  rest = one.rest ++ two.rest;
  is = two.is ∙ (ap (λ l. l ++ two.rest) one.is ∙ append_assoc xs one.rest two.rest);
}

pub begins_length : (xs ys : List (List ℕ)) → Begins xs ys → length xs ≤ length ys
begins_length xs ys begins =
    let is = ap length begins.is ∙ length-append xs begins.rest in omega arith

pub begins_both : (xs ys : List (List ℕ)) → Begins xs ys → Begins ys xs → xs ≡ ys
begins_both xs ys one two =
    let longer = begins_length ys xs two in
    let is : length ys ≡ length xs + length one.rest = ap length one.is ∙ length-append xs one.rest in
    let none : one.rest ≡ [] = nil_from_length one.rest (omega arith) in
    sym (one.is ∙ (ap (λ l. xs ++ l) none ∙ append-nil xs))

-- ---- levels

module _ (nexts : Nexts) (own : List ℕ) where
  -- nothing is named past the entity's own LEI
  pub own_names_none : (y : List ℕ) → has (next_level nexts own (own ∷ [])) y ≡ false
  own_names_none y =
      ap (λ b. has (cond b [] (nexts own) ++ []) y) (own_text own)

  module _ (first : List (List ℕ)) where
    -- what is gathered from LEIs that were reached: the first level, and what they name
    abbrev pub gathered : List (List ℕ) → List (List ℕ)
    gathered leis = each_once (own ∷ []) (first ++ next_level nexts own leis)

    -- the LEIs of one level more are gathered from those before
    pub others-next : (n : ℕ) → others (suc n) nexts own first ≡ gathered (others n nexts own first)
    others-next n =
        let all = levels n nexts own first in
        let start = each_once (own ∷ []) first in
        let within : Within (next_level nexts own (own ∷ [])) (own ∷ [] ++ start) =
        record { each = λ y at. absurd (false≢true (sym (own_names_none y) ∙ at)) } in
        ap (each_once (own ∷ [])) (levels-last nexts own n first)
        ∙ (once-append (own ∷ []) first (next_level nexts own all)
        ∙ (ap (λ l. start ++ l) (next-once nexts own (own ∷ []) (own ∷ [] ++ start) all within)
        ∙ sym (once-append (own ∷ []) first (next_level nexts own (others n nexts own first)))))

    pub gathered-begins : (xs ys : List (List ℕ)) → Begins xs ys → Begins (gathered xs) (gathered ys)
    gathered-begins xs ys begins =
        let more = next_level nexts own begins.rest in
        let names = next_level nexts own xs in
        record {
          rest = each_once (own ∷ [] ++ gathered xs) more;
          is = ap (λ l. each_once (own ∷ []) (first ++ l)) (ap (next_level nexts own) begins.is ∙ next-append nexts own xs begins.rest)
              ∙ (ap (each_once (own ∷ [])) (sym (append_assoc first names more))
              ∙ once-append (own ∷ []) (first ++ names) more);
        }

    pub others-rise : (n : ℕ) → Begins (others n nexts own first) (others (suc n) nexts own first)
    unfolding levels
    others-rise zero = record { rest = others 1 nexts own first; is = refl }
    others-rise (suc n) =
        subst (λ l. Begins l (others (suc (suc n)) nexts own first)) (sym (others-next n))
        (subst (Begins (gathered (others n nexts own first))) (sym (others-next (suc n)))
        (gathered-begins (others n nexts own first) (others (suc n) nexts own first) (others-rise n)))

    -- the LEIs of more levels start with those of fewer
    pub others-begin : (n m : ℕ) → n ≤ m → Begins (others n nexts own first) (others m nexts own first)
    others-begin n zero less =
        let is : n ≡ 0 = omega arith in
        subst (λ k. Begins (others n nexts own first) (others k nexts own first)) is (begins_self (others n nexts own first))
    others-begin n (suc m) less = elim (cases_lt n (suc m)) [
      | inl below ↦ begins_on (others n nexts own first) (others m nexts own first) (others (suc m) nexts own first)
          (others-begin n m (omega arith)) (others-rise m)
      | inr above ↦
          let is : n ≡ suc m = omega arith in
          subst (λ k. Begins (others n nexts own first) (others k nexts own first)) is (begins_self (others n nexts own first))
    ]

    -- each level has a new LEI, or no later level has one
    stands_or_grows : (n : ℕ) → (others (suc n) nexts own first ≡ others n nexts own first) ⊎ (n < length (others (suc n) nexts own first))
    unfolding levels
    stands_or_grows zero = by (others 1 nexts own first)
      where
        by : (l : List (List ℕ)) → (l ≡ []) ⊎ (0 < length l)
        by [] = inl refl
        by (x ∷ xs) = inr (omega arith)
    stands_or_grows (suc n) = elim (stands_or_grows n) [
      | inl stands ↦ inl (others-next (suc n) ∙ (ap gathered stands ∙ sym (others-next n)))
      | inr grows ↦
          let rise = others-rise (suc n) in
          by (others (suc n) nexts own first) (others (suc (suc n)) nexts own first) rise.rest rise.is grows
    ]
      where
        by : (xs ys rest : List (List ℕ)) → ys ≡ xs ++ rest → n < length xs → (ys ≡ xs) ⊎ (suc n < length ys)
        by xs ys [] is less = inl (is ∙ append-nil xs)
        by xs ys (z ∷ zs) is less =
            let count = ap length is ∙ length-append xs (z ∷ zs) in inr (omega arith)

    -- as many levels as there are LEIs have all of them
    pub others-stand : (n : ℕ) → length (others (suc n) nexts own first) ≤ n → others (suc n) nexts own first ≡ others n nexts own first
    others-stand n few = elim (stands_or_grows n) [ inl stands ↦ stands | inr grows ↦ absurd (omega arith) ]

    -- whether an LEI is in levels, by what is gathered
    pub levels-has : (n : ℕ) (y : List ℕ)
        → has (levels (suc n) nexts own first) y ≡ has (first ++ next_level nexts own (others n nexts own first)) y
    levels-has n y =
        ap (λ l. has l y) (levels-last nexts own n first)
        ∙ (has-append first (next_level nexts own (levels n nexts own first)) y
        ∙ (ap (λ b. has first y || b) (next-member nexts own (own ∷ []) (levels n nexts own first) y (own_names_none y))
        ∙ sym (has-append first (next_level nexts own (others n nexts own first)) y)))
