-- Levels over a view that agrees with what LEIs name: they are the same, or the view lacks a cell of them.
use Rattle.std.specs.Prelude.{◌≡◌, ℕ, zero, suc, ◌≤◌, Bool, true, false, not, cond, ◌&&◌, ◌||◌, nat_lt, List, [], ◌∷◌, ◌++◌, length, find, Option, Some, None}
use Rattle.std.specs.Cmp.{IsEquivalence}
use Rattle.std.specs.Str.{bytes_eq}
use Rattle.std.proofs.Common.{refl, sym, ap, subst, ◌∙◌, ◌⊎◌, inl, inr, arith}
use Rattle.std.proofs.lemmas.Bool.{and_parts, cases_Bool, cond-false, cond-true, false≢true, lt-ltb, ltb-true, or_cases, or_left, or_right}
use Rattle.std.proofs.lemmas.Map.Made.{length-le_from_is_member}
use Rattle.std.proofs.lemmas.Slice.Eq.{bytes_eq-Decides}
use Rattle.lei_records.specs.declared.view.CellKey.{CellKey}
use Rattle.lei_records.specs.declared.view.Seen.{Seen}
use Rattle.successor_rules.specs.declared.walks.Walked.{Walked}
use Rattle.successor_rules.specs.Chains.{Nexts}
use Rattle.successor_rules.specs.Levels.{Agree, SeenNexts, each_once, first_lacking, has_wide_levels, held_nexts, is_back, known_nexts, lacks_nexts, levels, next_level, onward_leis, others, spread_out, spread_over}
use Rattle.successor_rules.specs.Walks.{unless_lacking}
use Rattle.successor_rules.proofs.LevelLemmas.{Within, has, has-append, levels-last, next-has, once-distinct, others-has, own_text, same_text}
use Rattle.successor_rules.proofs.RiseLemmas.{gathered, levels-has, others-begin, others-next}

-- ---- the laws of `==` on LEIs

pub text_laws : IsEquivalence bytes_eq
text_laws = record {
  refl = own_text;
  symm = λ x y. turned x y (cases_Bool (bytes_eq x y));
  congr = λ x y z is. ap (λ t. bytes_eq t z) (same_text x y is);
}
  where
    turned : (x y : List ℕ) → (bytes_eq x y ≡ true) ⊎ (bytes_eq x y ≡ false) → bytes_eq x y ≡ bytes_eq y x
    turned x y (inl is) = is ∙ sym ((bytes_eq-Decides y x).1 (sym (same_text x y is)))
    turned x y (inr other) = elim (cases_Bool (bytes_eq y x)) [
      | inl is ↦ absurd (false≢true (sym other ∙ (bytes_eq-Decides x y).1 (sym (same_text y x is))))
      | inr is ↦ other ∙ sym is
    ]

-- ---- more is named by more

module _ (nexts : Nexts) (own : List ℕ) where
  -- what a level names is named by a member
  pub named_there : (xs : List (List ℕ)) (y : List ℕ) → has (next_level nexts own xs) y ≡ true
      → (x : List ℕ) × (has xs x ≡ true) × (has (onward_leis nexts own x) y ≡ true)
  named_there [] y at = absurd (false≢true at)
  named_there (x ∷ xs) y at =
      elim (or_cases (has (onward_leis nexts own x) y) (has (next_level nexts own xs) y)
      (sym (has-append (onward_leis nexts own x) (next_level nexts own xs) y) ∙ at)) [
        | inl here ↦ (x, or_left (bytes_eq x x) (has xs x) (own_text x), here)
        | inr later ↦
            let rest = named_there xs y later in
            (rest.0, or_right (bytes_eq rest.0 x) (has xs rest.0) rest.1, rest.2)
      ]

-- one names at most what the other names
abbrev Fewer : Nexts → Nexts → Type 0
Fewer less more = (lei : List ℕ) → Within (less lei) (more lei)

module _ (less more : Nexts) (own : List ℕ) (fewer : Fewer less more) where
  onward-fewer : (x y : List ℕ) → has (onward_leis less own x) y ≡ true → has (onward_leis more own x) y ≡ true
  onward-fewer x y = by (bytes_eq x own)
    where
      by : (b : Bool) → has (cond b [] (less x)) y ≡ true → has (cond b [] (more x)) y ≡ true
      by true at = at
      by false at = let within = fewer x in within.each y at

  next-fewer : (xs ys : List (List ℕ)) → Within xs ys → Within (next_level less own xs) (next_level more own ys)
  next-fewer xs ys within = record {
    each = λ y at.
        let there = named_there less own xs y at in
        next-has more own ys there.0 y (within.each there.0 there.1) (onward-fewer there.0 y there.2);
  }

  levels-fewer : (n : ℕ) (first : List (List ℕ)) → Within (levels n less own first) (levels n more own first)
  unfolding levels
  levels-fewer zero first = record { each = λ y at. at }
  levels-fewer (suc n) first =
      let next = next-fewer (levels n less own first) (levels n more own first) (levels-fewer n first) in
      record {
        each = λ y at.
            ap (λ l. has l y) (levels-last more own n first)
            ∙ (has-append first (next_level more own (levels n more own first)) y
            ∙ joins (has first y) (has (next_level less own (levels n less own first)) y) (has (next_level more own (levels n more own first)) y)
            (next.each y)
            (sym (has-append first (next_level less own (levels n less own first)) y)
            ∙ (sym (ap (λ l. has l y) (levels-last less own n first)) ∙ at)));
      }
    where
      joins : (a b c : Bool) → (b ≡ true → c ≡ true) → (a || b) ≡ true → (a || c) ≡ true
      joins true b c on at = refl
      joins false b c on at = on at

  -- so it reaches no more
  pub still_wide : (first : List (List ℕ)) → has_wide_levels less own first ≡ true → has_wide_levels more own first ≡ true
  still_wide first wide =
      let within = levels-fewer 201 first in
      let count : length (others 201 less own first) ≤ length (others 201 more own first) =
      length-le_from_is_member text_laws (others 201 less own first) (others 201 more own first)
      (once-distinct (own ∷ []) (levels 201 less own first)) (λ y at.
      let parts = and_parts (has (levels 201 less own first) y) (not (bytes_eq y own)) (sym (others-has 201 less own first y) ∙ at) in
      others-has 201 more own first y ∙ λ i. within.each y parts.0 i && parts.1 i) in
      let many = ltb-true 200 (length (others 201 less own first)) wide in
      lt-ltb 200 (length (others 201 more own first)) (omega arith)

-- ---- the reached LEIs name the same

module _ (one other : Nexts) (own : List ℕ) where
  next-same : (xs : List (List ℕ)) → ((x : List ℕ) → has xs x ≡ true → one x ≡ other x) → next_level one own xs ≡ next_level other own xs
  next-same [] same = refl
  next-same (x ∷ xs) same =
      let here = same x (or_left (bytes_eq x x) (has xs x) (own_text x)) in
      let rest = next-same xs (λ y at. same y (or_right (bytes_eq y x) (has xs y) at)) in
      λ i. cond (bytes_eq x own) [] (here i) ++ rest i

  module _ (first : List (List ℕ)) (same : (x : List ℕ) → has (others 201 one own first) x ≡ true → one x ≡ other x) where
    at_next : (n : ℕ) → n ≤ 201 → next_level one own (others n one own first) ≡ next_level other own (others n one own first)
    at_next n within =
        let begins = others-begin one own first n 201 within in
        next-same (others n one own first) (λ x at. same x (ap (λ l. has l x) begins.is
        ∙ (has-append (others n one own first) begins.rest x ∙ or_left (has (others n one own first) x) (has begins.rest x) at)))

    others-same : (n : ℕ) → n ≤ 201 → others n one own first ≡ others n other own first
    unfolding levels
    others-same zero within = refl
    others-same (suc n) within =
        others-next one own first n
        ∙ (ap (λ l. each_once (own ∷ []) (first ++ l)) (at_next n (omega arith))
        ∙ (ap (gathered other own first) (others-same n (omega arith)) ∙ sym (others-next other own first n)))

    pub others-same-all : others 201 one own first ≡ others 201 other own first
    others-same-all = others-same 201 (omega arith)

    pub spread-same : spread_out one own first ≡ spread_out other own first
    spread-same =
        let all = others-same 201 (omega arith) in
        let back : is_back one own first ≡ is_back other own first =
        levels-has one own first 200 own
        ∙ (ap (λ l. has (first ++ l) own) (at_next 200 (omega arith) ∙ ap (next_level other own) (others-same 200 (omega arith)))
        ∙ sym (levels-has other own first 200 own)) in
        λ i. cond (wide all i) Walked.Long (cond (back i) Walked.Meets Walked.Ends)
      where
        wide : others 201 one own first ≡ others 201 other own first → has_wide_levels one own first ≡ has_wide_levels other own first
        wide all = ap (λ l. nat_lt 200 (length l)) all

-- ---- what a search finds

pub find-some : (p : List ℕ → Bool) (xs : List (List ℕ)) (x : List ℕ) → find p xs ≡ Some x → (has xs x ≡ true) × (p x ≡ true)
find-some p [] x is = absurd cc
find-some p (y ∷ ys) x is = elim (cases_Bool (p y)) [
  | inl passes ↦
      let here : Some y ≡ Some x = sym (cond-true (p y) (Some y) (find p ys) passes) ∙ is in
      let same : y ≡ x = cc in
      (subst (λ z. has (y ∷ ys) z ≡ true) same (or_left (bytes_eq y y) (has ys y) (own_text y)), subst (λ z. p z ≡ true) same passes)
  | inr fails ↦
      let rest = find-some p ys x (sym (cond-false (p y) (Some y) (find p ys) fails) ∙ is) in
      (or_right (bytes_eq x y) (has ys x) rest.0, rest.1)
]

pub find-none : (p : List ℕ → Bool) (xs : List (List ℕ)) (x : List ℕ) → find p xs ≡ None → has xs x ≡ true → p x ≡ false
find-none p [] x is at = absurd (false≢true at)
find-none p (y ∷ ys) x is at = elim (cases_Bool (p y)) [
  | inl passes ↦ absurd (none_is (sym (cond-true (p y) (Some y) (find p ys) passes) ∙ is))
  | inr fails ↦ elim (or_cases (bytes_eq x y) (has ys x) at) [
    | inl same ↦ subst (λ z. p z ≡ false) (sym (same_text x y same)) fails
    | inr later ↦ find-none p ys x (sym (cond-false (p y) (Some y) (find p ys) fails) ∙ is) later
  ]
]
  where
    none_is : {y : List ℕ} → Some y ≡ None → ⊥
    none_is is = cc

-- ---- views

module _ (answers : SeenNexts) (nexts : Nexts) (key : List ℕ → CellKey) (own : List ℕ) (first : List (List ℕ)) (agree : Agree answers nexts) where
  known_fewer : Fewer (known_nexts answers) nexts
  known_fewer lei = by (answers lei) refl
    where
      by : (s : Seen (List (List ℕ))) → answers lei ≡ s → Within (held_nexts (answers lei)) (nexts lei)
      by (Seen.Held leis) is = record { each = λ y at. ap (λ l. has l y) (agree lei (ap lacks_nexts is)) ∙ at }
      by Seen.Empty is = record { each = λ y at. ap (λ l. has l y) (agree lei (ap lacks_nexts is)) ∙ at }
      by Seen.Missing is = record { each = λ y at. absurd (false≢true (sym (ap (λ s. has (held_nexts s) y) is) ∙ at)) }

  -- the view reports the result of the walk, or a cell that it lacks of an LEI in the levels that it knows
  pub agreeing-tells :
      (spread_over answers key own first ≡ spread_out nexts own first)
      ⊎ ((lei : List ℕ) × (lacks_nexts (answers lei) ≡ true) × (has (levels 201 (known_nexts answers) own first) lei ≡ true)
      × (spread_over answers key own first ≡ Walked.Missing (key lei)))
  agreeing-tells = elim (cases_Bool (has_wide_levels known own first)) [
    | inl wide ↦ inl (over true lacking back wide refl refl
        ∙ sym (cond-true (has_wide_levels nexts own first) Walked.Long (cond (is_back nexts own first) Walked.Meets Walked.Ends)
        (still_wide known nexts own known_fewer first wide)))
    | inr narrow ↦ by lacking refl narrow
  ]
    where
      known : Nexts
      known = known_nexts answers

      lacking : Option (List ℕ)
      lacking = first_lacking answers own first

      back : Bool
      back = is_back (known_nexts answers) own first

      over : (w : Bool) (l : Option (List ℕ)) (b : Bool) → has_wide_levels (known_nexts answers) own first ≡ w → first_lacking answers own first ≡ l
          → is_back (known_nexts answers) own first ≡ b
          → spread_over answers key own first ≡ cond w Walked.Long (unless_lacking key l (cond b Walked.Meets Walked.Ends))
      over w l b wide lacks met = λ i. cond (wide i) Walked.Long (unless_lacking key (lacks i) (cond (met i) Walked.Meets Walked.Ends))

      by : (l : Option (List ℕ)) → first_lacking answers own first ≡ l → has_wide_levels (known_nexts answers) own first ≡ false
          → (spread_over answers key own first ≡ spread_out nexts own first)
          ⊎ ((lei : List ℕ) × (lacks_nexts (answers lei) ≡ true) × (has (levels 201 (known_nexts answers) own first) lei ≡ true)
          × (spread_over answers key own first ≡ Walked.Missing (key lei)))
      by (Some lei) is narrow =
          let found = find-some (λ l. lacks_nexts (answers l)) (others 201 (known_nexts answers) own first) lei is in
          let parts = and_parts (has (levels 201 (known_nexts answers) own first) lei) (not (bytes_eq lei own))
          (sym (others-has 201 (known_nexts answers) own first lei) ∙ found.0) in
          inr (lei, found.1, parts.0, over false (Some lei) (is_back (known_nexts answers) own first) narrow is refl)
      by None is narrow =
          let same = spread-same (known_nexts answers) nexts own first (λ x at.
          sym (agree x (find-none (λ l. lacks_nexts (answers l)) (others 201 (known_nexts answers) own first) x is at))) in
          inl (over (has_wide_levels (known_nexts answers) own first) None (is_back (known_nexts answers) own first) refl is refl ∙ same)
