-- Levels: lists without repetitions, and the level after a level.
use Rattle.std.specs.Prelude.{◌≡◌, ℕ, zero, suc, ◌<◌, Bool, true, false, not, cond, ◌&&◌, ◌||◌, List, [], ◌∷◌, ◌++◌, length, get_or}
use Rattle.std.specs.List.{AllByRecursion, IsDistinct}
use Rattle.std.specs.Set.{is_member}
use Rattle.std.specs.Str.{bytes_eq}
use Rattle.std.proofs.Common.{refl, sym, ap, subst, ◌∙◌, inl, inr, arith, append_assoc}
use Rattle.std.proofs.Math.Bool.{or-false}
use Rattle.std.proofs.lemmas.Bool.{cases_Bool, cond-true, false≢true, or_cases, or_left, or_parts, or_right}
use Rattle.std.proofs.lemmas.Grind.{flat_map-append}
use Rattle.std.proofs.lemmas.List.{append-nil}
use Rattle.std.proofs.lemmas.List.Folds.{list_any-append}
use Rattle.std.proofs.lemmas.Slice.Eq.{bytes_eq-Decides}
use Rattle.successor_rules.specs.Chains.{Nexts}
use Rattle.successor_rules.specs.Levels.{each_once, levels, next_level, onward_leis, others}

-- the list has the LEI
abbrev pub has : List (List ℕ) → List ℕ → Bool
has leis lei = is_member bytes_eq leis lei

pub same_text : (x y : List ℕ) → bytes_eq x y ≡ true → x ≡ y
same_text x y is = (bytes_eq-Decides x y).0 is

pub own_text : (x : List ℕ) → bytes_eq x x ≡ true
own_text x = (bytes_eq-Decides x x).1 refl

pub has-append : (xs ys : List (List ℕ)) (x : List ℕ) → has (xs ++ ys) x ≡ (has xs x || has ys x)
has-append xs ys x = list_any-append (bytes_eq x) xs ys

-- what the first list has, the second has too
pub record Within (xs ys : List (List ℕ)) : Type 0 where
  pub each : (x : List ℕ) → has xs x ≡ true → has ys x ≡ true

-- what is at a place is in the list
pub has-at : (xs : List (List ℕ)) (i : ℕ) (d : List ℕ) → i < length xs → has xs (get_or xs i d) ≡ true
has-at [] i d less = absurd (omega arith)
has-at (x ∷ xs) zero d less = or_left (bytes_eq x x) (has xs x) (own_text x)
has-at (x ∷ xs) (suc i) d less =
    or_right (bytes_eq (get_or xs i d) x) (has xs (get_or xs i d)) (has-at xs i d (omega arith))

-- ---- lists without repetitions

-- what was seen adds nothing
pub once-seen : (seen xs ys : List (List ℕ)) → Within xs seen → each_once seen (xs ++ ys) ≡ each_once seen ys
once-seen seen [] ys within = refl
once-seen seen (x ∷ xs) ys within =
    let is : has seen x ≡ true = within.each x (or_left (bytes_eq x x) (has xs x) (own_text x)) in
    cond-true (has seen x) (each_once seen (xs ++ ys)) (x ∷ each_once (seen ++ x ∷ []) (xs ++ ys)) is
    ∙ once-seen seen xs ys (record { each = λ y at. within.each y (or_right (bytes_eq y x) (has xs y) at) })

pub once-append : (seen xs ys : List (List ℕ)) → each_once seen (xs ++ ys) ≡ each_once seen xs ++ each_once (seen ++ each_once seen xs) ys
once-append seen [] ys = ap (λ s. each_once s ys) (sym (append-nil seen))
once-append seen (x ∷ xs) ys =
    let later = seen ++ x ∷ [] in
    elim (has seen x) as (λ b. cond b (each_once seen (xs ++ ys)) (x ∷ each_once later (xs ++ ys))
    ≡ cond b (each_once seen xs) (x ∷ each_once later xs)
    ++ each_once (seen ++ cond b (each_once seen xs) (x ∷ each_once later xs)) ys) [
      | true ↦ once-append seen xs ys
      | false ↦ ap (λ l. x ∷ l) (once-append later xs ys
          ∙ ap (λ s. each_once later xs ++ each_once s ys) (append_assoc seen (x ∷ []) (each_once later xs)))
    ]

-- it has what the list has and what wasn't seen
pub once-has : (seen xs : List (List ℕ)) (x : List ℕ) → has (each_once seen xs) x ≡ (has xs x && not (has seen x))
once-has seen [] x = refl
once-has seen (y ∷ ys) x =
    let later = seen ++ y ∷ [] in
    elim (has seen y) as (λ b. has seen y ≡ b → has (cond b (each_once seen ys) (y ∷ each_once later ys)) x
    ≡ ((bytes_eq x y || has ys x) && not (has seen x))) [
      | true ↦ λ t. once-has seen ys x ∙ old (bytes_eq x y) (has ys x) (has seen x) (λ is. subst (λ z. has seen z ≡ true) (sym (same_text x y is)) t)
      | false ↦ λ f. ap (λ b. bytes_eq x y || b) (once-has later ys x ∙ ap (λ b. has ys x && not b) (has-append seen (y ∷ []) x))
          ∙ fresh (bytes_eq x y) (has ys x) (has seen x) (λ is. subst (λ z. has seen z ≡ false) (sym (same_text x y is)) f)
    ] refl
  where
    old : (e h s : Bool) → (e ≡ true → s ≡ true) → (h && not s) ≡ ((e || h) && not s)
    old false h s is = refl
    old true true s is = refl
    old true false true is = refl
    old true false false is = absurd (false≢true (is refl))

    fresh : (e h s : Bool) → (e ≡ true → s ≡ false) → (e || (h && not (s || (e || false)))) ≡ ((e || h) && not s)
    fresh true h true is = absurd (false≢true (sym (is refl)))
    fresh true h false is = refl
    fresh false h true is = refl
    fresh false h false is = refl

-- what the list has was seen, or is in the result
pub once-covers : (seen xs : List (List ℕ)) → Within xs (seen ++ each_once seen xs)
once-covers seen xs = record {
  each = λ x at. has-append seen (each_once seen xs) x ∙ (ap (λ b. has seen x || b) (once-has seen xs x) ∙ covered (has seen x) (has xs x) at);
}
  where
    covered : (s h : Bool) → h ≡ true → (s || (h && not s)) ≡ true
    covered true h is = refl
    covered false h is = ap (λ b. b && true) is

-- what a list lacks differs from each of its members
none_is : (x : List ℕ) (ys : List (List ℕ)) → has ys x ≡ false → AllByRecursion (λ y. bytes_eq x y ≡ false) ys
none_is x [] lacks = tt
none_is x (y ∷ ys) lacks =
    let parts = or_parts (bytes_eq x y) (has ys x) lacks in
    (parts.0, none_is x ys parts.1)

-- no LEI is there twice
pub once-distinct : (seen xs : List (List ℕ)) → IsDistinct bytes_eq (each_once seen xs)
unfolding IsDistinct
once-distinct seen [] = tt
once-distinct seen (x ∷ xs) =
    let later = seen ++ x ∷ [] in
    elim (has seen x) as (λ b. IsDistinct bytes_eq (cond b (each_once seen xs) (x ∷ each_once later xs))) [
      | true ↦ once-distinct seen xs
      | false ↦ (
        none_is x (each_once later xs) (once-has later xs x ∙ (ap (λ b. has xs x && not b) (has-append seen (x ∷ []) x)
            ∙ taken (has seen x) (has xs x) (own_text x))),
        once-distinct later xs,
      )
    ]
  where
    taken : {e : Bool} (s h : Bool) → e ≡ true → (h && not (s || (e || false))) ≡ false
    taken true true is = refl
    taken true false is = refl
    taken false true is = ap (λ e. not (e || false)) is
    taken false false is = refl

-- ---- the level after a level

module _ (nexts : Nexts) (own : List ℕ) where
  pub next-append : (xs ys : List (List ℕ)) → next_level nexts own (xs ++ ys) ≡ next_level nexts own xs ++ next_level nexts own ys
  next-append xs ys = flat_map-append (onward_leis nexts own) xs ys

  -- it has all that a member names
  pub next-has : (xs : List (List ℕ)) (x y : List ℕ) → has xs x ≡ true → has (onward_leis nexts own x) y ≡ true → has (next_level nexts own xs) y ≡ true
  next-has [] x y at names = absurd (false≢true at)
  next-has (z ∷ zs) x y at names =
      has-append (onward_leis nexts own z) (next_level nexts own zs) y
      ∙ elim (or_cases (bytes_eq x z) (has zs x) at) [
        | inl is ↦ or_left (has (onward_leis nexts own z) y) (has (next_level nexts own zs) y)
            (subst (λ m. has (onward_leis nexts own m) y ≡ true) (same_text x z is) names)
        | inr is ↦ or_right (has (onward_leis nexts own z) y) (has (next_level nexts own zs) y) (next-has zs x y is names)
      ]

  -- with one more member it has what that member names
  next-one_more : (seen found : List (List ℕ)) (x : List ℕ) → Within (next_level nexts own seen) found
      → Within (next_level nexts own (seen ++ x ∷ [])) (found ++ each_once found (onward_leis nexts own x))
  next-one_more seen found x within = record {
    each = λ y at.
        let parts = sym (ap (λ l. has l y) (next-append seen (x ∷ []))
        ∙ (has-append (next_level nexts own seen) (onward_leis nexts own x ++ []) y)) ∙ at in
        let covers = once-covers found (onward_leis nexts own x) in
        elim (or_cases (has (next_level nexts own seen) y) (has (onward_leis nexts own x ++ []) y) parts) [
          | inl is ↦ has-append found (each_once found (onward_leis nexts own x)) y
              ∙ or_left (has found y) (has (each_once found (onward_leis nexts own x)) y) (within.each y is)
          | inr is ↦ covers.each y (subst (λ l. has l y ≡ true) (append-nil (onward_leis nexts own x)) is)
        ];
  }

  -- repetitions, and members that name only what was found, add nothing to the next level
  pub next-once : (seen found xs : List (List ℕ)) → Within (next_level nexts own seen) found
      → each_once found (next_level nexts own xs) ≡ each_once found (next_level nexts own (each_once seen xs))
  next-once seen found [] within = refl
  next-once seen found (x ∷ xs) within =
      let later = seen ++ x ∷ [] in
      let names = onward_leis nexts own x in
      let more = each_once found names in
      elim (has seen x) as (λ b. has seen x ≡ b → each_once found (names ++ next_level nexts own xs)
      ≡ each_once found (next_level nexts own (cond b (each_once seen xs) (x ∷ each_once later xs)))) [
        | true ↦ λ t.
            once-seen found names (next_level nexts own xs) (record { each = λ y at. within.each y (next-has seen x y t at) })
            ∙ next-once seen found xs within
        | false ↦ λ f.
            once-append found names (next_level nexts own xs)
            ∙ (ap (λ l. more ++ l) (next-once later (found ++ more) xs (next-one_more seen found x within))
            ∙ sym (once-append found names (next_level nexts own (each_once later xs))))
      ] refl

  -- an LEI that no seen member names is named by a member of the list exactly if it is named by one of the list without
  -- repetitions
  pub next-member : (seen xs : List (List ℕ)) (y : List ℕ) → has (next_level nexts own seen) y ≡ false
      → has (next_level nexts own xs) y ≡ has (next_level nexts own (each_once seen xs)) y
  next-member seen [] y none = refl
  next-member seen (x ∷ xs) y none =
      let later = seen ++ x ∷ [] in
      let names = onward_leis nexts own x in
      let rest = has-append names (next_level nexts own xs) y in
      elim (has seen x) as (λ b. has seen x ≡ b → has (names ++ next_level nexts own xs) y
      ≡ has (next_level nexts own (cond b (each_once seen xs) (x ∷ each_once later xs))) y) [
        | true ↦ λ t. rest ∙ (ap (λ b. b || has (next_level nexts own xs) y) (unnamed t) ∙ next-member seen xs y none)
        | false ↦ λ f. rest ∙ (by (has names y) (has (next_level nexts own xs) y)
            (has (next_level nexts own (each_once later xs)) y) (λ is. next-member later xs y (still_none is))
            ∙ sym (has-append names (next_level nexts own (each_once later xs)) y))
      ] refl
    where
      unnamed : has seen x ≡ true → has (onward_leis nexts own x) y ≡ false
      unnamed t = elim (cases_Bool (has (onward_leis nexts own x) y)) [
        | inl is ↦ absurd (false≢true (sym none ∙ next-has seen x y t is))
        | inr is ↦ is
      ]

      still_none : has (onward_leis nexts own x) y ≡ false → has (next_level nexts own (seen ++ x ∷ [])) y ≡ false
      still_none is =
          ap (λ l. has l y) (next-append seen (x ∷ []))
          ∙ (has-append (next_level nexts own seen) (onward_leis nexts own x ++ []) y
          ∙ (ap (λ b. b || has (onward_leis nexts own x ++ []) y) none
          ∙ (ap (λ l. has l y) (append-nil (onward_leis nexts own x)) ∙ is)))

      by : (a b c : Bool) → (a ≡ false → b ≡ c) → (a || b) ≡ (a || c)
      by true b c is = refl
      by false b c is = is refl

  -- ---- levels

  -- the levels with one more are the first level and what the levels so far name
  pub levels-last : (n : ℕ) (first : List (List ℕ)) → levels (suc n) nexts own first ≡ first ++ next_level nexts own (levels n nexts own first)
  unfolding levels
  levels-last zero first = refl
  levels-last (suc n) first =
      ap (λ l. first ++ l) (levels-last n (next_level nexts own first)
      ∙ sym (next-append first (levels n nexts own (next_level nexts own first))))

-- the different LEIs of levels, other than the entity's own
pub others-has : (n : ℕ) (nexts : Nexts) (own : List ℕ) (first : List (List ℕ)) (lei : List ℕ)
    → has (others n nexts own first) lei ≡ (has (levels n nexts own first) lei && not (bytes_eq lei own))
others-has n nexts own first lei =
    once-has (own ∷ []) (levels n nexts own first) lei
    ∙ ap (λ b. has (levels n nexts own first) lei && not b) (or-false (bytes_eq lei own))
