-- Levels if each LEI names at most one next one: they are the members of a walk, up to the entity's own LEI.
use Rattle.std.specs.Prelude.{◌≡◌, ℕ, zero, suc, ◌<◌, ◌≤◌, ◌==◌, Bool, true, false, cond, ◌||◌, nat_lt, List, [], ◌∷◌, ◌++◌, length, Option, Some, None}
use Rattle.std.specs.List.{Contains}
use Rattle.std.specs.Option.{option_map_or, option_to_list}
use Rattle.std.specs.Str.{bytes_eq}
use Rattle.std.proofs.Common.{refl, sym, ap, subst, ◌∙◌, inl, inr, arith}
use Rattle.std.proofs.lemmas.Bool.{cases_Bool, cases_lt, cond-false, cond-true, eq-eqb, false≢true, false_from_ne_true, le-ltb, lt-ltb, ne_eqb, or_cases, or_left, or_parts, or_right}
use Rattle.std.proofs.lemmas.Map.Made.{is_member-Decides}
use Rattle.std.proofs.lemmas.Slice.Eq.{bytes_eq-Decides}
use Rattle.lei_records.specs.Walks.{Next, is_long, is_met, walk_members}
use Rattle.successor_rules.specs.declared.walks.Walked.{Walked}
use Rattle.successor_rules.specs.Chains.{AllEnd, LeadsInSteps, Nexts}
use Rattle.successor_rules.specs.Levels.{each_once, has_wide_levels, is_back, levels, onward_leis, others, spread_out}
use Rattle.successor_rules.specs.Walks.{walk_end}
use Rattle.successor_rules.proofs.AgreeLemmas.{text_laws}
use Rattle.successor_rules.proofs.ChainLemmas.{never_returns}
use Rattle.successor_rules.proofs.LevelLemmas.{has, has-append, own_text, same_text}

-- ---- lists that lose nothing, and those that lose something

once-length : (seen xs : List (List ℕ)) → length (each_once seen xs) ≤ length xs
once-length seen [] = omega arith
once-length seen (x ∷ xs) =
    let later = seen ++ x ∷ [] in
    elim (has seen x) as (λ b. length (cond b (each_once seen xs) (x ∷ each_once later xs)) ≤ length (x ∷ xs)) [
      | true ↦ let rest = once-length seen xs in omega arith
      | false ↦ let rest = once-length later xs in omega arith
    ]

-- one that was seen is left out
once-fewer : (seen xs : List (List ℕ)) (x : List ℕ) → has seen x ≡ true → has xs x ≡ true → length (each_once seen xs) < length xs
once-fewer seen [] x was at = absurd (false≢true at)
once-fewer seen (y ∷ ys) x was at =
    let later = seen ++ y ∷ [] in
    elim (has seen y) as (λ b. has seen y ≡ b → length (cond b (each_once seen ys) (y ∷ each_once later ys)) < length (y ∷ ys)) [
      | true ↦ λ t. let rest = once-length seen ys in omega arith
      | false ↦ λ f.
          let other : bytes_eq x y ≡ false = false_from_ne_true (bytes_eq x y) (λ is.
          false≢true (sym f ∙ subst (λ z. has seen z ≡ true) (same_text x y is) was)) in
          let still : has later x ≡ true = has-append seen (y ∷ []) x ∙ or_left (has seen x) (has (y ∷ []) x) was in
          let rest = once-fewer later ys x still (sym (ap (λ b. b || has ys x) other) ∙ at) in omega arith
    ] refl

-- no LEI is in the list twice
abbrev NoDouble : List (List ℕ) → Type 0
NoDouble [] = Unit {0}
NoDouble (x ∷ xs) = (has xs x ≡ false) × NoDouble xs

once-all : (seen xs : List (List ℕ)) → NoDouble xs → ((x : List ℕ) → has xs x ≡ true → has seen x ≡ false) → each_once seen xs ≡ xs
once-all seen [] single new = refl
once-all seen (y ∷ ys) single new =
    let later = seen ++ y ∷ [] in
    cond-false (has seen y) (each_once seen ys) (y ∷ each_once later ys) (new y (or_left (bytes_eq y y) (has ys y) (own_text y)))
    ∙ ap (λ l. y ∷ l) (once-all later ys single.1 (λ x at.
    let other : bytes_eq x y ≡ false = false_from_ne_true (bytes_eq x y) (λ is.
    false≢true (sym single.0 ∙ subst (λ z. has ys z ≡ true) (same_text x y is) at)) in
    has-append seen (y ∷ []) x ∙ λ i. new x (or_right (bytes_eq x y) (has ys x) at) i || (other i || false)))

module _ (next : Next) where
  nexts : Nexts
  nexts lei = option_to_list (next lei)

  -- ---- the members of a walk

  -- the first member, and the walk from the next one
  members-next : (n : ℕ) (first : List ℕ) (named : Option (List ℕ)) → next first ≡ named
      → walk_members (suc n) next first ≡ first ∷ option_map_or (walk_members n next) named []
  unfolding walk_members
  members-next n first named is = ap (λ o. first ∷ option_map_or (walk_members n next) o []) is

  members-length : (n : ℕ) (first : List ℕ) → length (walk_members n next first) ≤ n
  unfolding walk_members
  members-length zero first = omega arith
  members-length (suc n) first = by (members-length n) (next first)
    where
      by : ((y : List ℕ) → length (walk_members n next y) ≤ n) → (named : Option (List ℕ)) → length (first ∷ option_map_or (walk_members n next) named []) ≤ suc n
      by less None = omega arith
      by less (Some y) = let rest = less y in omega arith

  -- a member of fewer is one of more
  members-more : (n : ℕ) (first x : List ℕ) → has (walk_members n next first) x ≡ true → has (walk_members (suc n) next first) x ≡ true
  unfolding walk_members
  members-more zero first x at = absurd (false≢true at)
  members-more (suc n) first x at = by (λ y. members-more n y x) (next first) at
    where
      by : ((y : List ℕ) → has (walk_members n next y) x ≡ true → has (walk_members (suc n) next y) x ≡ true) → (named : Option (List ℕ)) → has (first ∷ option_map_or (walk_members n next) named []) x ≡ true
          → has (first ∷ option_map_or (walk_members (suc n) next) named []) x ≡ true
      by more None at = at
      by more (Some y) at = elim (or_cases (bytes_eq x first) (has (walk_members n next y) x) at) [
        | inl here ↦ or_left (bytes_eq x first) (has (walk_members (suc n) next y) x) here
        | inr later ↦ or_right (bytes_eq x first) (has (walk_members (suc n) next y) x) (more y later)
      ]

  names : (lei named : List ℕ) → next lei ≡ Some named → Contains (nexts lei) named
  unfolding nexts
  names lei named is =
      (is_member-Decides bytes_eq-Decides (option_to_list (next lei)) named).0
      (ap (λ o. has (option_to_list o) named) is ∙ or_left (bytes_eq named named) false (own_text named))

  -- a way leads to each member
  leads : (n : ℕ) (first x : List ℕ) → has (walk_members n next first) x ≡ true → (k : ℕ) × LeadsInSteps k nexts first x
  unfolding walk_members
  leads zero first x at = absurd (false≢true at)
  leads (suc n) first x at = by (λ y. leads n y x) (next first) refl at
    where
      by : ((y : List ℕ) → has (walk_members n next y) x ≡ true → (k : ℕ) × LeadsInSteps k nexts y x) → (named : Option (List ℕ)) → next first ≡ named → has (first ∷ option_map_or (walk_members n next) named []) x ≡ true
          → (k : ℕ) × LeadsInSteps k nexts first x
      by way None is at = elim (or_cases (bytes_eq x first) false at) [
        | inl here ↦ (zero, sym (same_text x first here))
        | inr later ↦ absurd (false≢true later)
      ]
      by way (Some y) is at = elim (or_cases (bytes_eq x first) (has (walk_members n next y) x) at) [
        | inl here ↦ (zero, sym (same_text x first here))
        | inr later ↦ let rest = way y later in (suc rest.0, (y, names first y is, rest.1))
      ]

  -- if each way ends, no member is there twice
  members-single : (n : ℕ) (first : List ℕ) → AllEnd nexts → NoDouble (walk_members n next first)
  unfolding walk_members
  members-single zero first all = tt
  members-single (suc n) first all = by (λ y. members-single n y all) (next first) refl
    where
      by : ((y : List ℕ) → NoDouble (walk_members n next y)) → (named : Option (List ℕ)) → next first ≡ named → NoDouble (first ∷ option_map_or (walk_members n next) named [])
      by rest None is = (refl, tt)
      by rest (Some y) is = (
        false_from_ne_true (has (walk_members n next y) first) (λ at.
            let way = leads n y first at in
            never_returns nexts way.0 first all (y, names first y is, way.1)),
        rest y,
      )

  -- ---- the levels

  module _ (own : List ℕ) where
    levels-none : (n : ℕ) → levels n nexts own [] ≡ []
    unfolding levels
    levels-none zero = refl
    levels-none (suc n) = levels-none n

    -- each level has at most one
    onward_one : (lei : List ℕ) → (o : Option (List ℕ)) × (onward_leis nexts own lei ++ [] ≡ option_to_list o)
    unfolding nexts
    onward_one lei = by (bytes_eq lei own) (next lei)
      where
        by : (b : Bool) (named : Option (List ℕ)) → (o : Option (List ℕ)) × (cond b [] (option_to_list named) ++ [] ≡ option_to_list o)
        by true named = (None, refl)
        by false None = (None, refl)
        by false (Some y) = (Some y, refl)

    levels-length : (n : ℕ) (o : Option (List ℕ)) → length (levels n nexts own (option_to_list o)) ≤ n
    unfolding levels
    levels-length zero o = omega arith
    levels-length (suc n) None = let none = ap length (levels-none n) in omega arith
    levels-length (suc n) (Some y) =
        let after = onward_one y in
        let is = ap (λ l. length (levels n nexts own l)) after.1 in
        let rest = levels-length n after.0 in omega arith

    -- an LEI that isn't the entity's own is followed by what it names
    levels-next : (n : ℕ) (first : List ℕ) (named : Option (List ℕ)) → next first ≡ named → bytes_eq own first ≡ false
        → levels (suc n) nexts own (first ∷ []) ≡ first ∷ levels n nexts own (option_to_list named)
    unfolding levels nexts
    levels-next n first named is other =
        ap (λ l. first ∷ levels n nexts own l)
        (ap (λ l. l ++ []) (cond-false (bytes_eq first own) [] (option_to_list (next first)) (text_laws.symm first own ∙ other)
        ∙ ap option_to_list is) ∙ by named)
      where
        by : (o : Option (List ℕ)) → option_to_list o ++ [] ≡ option_to_list o
        by None = refl
        by (Some y) = refl

    -- without the entity's own LEI they are the members
    levels-members : (n : ℕ) (first : List ℕ) → has (walk_members n next first) own ≡ false
        → levels n nexts own (first ∷ []) ≡ walk_members n next first
    unfolding levels walk_members
    levels-members zero first without = refl
    levels-members (suc n) first without = by (levels-members n) (next first) refl without
      where
        by : ((y : List ℕ) → has (walk_members n next y) own ≡ false → levels n nexts own (y ∷ []) ≡ walk_members n next y) → (named : Option (List ℕ)) → next first ≡ named → has (first ∷ option_map_or (walk_members n next) named []) own ≡ false
            → levels (suc n) nexts own (first ∷ []) ≡ first ∷ option_map_or (walk_members n next) named []
        by rest None is without =
            levels-next n first None is (or_parts (bytes_eq own first) false without).0 ∙ ap (λ l. first ∷ l) (levels-none n)
        by rest (Some y) is without =
            let parts = or_parts (bytes_eq own first) (has (walk_members n next y) own) without in
            levels-next n first (Some y) is parts.0 ∙ ap (λ l. first ∷ l) (rest y parts.1)

    -- if the members have the own LEI, the levels have it
    levels-meet : (n : ℕ) (first : List ℕ) → has (walk_members n next first) own ≡ true → has (levels n nexts own (first ∷ [])) own ≡ true
    unfolding levels walk_members
    levels-meet zero first at = absurd (false≢true at)
    levels-meet (suc n) first at = elim (cases_Bool (bytes_eq own first)) [
      | inl is ↦ or_left (bytes_eq own first) (has (levels n nexts own (onward_leis nexts own first ++ [])) own) is
      | inr other ↦ by (levels-meet n) (next first) refl other at
    ]
      where
        by : ((y : List ℕ) → has (walk_members n next y) own ≡ true → has (levels n nexts own (y ∷ [])) own ≡ true) → (named : Option (List ℕ)) → next first ≡ named → bytes_eq own first ≡ false
            → has (first ∷ option_map_or (walk_members n next) named []) own ≡ true → has (levels (suc n) nexts own (first ∷ [])) own ≡ true
        by rest None is other at = absurd (false≢true (sym (ap (λ b. b || false) other) ∙ at))
        by rest (Some y) is other at =
            ap (λ l. has l own) (levels-next n first (Some y) is other)
            ∙ or_right (bytes_eq own first) (has (levels n nexts own (y ∷ [])) own)
            (rest y (sym (ap (λ b. b || has (walk_members n next y) own) other) ∙ at))

    -- ---- the results of both walks

    meets-so : (first : List ℕ) → has (walk_members 201 next first) own ≡ true → spread_out nexts own (first ∷ []) ≡ Walked.Meets
    meets-so first at =
        let met = levels-meet 201 first at in
        let fewer = once-fewer (own ∷ []) (levels 201 nexts own (first ∷ [])) own
        (or_left (bytes_eq own own) false (own_text own)) met in
        let few = levels-length 201 (Some first) in
        let narrow = le-ltb 200 (length (others 201 nexts own (first ∷ []))) (omega arith) in
        λ i. cond (narrow i) Walked.Long (cond (met i) Walked.Meets Walked.Ends)

    same-else : (first : List ℕ) → AllEnd nexts → has (walk_members 201 next first) own ≡ false
        → spread_out nexts own (first ∷ []) ≡ walk_end next own first
    same-else first all without =
        let levels_are = levels-members 201 first without in
        let single = once-all (own ∷ []) (walk_members 201 next first) (members-single 201 first all) (λ x at.
        false_from_ne_true (has (own ∷ []) x) (λ is. elim (or_cases (bytes_eq x own) false is) [
          | inl same ↦ false≢true (sym without ∙ subst (λ z. has (walk_members 201 next first) z ≡ true) (same_text x own same) at)
          | inr never ↦ false≢true never
        ])) in
        let count : has_wide_levels nexts own (first ∷ []) ≡ is_long next first =
        ap (λ l. nat_lt 200 (length (each_once (own ∷ []) l))) levels_are
        ∙ (ap (λ l. nat_lt 200 (length l)) single ∙ tests (length (walk_members 201 next first)) (members-length 201 first)) in
        let back : is_back nexts own (first ∷ []) ≡ false = ap (λ l. has l own) levels_are ∙ without in
        let unmet : is_met next own first ≡ false = false_from_ne_true (is_met next own first) (λ at.
        false≢true (sym without ∙ members-more 200 first own at)) in
        (λ i. cond (count i) Walked.Long (cond (back i) Walked.Meets Walked.Ends))
        ∙ λ i. cond (sym unmet i) Walked.Meets (cond (is_long next first) Walked.Long Walked.Ends)
      where
        tests : (n : ℕ) → n ≤ 201 → nat_lt 200 n ≡ (n == 201)
        tests n most = elim (cases_lt 200 n) [
          | inl many ↦ lt-ltb 200 n many ∙ sym (eq-eqb n 201 (omega arith))
          | inr few ↦ le-ltb 200 n few ∙ sym (ne_eqb n 201 (λ is. omega arith))
        ]

pub single-levels : (next : Next) (own first : List ℕ) → AllEnd (λ lei. option_to_list (next lei))
    → spread_out (λ lei. option_to_list (next lei)) own (first ∷ [])
    ≡ cond (has (walk_members 201 next first) own) Walked.Meets (walk_end next own first)
unfolding nexts
single-levels next own first all = elim (cases_Bool (has (walk_members 201 next first) own)) [
  | inl at ↦ meets-so next own first at ∙ sym (cond-true (has (walk_members 201 next first) own) Walked.Meets (walk_end next own first) at)
  | inr without ↦ same-else next own first all without ∙ sym (cond-false (has (walk_members 201 next first) own) Walked.Meets (walk_end next own first) without)
]
