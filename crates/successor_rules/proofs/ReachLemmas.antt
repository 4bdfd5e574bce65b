-- The first 200 LEIs that a walk by levels reaches: what these name decides the result of the walk.
use Rattle.std.specs.Prelude.{◌≡◌, ℕ, zero, suc, ◌+◌, ◌<◌, ◌≤◌, Bool, true, false, not, cond, ◌&&◌, ◌||◌, List, [], ◌∷◌, ◌++◌, length, take, drop, get_or, find, Option, Some, None}
use Rattle.std.specs.List.{AllByRecursion, IsDistinct}
use Rattle.std.proofs.Math.ListN.{get_or-append}
use Rattle.std.specs.Str.{bytes_eq}
use Rattle.std.proofs.Common.{refl, sym, ap, subst, ◌∙◌, ◌⊎◌, inl, inr, arith}
use Rattle.std.proofs.lemmas.Bool.{and_parts, cases_Bool, cases_lt, false≢true, lt-ltb, ltb-false, ltb-true, or_cases, or_left, or_right}
use Rattle.std.proofs.lemmas.List.{length-take-le, take-append-drop, take_all, take_more}
use Rattle.std.proofs.lemmas.Map.Made.{length-le_from_is_member}
use Rattle.lei_records.specs.declared.view.CellKey.{CellKey}
use Rattle.lei_records.specs.declared.view.Seen.{Seen}
use Rattle.successor_rules.specs.declared.walks.Walked.{Walked}
use Rattle.successor_rules.specs.Chains.{Nexts}
use Rattle.successor_rules.specs.Levels.{SeenNexts, first_lacking, has_wide_levels, held_nexts, is_back, known_nexts, lacks_nexts, levels, next_level, onward_leis, others, reachable, spread_over}
use Rattle.successor_rules.specs.Walks.{unless_lacking}
use Rattle.successor_rules.proofs.AgreeLemmas.{find-none, find-some, named_there, others-same-all, spread-same, text_laws}
use Rattle.successor_rules.proofs.ViewLemmas.{spread-whole}
use Rattle.successor_rules.proofs.LevelLemmas.{Within, has, has-append, has-at, next-has, once-distinct, once-has, own_text, same_text}
use Rattle.successor_rules.proofs.RiseLemmas.{Begins, begins_length, begins_on, gathered, gathered-begins, others-next, others-rise, others-stand}

-- of two lists that a third one starts with, the longer starts with the shorter
shorter : (xs ys rest more : List (List ℕ)) → xs ++ rest ≡ ys ++ more → length xs ≤ length ys → Begins xs ys
shorter [] ys rest more is less = record { rest = ys; is = refl }
shorter (x ∷ xs) [] rest more is less = absurd (omega (arith, less))
shorter (x ∷ xs) (y ∷ ys) rest more is less =
    let same : y ≡ x = cc in
    let later = shorter xs ys rest more (cc) (omega (arith, less)) in
    record { rest = later.rest; is = λ i. same i ∷ later.is i }

begins_longer : (xs ys all : List (List ℕ)) → Begins xs all → Begins ys all → length xs ≤ length ys → Begins xs ys
begins_longer xs ys all one two less = shorter xs ys one.rest two.rest (sym one.is ∙ two.is) less

-- a list has everything that its front has
front-has : (xs ys : List (List ℕ)) (x : List ℕ) → Begins xs ys → has xs x ≡ true → has ys x ≡ true
front-has xs ys x begins at =
    ap (λ l. has l x) begins.is ∙ (has-append xs begins.rest x ∙ or_left (has xs x) (has begins.rest x) at)

front : (n : ℕ) (xs : List (List ℕ)) → Begins (take n xs) xs
front n xs = record { rest = drop n xs; is = sym (take-append-drop n xs) }

-- a front of different LEIs has different LEIs
all-front : {X : Type 0} (P : X → Type 0) (n : ℕ) (xs : List X) → AllByRecursion P xs → AllByRecursion P (take n xs)
all-front P zero xs all = tt
all-front P (suc n) [] all = tt
all-front P (suc n) (x ∷ xs) all = (all.0, all-front P n xs all.1)

distinct-front : (n : ℕ) (xs : List (List ℕ)) → IsDistinct bytes_eq xs → IsDistinct bytes_eq (take n xs)
unfolding IsDistinct
distinct-front zero xs is = tt
distinct-front (suc n) [] is = tt
distinct-front (suc n) (x ∷ xs) is = (all-front (λ y. bytes_eq x y ≡ false) n xs is.0, distinct-front n xs is.1)

-- ---- each LEI is named by one before it, or is in the first level

module _ (nexts : Nexts) (own : List ℕ) (first : List (List ℕ)) where
  abbrev all : List (List ℕ)
  all = others 201 nexts own first

  -- if what is gathered from a front adds nothing, the front is complete
  closed : (k : ℕ) → Begins (gathered nexts own first (take k all)) (take k all) → (n : ℕ) → Begins (others n nexts own first) (gathered nexts own first (take k all))
  unfolding levels
  closed k shut zero = record { rest = gathered nexts own first (take k all); is = refl }
  closed k shut (suc n) =
      let g = gathered nexts own first (take k all) in
      subst (λ l. Begins l g) (sym (others-next nexts own first n))
      (gathered-begins nexts own first (others n nexts own first) (take k all)
      (begins_on (others n nexts own first) g (take k all) (closed k shut n) shut))

  gathered-more : (k : ℕ) → k < length all → k < length (gathered nexts own first (take k all))
  gathered-more k less = elim (cases_lt k (length (gathered nexts own first (take k all)))) [
    | inl more ↦ more
    | inr few ↦
        let g = gathered nexts own first (take k all) in
        let next = others 202 nexts own first in
        let of_g : Begins g next =
        subst (Begins g) (sym (others-next nexts own first 201)) (gathered-begins nexts own first (take k all) all (front k all)) in
        let of_front : Begins (take k all) next = begins_on (take k all) all next (front k all) (others-rise nexts own first 201) in
        let size : length (take k all) ≡ k = length-take-le k all (omega (arith, less)) in
        let whole = begins_length all g (closed k (begins_longer g (take k all) next of_g of_front (omega (arith, few, size))) 201) in
        absurd (omega (arith, whole, few, less))
  ]

  pub named_before : (k : ℕ) → k < length all → has (gathered nexts own first (take k all)) (get_or all k []) ≡ true
  named_before k less =
      let g = gathered nexts own first (take k all) in
      let next = others 202 nexts own first in
      let of_g : Begins g next =
      subst (Begins g) (sym (others-next nexts own first 201)) (gathered-begins nexts own first (take k all) all (front k all)) in
      let rise = others-rise nexts own first 201 in
      let more = gathered-more k less in
      let same : get_or g k [] ≡ get_or all k [] =
      sym (ap (λ l. get_or l k []) of_g.is ∙ get_or-append g of_g.rest [] k more)
      ∙ (ap (λ l. get_or l k []) rise.is ∙ get_or-append all rise.rest [] k less) in
      subst (λ x. has g x ≡ true) same (has-at g k [] more)

-- ---- one reaches too many if another one that names less does

module _ (one other : Nexts) (own : List ℕ) (first : List (List ℕ))
    (more : (x : List ℕ) → has (reachable one own first) x ≡ true → Within (one x) (other x)) where
  abbrev all_one : List (List ℕ)
  all_one = others 201 one own first

  abbrev all_other : List (List ℕ)
  all_other = others 201 other own first

  onward_more : (x y : List ℕ) → has (reachable one own first) x ≡ true → has (onward_leis one own x) y ≡ true → has (onward_leis other own x) y ≡ true
  onward_more x y at names = by (bytes_eq x own) names
    where
      by : (b : Bool) → has (cond b [] (one x)) y ≡ true → has (cond b [] (other x)) y ≡ true
      by true names = names
      by false names = let within = more x at in within.each y names

  module _ (few : length all_other ≤ 200) where
    -- then all that the others name is among them
    shut : all_other ≡ gathered other own first all_other
    shut =
        let stands : all_other ≡ others 200 other own first = others-stand other own first 200 few in
        others-next other own first 200 ∙ ap (gathered other own first) (sym stands)

    not_own : (y : List ℕ) → has (gathered one own first all_one) y ≡ true → not (has (own ∷ []) y) ≡ true
    not_own y at =
        let names = first ++ next_level one own all_one in
        (and_parts (has names y) (not (has (own ∷ []) y)) (sym (once-has (own ∷ []) names y) ∙ at)).1

    within_step : (k : ℕ) → k ≤ 200 → k < length all_one → Within (take k all_one) all_other → has all_other (get_or all_one k []) ≡ true
    within_step k few_so_far less within =
        let y = get_or all_one k [] in
        let names = first ++ next_level one own (take k all_one) in
        let named = and_parts (has names y) (not (has (own ∷ []) y)) (sym (once-has (own ∷ []) names y) ∙ named_before one own first k less) in
        let there : has (first ++ next_level other own all_other) y ≡ true =
        has-append first (next_level other own all_other) y
        ∙ elim (or_cases (has first y) (has (next_level one own (take k all_one)) y) (sym (has-append first (next_level one own (take k all_one)) y) ∙ named.0)) [
          | inl at_first ↦ or_left (has first y) (has (next_level other own all_other) y) at_first
          | inr later ↦
              let by = named_there one own (take k all_one) y later in
              let early : has (reachable one own first) by.0 ≡ true =
              front-has (take k all_one) (take 200 all_one) by.0
              (begins_longer (take k all_one) (take 200 all_one) all_one (front k all_one) (front 200 all_one)
              (shorter_front k all_one few_so_far (omega (arith, less)))) by.1 in
              or_right (has first y) (has (next_level other own all_other) y)
              (next-has other own all_other by.0 y (within.each by.0 by.1) (onward_more by.0 y early by.2))
        ] in
        ap (λ l. has l y) shut
        ∙ (once-has (own ∷ []) (first ++ next_level other own all_other) y ∙ λ i. there i && named.1 i)
      where
        shorter_front : (k : ℕ) (xs : List (List ℕ)) → k ≤ 200 → k ≤ length xs → length (take k xs) ≤ length (take 200 xs)
        shorter_front k xs few within = elim (cases_lt 200 (length xs)) [
          | inl long ↦
              let a = length-take-le k xs within in
              let b = length-take-le 200 xs (omega (arith, long)) in
              omega (arith, a, b, few)
          | inr short ↦
              let a = length-take-le k xs within in
              let b = ap length (take_all 200 xs short) in
              omega (arith, a, b, within)
        ]

    within_front : (k : ℕ) → k ≤ 201 → k ≤ length all_one → Within (take k all_one) all_other
    within_front zero few_so_far less = record { each = λ y at. absurd (false≢true at) }
    within_front (suc k) few_so_far less =
        let before = within_front k (omega (arith, few_so_far)) (omega (arith, less)) in
        let next = within_step k (omega (arith, few_so_far)) (omega (arith, less)) before in
        let taken = take_suc k all_one (omega (arith, less)) in
        record {
          each = λ y at. joins y before next (sym (has-append (take k all_one) (get_or all_one k [] ∷ []) y) ∙ (sym (ap (λ l. has l y) taken) ∙ at));
        }
      where
        take_suc : (n : ℕ) (xs : List (List ℕ)) → n < length xs → take (suc n) xs ≡ take n xs ++ get_or xs n [] ∷ []
        take_suc n xs within = ap (λ m. take m xs) (next n) ∙ take_more xs n [] within
          where
            next : (n : ℕ) → suc n ≡ n + 1
            next n = omega arith

        joins : (y : List ℕ) → Within (take k all_one) all_other → has all_other (get_or all_one k []) ≡ true
            → (has (take k all_one) y || (bytes_eq y (get_or all_one k []) || false)) ≡ true → has all_other y ≡ true
        joins y before next at = elim (or_cases (has (take k all_one) y) (bytes_eq y (get_or all_one k []) || false) at) [
          | inl early ↦ before.each y early
          | inr here ↦ elim (or_cases (bytes_eq y (get_or all_one k [])) false here) [
            | inl same ↦ subst (λ z. has all_other z ≡ true) (sym (same_text y (get_or all_one k []) same)) next
            | inr never ↦ absurd (false≢true never)
          ]
        ]

    too_many_then : 200 < length all_one → ⊥
    too_many_then many =
        let within = within_front 201 (omega arith) (omega (arith, many)) in
        let size = length-take-le 201 all_one (omega (arith, many)) in
        let fits : length (take 201 all_one) ≤ length all_other =
        length-le_from_is_member text_laws (take 201 all_one) all_other
        (distinct-front 201 all_one (once-distinct (own ∷ []) (levels 201 one own first))) within.each in
        omega (arith, size, fits, few)

  pub wide_by_front : has_wide_levels one own first ≡ true → has_wide_levels other own first ≡ true
  wide_by_front wide = elim (cases_lt 200 (length all_other)) [
    | inl many ↦ lt-ltb 200 (length all_other) many
    | inr few ↦ absurd (too_many_then few (ltb-true 200 (length all_one) wide))
  ]

-- ---- views

-- For an LEI one view answers as another does, or lacks the cell.
abbrev pub IsNearer : SeenNexts → SeenNexts → List ℕ → Type 0
IsNearer answers others lei = (lacks_nexts (answers lei) ≡ true) ⊎ (answers lei ≡ others lei)

module _ (answers more : SeenNexts) (key : List ℕ → CellKey) (own : List ℕ) (first : List (List ℕ))
    (near : (lei : List ℕ) → has (reachable (known_nexts answers) own first) lei ≡ true → IsNearer answers more lei) where
  known_within : (lei : List ℕ) → has (reachable (known_nexts answers) own first) lei ≡ true → Within (known_nexts answers lei) (known_nexts more lei)
  known_within lei at = elim (near lei at) [
    | inl lacking ↦ record { each = λ y names. absurd (none_named (answers lei) y lacking names) }
    | inr same ↦ record { each = λ y names. ap (λ s. has (held_nexts s) y) (sym same) ∙ names }
  ]
    where
      none_named : (s : Seen (List (List ℕ))) (y : List ℕ) → lacks_nexts s ≡ true → has (held_nexts s) y ≡ true → ⊥
      none_named (Seen.Held leis) y lacking names = false≢true lacking
      none_named Seen.Empty y lacking names = false≢true lacking
      none_named Seen.Missing y lacking names = false≢true names

  -- Both walks have the same result, or the first view lacks a cell of an LEI that is reached, and reports it.
  abbrev pub SameOrLacks : Type 0
  SameOrLacks =
      (spread_over answers key own first ≡ spread_over more key own first)
      ⊎ ((lei : List ℕ) × (lacks_nexts (answers lei) ≡ true) × (has (reachable (known_nexts answers) own first) lei ≡ true)
      × (spread_over answers key own first ≡ Walked.Missing (key lei)))

  over : (view : SeenNexts) (w : Bool) (l : Option (List ℕ)) → has_wide_levels (known_nexts view) own first ≡ w → first_lacking view own first ≡ l
      → spread_over view key own first ≡ cond w Walked.Long (unless_lacking key l (cond (is_back (known_nexts view) own first) Walked.Meets Walked.Ends))
  over view w l wide lacks =
      λ i. cond (wide i) Walked.Long (unless_lacking key (lacks i) (cond (is_back (known_nexts view) own first) Walked.Meets Walked.Ends))

  pub near-tells : SameOrLacks
  near-tells = elim (cases_Bool (has_wide_levels known own first)) [
    | inl wide ↦ inl (over answers true (first_lacking answers own first) wide refl
        ∙ sym (over more true (first_lacking more own first) (wide_by_front known (known_nexts more) own first known_within wide) refl))
    | inr narrow ↦ by (first_lacking answers own first) refl narrow
  ]
    where
      known : Nexts
      known = known_nexts answers

      -- if they aren't too many, all are among the first 200
      all_reached : has_wide_levels (known_nexts answers) own first ≡ false → reachable (known_nexts answers) own first ≡ others 201 (known_nexts answers) own first
      all_reached narrow = take_all 200 (others 201 (known_nexts answers) own first) (ltb-false 200 (length (others 201 (known_nexts answers) own first)) narrow)

      by : (l : Option (List ℕ)) → first_lacking answers own first ≡ l → has_wide_levels (known_nexts answers) own first ≡ false → SameOrLacks
      by (Some lei) is narrow =
          let found = find-some (λ l. lacks_nexts (answers l)) (others 201 (known_nexts answers) own first) lei is in
          inr (lei, found.1, ap (λ l. has l lei) (all_reached narrow) ∙ found.0, over answers false (Some lei) narrow is)
      by None is narrow =
          let all = others 201 (known_nexts answers) own first in
          let same : (x : List ℕ) → has all x ≡ true → answers x ≡ more x =
          λ x at. told x (find-none (λ l. lacks_nexts (answers l)) all x is at) (near x (ap (λ l. has l x) (all_reached narrow) ∙ at)) in
          let spreads = spread-same (known_nexts answers) (known_nexts more) own first (λ x at. ap held_nexts (same x at)) in
          let alls : all ≡ others 201 (known_nexts more) own first =
          others-same-all (known_nexts answers) (known_nexts more) own first (λ x at. ap held_nexts (same x at)) in
          let none : first_lacking more own first ≡ None =
          ap (find (λ l. lacks_nexts (more l))) (sym alls) ∙ (find-same all (λ x at. ap lacks_nexts (sym (same x at))) ∙ is) in
          inl (over answers (has_wide_levels (known_nexts answers) own first) None refl is
          ∙ (spreads ∙ sym (over more (has_wide_levels (known_nexts more) own first) None refl none)))
        where
          told : (x : List ℕ) → lacks_nexts (answers x) ≡ false → IsNearer answers more x → answers x ≡ more x
          told x known (inl lacking) = absurd (false≢true (sym known ∙ lacking))
          told x known (inr same) = same

          find-same : (xs : List (List ℕ)) → ((x : List ℕ) → has xs x ≡ true → lacks_nexts (more x) ≡ lacks_nexts (answers x))
              → find (λ l. lacks_nexts (more l)) xs ≡ find (λ l. lacks_nexts (answers l)) xs
          find-same [] same = refl
          find-same (x ∷ xs) same =
              let here = same x (or_left (bytes_eq x x) (has xs x) (own_text x)) in
              let rest = find-same xs (λ y at. same y (or_right (bytes_eq y x) (has xs y) at)) in
              λ i. cond (here i) (Some x) (rest i)

-- ---- a cell that a view reports as missing

-- nothing in place of what is missing
patch : Seen (List (List ℕ)) → Seen (List (List ℕ))
patch (Seen.Held leis) = Seen.Held leis
patch Seen.Empty = Seen.Empty
patch Seen.Missing = Seen.Empty

patch-near : (s : Seen (List (List ℕ))) → (lacks_nexts s ≡ true) ⊎ (s ≡ patch s)
unfolding patch
patch-near (Seen.Held leis) = inr refl
patch-near Seen.Empty = inr refl
patch-near Seen.Missing = inl refl

patch-known : (s : Seen (List (List ℕ))) → lacks_nexts (patch s) ≡ false
unfolding patch
patch-known (Seen.Held leis) = refl
patch-known Seen.Empty = refl
patch-known Seen.Missing = refl

never_missing : (wide back : Bool) (key : CellKey) → cond wide Walked.Long (cond back Walked.Meets Walked.Ends) ≡ Walked.Missing key → ⊥
never_missing true back key is = cc
never_missing false true key is = cc
never_missing false false key is = cc

-- it is that of an LEI that is reached
pub spread-lacks : (answers : SeenNexts) (key : List ℕ → CellKey) (own : List ℕ) (first : List (List ℕ)) (cell : CellKey)
    → spread_over answers key own first ≡ Walked.Missing cell
    → (lei : List ℕ) × (lacks_nexts (answers lei) ≡ true) × (has (reachable (known_nexts answers) own first) lei ≡ true) × (key lei ≡ cell)
spread-lacks answers key own first cell is =
    let whole : SeenNexts = λ lei. patch (answers lei) in
    elim (near-tells answers whole key own first (λ lei at. patch-near (answers lei))) [
      | inl same ↦
          let ended = spread-whole whole key own first (λ lei. patch-known (answers lei)) in
          absurd (never_missing (has_wide_levels (known_nexts whole) own first) (is_back (known_nexts whole) own first) cell (sym ended ∙ (sym same ∙ is)))
      | inr lacks ↦
          let found : Walked.Missing (key lacks.0) ≡ Walked.Missing cell = sym lacks.3 ∙ is in
          let same : key lacks.0 ≡ cell = cc in
          (lacks.0, lacks.1, lacks.2, same)
    ]
