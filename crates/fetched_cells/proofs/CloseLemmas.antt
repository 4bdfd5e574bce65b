-- The LEIs that are found level by level: they stay within a closed list, and none occurs twice. If n levels have fewer
-- than n LEIs, these are closed themselves.
use Rattle.std.specs.Prelude.{◌≡◌, ℕ, zero, suc, ◌<◌, ◌≤◌, Bool, true, false, not, ◌&&◌, ◌||◌, List, [], ◌∷◌, ◌++◌, length, flat_map}
use Rattle.std.specs.List.{IsDistinct}
use Rattle.std.specs.Str.{bytes_eq}
use Rattle.std.proofs.Common.{refl, sym, ap, subst, ◌∙◌, inl, inr, arith, append_assoc}
use Rattle.std.proofs.lemmas.Bool.{and_parts, cases_Bool, false≢true, not-true, or_cases, or_left, or_parts, or_right}
use Rattle.std.proofs.lemmas.List.{length-append, take_all}
use Rattle.std.proofs.lemmas.Map.Made.{length-le_from_is_member}
use Rattle.successor_rules.specs.Chains.{Nexts}
use Rattle.successor_rules.proofs.AgreeLemmas.{text_laws}
use Rattle.successor_rules.proofs.LevelLemmas.{has, has-append, own_text, same_text}
use Rattle.fetched_cells.specs.Nearest.{by_levels, nearest, new_ones}
use Rattle.fetched_cells.proofs.NearestLemmas.{levels_end}
use Rattle.fetched_cells.proofs.OrderLemmas.{both-distinct, new_ones-distinct, new_ones-has}

-- a list has each LEI that one of its members names
pub record Closed (nexts : Nexts) (leis : List (List ℕ)) : Type 0 where
  pub goes : (x y : List ℕ) → has leis x ≡ true → has (nexts x) y ≡ true → has leis y ≡ true

-- the member of a list that names an LEI
pub record NamedBy (nexts : Nexts) (leis : List (List ℕ)) (y : List ℕ) : Type 0 where
  pub lei : List ℕ
  pub at : has leis lei ≡ true
  pub names : has (nexts lei) y ≡ true

pub named_by : (nexts : Nexts) (leis : List (List ℕ)) (y : List ℕ) → has (flat_map nexts leis) y ≡ true → NamedBy nexts leis y
named_by nexts [] y at = absurd (false≢true at)
named_by nexts (x ∷ xs) y at = elim (or_cases (has (nexts x) y) (has (flat_map nexts xs) y) (sym (has-append (nexts x) (flat_map nexts xs) y) ∙ at)) [
  | inl is ↦ record { lei = x; at = or_left (bytes_eq x x) (has xs x) (own_text x); names = is }
  | inr is ↦
      let rest = named_by nexts xs y is in
      record { lei = rest.lei; at = or_right (bytes_eq rest.lei x) (has xs rest.lei) rest.at; names = rest.names }
]

pub names_there : (nexts : Nexts) (leis : List (List ℕ)) (x y : List ℕ) → has leis x ≡ true → has (nexts x) y ≡ true → has (flat_map nexts leis) y ≡ true
names_there nexts [] x y at names = absurd (false≢true at)
names_there nexts (z ∷ zs) x y at names =
    has-append (nexts z) (flat_map nexts zs) y
    ∙ elim (or_cases (bytes_eq x z) (has zs x) at) [
      | inl is ↦ or_left (has (nexts z) y) (has (flat_map nexts zs) y) (subst (λ m. has (nexts m) y ≡ true) (same_text x z is) names)
      | inr is ↦ or_right (has (nexts z) y) (has (flat_map nexts zs) y) (names_there nexts zs x y is names)
    ]

module _ (nexts : Nexts) where
  -- ---- within a closed list

  module _ (whole : List (List ℕ)) (closed : Closed nexts whole) where
    new_within : (met before : List (List ℕ)) → ((x : List ℕ) → has before x ≡ true → has whole x ≡ true)
        → (y : List ℕ) → has (new_ones nexts met before) y ≡ true → has whole y ≡ true
    new_within met before within y at =
        let parts = and_parts (has (flat_map nexts before) y) (not (has met y)) (sym (new_ones-has nexts met before y) ∙ at) in
        let by = named_by nexts before y parts.0 in
        closed.goes by.lei y (within by.lei by.at) by.names

    levels_within : (n : ℕ) (met before : List (List ℕ)) → ((x : List ℕ) → has before x ≡ true → has whole x ≡ true)
        → (y : List ℕ) → has (by_levels n nexts met before) y ≡ true → has whole y ≡ true
    unfolding by_levels
    levels_within zero met before within y at = absurd (false≢true at)
    levels_within (suc n) met before within y at =
        let level = new_ones nexts met before in
        let rest = by_levels n nexts (met ++ level) level in
        elim (or_cases (has level y) (has rest y) (sym (has-append level rest y) ∙ at)) [
          | inl is ↦ new_within met before within y is
          | inr is ↦ levels_within n (met ++ level) level (new_within met before within) y is
        ]

  -- ---- without duplicates

  levels_apart : (n : ℕ) (met before : List (List ℕ)) (y : List ℕ) → has (by_levels n nexts met before) y ≡ true → has met y ≡ false
  unfolding by_levels
  levels_apart zero met before y at = absurd (false≢true at)
  levels_apart (suc n) met before y at =
      let level = new_ones nexts met before in
      let rest = by_levels n nexts (met ++ level) level in
      elim (or_cases (has level y) (has rest y) (sym (has-append level rest y) ∙ at)) [
        | inl is ↦ not-true (has met y) (and_parts (has (flat_map nexts before) y) (not (has met y)) (sym (new_ones-has nexts met before y) ∙ is)).1
        | inr is ↦ (or_parts (has met y) (has level y) (sym (has-append met level y) ∙ levels_apart n (met ++ level) level y is)).0
      ]

  pub levels_distinct : (n : ℕ) (met before : List (List ℕ)) → IsDistinct bytes_eq (by_levels n nexts met before)
  unfolding by_levels IsDistinct
  levels_distinct zero met before = tt
  levels_distinct (suc n) met before =
      let level = new_ones nexts met before in
      let rest = by_levels n nexts (met ++ level) level in
      both-distinct level rest (new_ones-distinct nexts met before) (levels_distinct n (met ++ level) level) (λ x at.
      elim (cases_Bool (has rest x)) [
        | inl is ↦ absurd (false≢true (sym (or_parts (has met x) (has level x)
            (sym (has-append met level x) ∙ levels_apart n (met ++ level) level x is)).1 ∙ at))
        | inr is ↦ is
      ])

  -- ---- closed themselves

  -- all that the LEIs of the level before and those that were found name was met or found
  record Closes (met before found : List (List ℕ)) : Type 0 where
    named : (y : List ℕ) → has (flat_map nexts before) y ≡ true → has (met ++ found) y ≡ true
    goes : (x y : List ℕ) → has found x ≡ true → has (nexts x) y ≡ true → has (met ++ found) y ≡ true

  old_or_new : (met before : List (List ℕ)) (y : List ℕ) → has (flat_map nexts before) y ≡ true
      → (has met y || has (new_ones nexts met before) y) ≡ true
  old_or_new met before y at = by (has met y) (new_ones-has nexts met before y ∙ ap (λ b. b && not (has met y)) at)
    where
      by : (m : Bool) {l : Bool} → l ≡ not m → (m || l) ≡ true
      by true is = refl
      by false is = is

  closes : (n : ℕ) (met before : List (List ℕ)) → length (by_levels n nexts met before) < n → Closes met before (by_levels n nexts met before)
  unfolding by_levels
  closes zero met before few = absurd (omega arith)
  closes (suc n) met before few = by (closes n) (new_ones nexts met before) (old_or_new met before) few
    where
      by : ((m b : List (List ℕ)) → length (by_levels n nexts m b) < n → Closes m b (by_levels n nexts m b))
          → (level : List (List ℕ)) → ((y : List ℕ) → has (flat_map nexts before) y ≡ true → (has met y || has level y) ≡ true)
          → length (level ++ by_levels n nexts (met ++ level) level) < suc n
          → Closes met before (level ++ by_levels n nexts (met ++ level) level)
      by rest_closes [] known few =
          let none : by_levels n nexts (met ++ []) [] ≡ [] = levels_end n nexts (met ++ []) in
          subst (Closes met before) (sym none) (record {
            named = λ y at. has-append met [] y ∙ known y at;
            goes = λ x y at names. absurd (false≢true at);
          })
      by rest_closes (z ∷ zs) known few =
          let level = z ∷ zs in
          let rest = by_levels n nexts (met ++ level) level in
          let count = length-append level rest in
          let later = rest_closes (met ++ level) level (omega arith) in
          let here : (y : List ℕ) → has ((met ++ level) ++ rest) y ≡ true → has (met ++ (level ++ rest)) y ≡ true =
          λ y at. ap (λ l. has l y) (sym (append_assoc met level rest)) ∙ at in
          record {
            named = λ y at. here y (has-append (met ++ level) rest y
                ∙ or_left (has (met ++ level) y) (has rest y) (has-append met level y ∙ known y at));
            goes = λ x y at names. here y (elim (or_cases (has level x) (has rest x) (sym (has-append level rest x) ∙ at)) [
              | inl is ↦ later.named y (names_there nexts level x y is names)
              | inr is ↦ later.goes x y is names
            ]);
          }

  -- ---- from one LEI on, within a closed list of at most 200

  module _ (whole : List (List ℕ)) (closed : Closed nexts whole) (few : length whole ≤ 200) (own : List ℕ) (at : has whole own ≡ true) where
    abbrev found : List (List ℕ)
    found = by_levels 201 nexts (own ∷ []) (own ∷ [])

    alone : (x : List ℕ) → has (own ∷ []) x ≡ true → has whole x ≡ true
    alone x is = elim (or_cases (bytes_eq x own) false is) [
      | inl same ↦ subst (λ l. has whole l ≡ true) (sym (same_text x own same)) at
      | inr never ↦ absurd (false≢true never)
    ]

    found_few : length found ≤ 200
    found_few =
        let less : length found ≤ length whole =
        length-le_from_is_member text_laws found whole (levels_distinct 201 (own ∷ []) (own ∷ []))
        (levels_within whole closed 201 (own ∷ []) (own ∷ []) alone) in
        omega arith

    found_all : nearest nexts own ≡ found
    found_all = take_all 201 found (let least = found_few in omega arith)

    -- the LEI and those that are nearest to it are closed
    pub nearest_closed : Closed nexts (own ∷ nearest nexts own)
    nearest_closed =
        let least = found_few in
        let all = closes 201 (own ∷ []) (own ∷ []) (omega arith) in
        subst (λ l. Closed nexts (own ∷ l)) (sym found_all) (record {
          goes = λ x y is names. elim (or_cases (bytes_eq x own) (has found x) is) [
            | inl same ↦ all.named y (names_there nexts (own ∷ []) x y (or_left (bytes_eq x own) false same) names)
            | inr later ↦ all.goes x y later names
          ];
        })
