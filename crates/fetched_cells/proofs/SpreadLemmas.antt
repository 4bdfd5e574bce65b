-- If the walk by levels from a record's successors ends, each LEI that it reaches is near one of them. It is this
-- successor itself, or is among the LEIs that are nearest to it.
use Rattle.std.specs.Prelude.{◌≡◌, ℕ, zero, suc, ◌≤◌, Bool, true, false, not, cond, ◌&&◌, ◌||◌, List, [], ◌∷◌, ◌++◌, length, Option, Some, None}
use Rattle.std.specs.List.{flat_map}
use Rattle.std.specs.Option.{option_map_or}
use Rattle.std.specs.Str.{bytes_eq}
use Rattle.std.proofs.Common.{refl, sym, ap, subst, ◌∙◌, inl, inr}
use Rattle.std.proofs.lemmas.Bool.{and_parts, cases_Bool, cond-false, false≢true, ltb-false, not-true, or_cases, or_left, or_right}
use Rattle.std.proofs.lemmas.List.{take_all}
use Rattle.lei_records.specs.Walks.{Next, walk_members}
use Rattle.successor_rules.specs.declared.walks.Walked.{Walked}
use Rattle.successor_rules.specs.Chains.{Nexts}
use Rattle.successor_rules.specs.Levels.{each_once, has_wide_levels, is_back, levels, next_level, onward_leis, others, reachable, spread_out}
use Rattle.successor_rules.proofs.LevelLemmas.{has, has-append, next-has, once-has, others-has, own_text, same_text}
use Rattle.successor_rules.proofs.RiseLemmas.{levels-has, others-next, others-stand}
use Rattle.fetched_cells.specs.Nearest.{nearest}
use Rattle.fetched_cells.proofs.CloseLemmas.{Closed, NamedBy, named_by, names_there, nearest_closed}

-- a walk that ends is neither too wide nor back at the record
ended_parts : (wide back : Bool) → cond wide Walked.Long (cond back Walked.Meets Walked.Ends) ≡ Walked.Ends → (wide ≡ false) × (back ≡ false)
ended_parts true back is = absurd cc
ended_parts false true is = absurd cc
ended_parts false false is = (refl, refl)

-- an LEI with those that are nearest to it
abbrev pub near : Nexts → Nexts
near nexts lei = lei ∷ nearest nexts lei

pub onward_names : (nexts : Nexts) (own x y : List ℕ) → has (onward_leis nexts own x) y ≡ true → has (nexts x) y ≡ true
onward_names nexts own x y at = by (bytes_eq x own) at
  where
    by : (b : Bool) → has (cond b [] (nexts x)) y ≡ true → has (nexts x) y ≡ true
    by true is = absurd (false≢true is)
    by false is = is

-- levels stay within a closed list
levels_in : (n : ℕ) (nexts : Nexts) (own : List ℕ) (whole level : List (List ℕ)) → Closed nexts whole
    → ((x : List ℕ) → has level x ≡ true → has whole x ≡ true) → (y : List ℕ) → has (levels n nexts own level) y ≡ true → has whole y ≡ true
unfolding levels
levels_in zero nexts own whole level closed within y at = absurd (false≢true at)
levels_in (suc n) nexts own whole level closed within y at =
    let next = next_level nexts own level in
    elim (or_cases (has level y) (has (levels n nexts own next) y) (sym (has-append level (levels n nexts own next) y) ∙ at)) [
      | inl is ↦ within y is
      | inr is ↦ levels_in n nexts own whole next closed (λ z named.
          let by = named_by (onward_leis nexts own) level z named in
          closed.goes by.lei z (within by.lei by.at) (onward_names nexts own by.lei z by.names)) y is
    ]

-- the members of a walk stay within a closed list
members_in : (n : ℕ) (next : Next) (whole : List (List ℕ)) → ((x y : List ℕ) → has whole x ≡ true → next x ≡ Some y → has whole y ≡ true)
    → (first : List ℕ) → has whole first ≡ true → (lei : List ℕ) → has (walk_members n next first) lei ≡ true → has whole lei ≡ true
unfolding walk_members
members_in zero next whole goes first within lei at = absurd (false≢true at)
members_in (suc n) next whole goes first within lei at =
    elim (or_cases (bytes_eq lei first) (has (option_map_or (walk_members n next) (next first) []) lei) at) [
      | inl is ↦ subst (λ l. has whole l ≡ true) (sym (same_text lei first is)) within
      | inr is ↦ by (members_in n next whole goes) (next first) refl is
    ]
  where
    by : ((x : List ℕ) → has whole x ≡ true → (y : List ℕ) → has (walk_members n next x) y ≡ true → has whole y ≡ true)
        → (named : Option (List ℕ)) → next first ≡ named → has (option_map_or (walk_members n next) named []) lei ≡ true → has whole lei ≡ true
    by rest None is at = absurd (false≢true at)
    by rest (Some y) is at = rest y (goes first y within is) lei at

module _ (nexts : Nexts) (own : List ℕ) (targets : List (List ℕ)) (ended : spread_out nexts own targets ≡ Walked.Ends) where
  parts : (has_wide_levels nexts own targets ≡ false) × (is_back nexts own targets ≡ false)
  parts = ended_parts (has_wide_levels nexts own targets) (is_back nexts own targets) ended

  few : length (others 201 nexts own targets) ≤ 200
  few = ltb-false 200 (length (others 201 nexts own targets)) parts.0

  -- the LEIs that are reached, and all that they and the record name
  abbrev all : List (List ℕ)
  all = others 200 nexts own targets

  abbrev named : List (List ℕ)
  named = targets ++ next_level nexts own all

  stands : others 201 nexts own targets ≡ all
  stands = others-stand nexts own targets 200 few

  gathers : all ≡ each_once (own ∷ []) named
  gathers = sym stands ∙ others-next nexts own targets 200

  all_few : length all ≤ 200
  all_few = subst (λ l. length l ≤ 200) stands few

  own_unnamed : has named own ≡ false
  own_unnamed = sym (levels-has nexts own targets 200 own) ∙ parts.1

  other : (lei : List ℕ) → has all lei ≡ true → bytes_eq lei own ≡ false
  other lei at =
      let both = and_parts (has named lei) (not (bytes_eq lei own || false)) (sym (once-has (own ∷ []) named lei) ∙ (ap (λ l. has l lei) (sym gathers) ∙ at)) in
      by (bytes_eq lei own) (not-true (bytes_eq lei own || false) both.1)
    where
      by : (b : Bool) → (b || false) ≡ false → b ≡ false
      by true is = is
      by false is = refl

  named_reached : (lei : List ℕ) → has named lei ≡ true → has all lei ≡ true
  named_reached lei at = elim (cases_Bool (bytes_eq lei own)) [
    | inl is ↦ absurd (false≢true (sym own_unnamed ∙ subst (λ l. has named l ≡ true) (same_text lei own is) at))
    | inr is ↦ ap (λ l. has l lei) gathers ∙ (once-has (own ∷ []) named lei ∙ λ i. at i && not (is i || false))
  ]

  all_closed : Closed nexts all
  all_closed = record {
    goes = λ x y at names. named_reached y (has-append targets (next_level nexts own all) y
        ∙ or_right (has targets y) (has (next_level nexts own all) y)
        (next-has nexts own all x y at (ap (λ l. has l y) (cond-false (bytes_eq x own) [] (nexts x) (other x at)) ∙ names)));
  }

  target_reached : (lei : List ℕ) → has targets lei ≡ true → has all lei ≡ true
  target_reached lei at =
      named_reached lei (has-append targets (next_level nexts own all) lei ∙ or_left (has targets lei) (has (next_level nexts own all) lei) at)

  -- the successors, each with those that are nearest to it
  abbrev around : List (List ℕ)
  around = flat_map (near nexts) targets

  around_closed : Closed nexts around
  around_closed = record {
    goes = λ x y at names.
        let by = named_by (near nexts) targets x at in
        let inside = nearest_closed nexts all all_closed all_few by.lei (target_reached by.lei by.at) in
        names_there (near nexts) targets by.lei y by.at (inside.goes x y by.names names);
  }

  target_around : (lei : List ℕ) → has targets lei ≡ true → has around lei ≡ true
  target_around lei at =
      names_there (near nexts) targets lei lei at (or_left (bytes_eq lei lei) (has (nearest nexts lei) lei) (own_text lei))

  pub reached_near : (lei : List ℕ) → has (reachable nexts own targets) lei ≡ true → NamedBy (near nexts) targets lei
  reached_near lei at =
      let within = ap (λ l. has l lei) (sym (take_all 200 (others 201 nexts own targets) few)) ∙ at in
      let both = and_parts (has (levels 201 nexts own targets) lei) (not (bytes_eq lei own)) (sym (others-has 201 nexts own targets lei) ∙ within) in
      named_by (near nexts) targets lei (levels_in 201 nexts own around targets around_closed target_around lei both.0)

  -- the same for a walk along one of the LEIs that each LEI names
  pub member_near : (n : ℕ) (next : Next) → ((x y : List ℕ) → next x ≡ Some y → has (nexts x) y ≡ true)
      → (first : List ℕ) → has targets first ≡ true → (lei : List ℕ) → has (walk_members n next first) lei ≡ true → NamedBy (near nexts) targets lei
  member_near n next one first at lei member =
      named_by (near nexts) targets lei (members_in n next around (λ x y within is. around_closed.goes x y within (one x y is))
      first (target_around first at) lei member)
