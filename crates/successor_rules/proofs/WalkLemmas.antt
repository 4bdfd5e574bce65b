-- Walks member by member: what the first member and the walk from the next one say of the whole.
use Rattle.std.specs.Prelude.{◌≡◌, ◌≢◌, ◌==◌, ◌||◌, ◌+◌, ◌-◌, ◌<◌, ℕ, zero, suc, Bool, true, false, cond, if◌then◌else◌, List, [], ◌∷◌, length, find, Option, Some, None, option_map, option_and_then}
use Rattle.std.specs.List.{Contains, list_any}
use Rattle.std.specs.Option.{option_map_or, option_to_list}
use Rattle.std.specs.Str.{bytes_eq}
use Rattle.std.proofs.Common.{refl, sym, ap, subst, ◌∙◌, arith, rules}
use Rattle.std.proofs.Math.Dec.{eqb-suc-suc, eqb-zero-suc}
use Rattle.std.proofs.lemmas.Slice.Eq.{bytes_eq-Decides}
use mathlib.Core.Bool.{true≢false}
use Rattle.lei_records.specs.declared.view.CellKey.{CellKey}
use Rattle.lei_records.specs.declared.view.Seen.{Seen}
use Rattle.lei_records.specs.Cells.{rec_cell, successor_in}
use Rattle.lei_records.specs.Rows.{Row}
use Rattle.lei_records.specs.Tables.{Table, row_at, cells_of, seen}
use Rattle.lei_records.specs.Walks.{Next, successor_of, walk_members}
use Rattle.successor_rules.specs.declared.walks.Walked.{Walked}
use Rattle.successor_rules.specs.Chains.{AllEnd, EndsClear, IsTurned, Nexts}
use Rattle.successor_rules.specs.Successors.{seen_successor, successor_seen, walk}
use Rattle.successor_rules.specs.Walks.{SeenNext, held_lei, is_unknown, known_next, unless_lacking, walk_end}
use Rattle.successor_rules.proofs.ChainLemmas.{keeps_ends}

-- ---- the same for any number of members

abbrev met_in : ℕ → Next → List ℕ → List ℕ → Bool
met_in n next start first = list_any (bytes_eq start) (walk_members n next first)

abbrev long_in : ℕ → Next → List ℕ → Bool
long_in n next first = length (walk_members (suc n) next first) == suc n

abbrev lacking_in : ℕ → SeenNext → List ℕ → Option (List ℕ)
lacking_in n answers first = find (λ lei. is_unknown (answers lei)) (walk_members n (known_next answers) first)

abbrev pub walked_in : ℕ → Next → List ℕ → List ℕ → Walked
walked_in n next start first =
    if met_in n next start first then Walked.Meets else if long_in n next first then Walked.Long else Walked.Ends

abbrev pub walk_in : ℕ → SeenNext → (List ℕ → CellKey) → List ℕ → List ℕ → Walked
walk_in n answers key start first =
    if met_in n (known_next answers) start first then Walked.Meets
    else unless_lacking key (lacking_in n answers first) (if long_in n (known_next answers) first then Walked.Long else Walked.Ends)

-- ---- the first member and the others

met_in-suc : (n : ℕ) (next : Next) (start first : List ℕ) (named : Option (List ℕ)) → next first ≡ named
    → met_in (suc n) next start first ≡ (bytes_eq start first || option_map_or (met_in n next start) named false)
unfolding walk_members
met_in-suc n next start first None is = ap (λ o. list_any (bytes_eq start) (first ∷ option_map_or (walk_members n next) o [])) is
met_in-suc n next start first (Some lei) is = ap (λ o. list_any (bytes_eq start) (first ∷ option_map_or (walk_members n next) o [])) is

-- one more on both sides
also_more : (a b : ℕ) → (suc a == suc b) ≡ (a == b)
also_more a b = eqb-suc-suc a b

one_of_more : (n : ℕ) → (1 == suc (suc n)) ≡ false
one_of_more n = eqb-suc-suc 0 (suc n) ∙ eqb-zero-suc n

long_in-suc : (n : ℕ) (next : Next) (first : List ℕ) (named : Option (List ℕ)) → next first ≡ named
    → long_in (suc n) next first ≡ option_map_or (long_in n next) named false
unfolding walk_members
long_in-suc n next first None is =
    ap (λ o. length (first ∷ option_map_or (walk_members (suc n) next) o []) == suc (suc n)) is ∙ one_of_more n
long_in-suc n next first (Some lei) is =
    ap (λ o. length (first ∷ option_map_or (walk_members (suc n) next) o []) == suc (suc n)) is
    ∙ also_more (length (walk_members (suc n) next lei)) (suc n)

long_in-zero : (next : Next) (first : List ℕ) (named : Option (List ℕ)) → next first ≡ named → long_in zero next first ≡ true
unfolding walk_members
long_in-zero next first None is = ap (λ o. length (first ∷ option_map_or (walk_members zero next) o []) == 1) is
long_in-zero next first (Some lei) is = ap (λ o. length (first ∷ option_map_or (walk_members zero next) o []) == 1) is

lacking_in-suc : (n : ℕ) (answers : SeenNext) (first : List ℕ) (named : Option (List ℕ)) → known_next answers first ≡ named
    → lacking_in (suc n) answers first ≡ cond (is_unknown (answers first)) (Some first) (option_map_or (lacking_in n answers) named None)
unfolding walk_members
lacking_in-suc n answers first None is =
    ap (λ o. cond (is_unknown (answers first)) (Some first) (find (λ lei. is_unknown (answers lei)) (option_map_or (walk_members n (known_next answers)) o []))) is
lacking_in-suc n answers first (Some lei) is =
    ap (λ o. cond (is_unknown (answers first)) (Some first) (find (λ lei. is_unknown (answers lei)) (option_map_or (walk_members n (known_next answers)) o []))) is

-- ---- one step over a view

-- the result of the walk, by its three questions
shape : (List ℕ → CellKey) → Bool → Option (List ℕ) → Bool → Walked
shape key met lacks long = if met then Walked.Meets else unless_lacking key lacks (if long then Walked.Long else Walked.Ends)

pub walk_in-meets : (n : ℕ) (answers : SeenNext) (key : List ℕ → CellKey) (start first : List ℕ) → bytes_eq start first ≡ true
    → walk_in (suc n) answers key start first ≡ Walked.Meets
unfolding shape
walk_in-meets n answers key start first is =
    ap (λ met. shape key met (lacking_in (suc n) answers first) (long_in (suc n) (known_next answers) first))
    (met_in-suc n (known_next answers) start first (known_next answers first) refl
    ∙ ap (λ b. b || option_map_or (met_in n (known_next answers) start) (known_next answers first) false) is)

pub walk_in-next : (n : ℕ) (answers : SeenNext) (key : List ℕ → CellKey) (start first lei : List ℕ) → bytes_eq start first ≡ false
    → answers first ≡ Seen.Held lei → walk_in (suc n) answers key start first ≡ walk_in n answers key start lei
unfolding shape
walk_in-next n answers key start first lei other is =
    let met : met_in (suc n) (known_next answers) start first ≡ met_in n (known_next answers) start lei =
    met_in-suc n (known_next answers) start first (Some lei) (ap held_lei is) ∙ ap (λ b. b || met_in n (known_next answers) start lei) other in
    let lacks : lacking_in (suc n) answers first ≡ lacking_in n answers lei =
    lacking_in-suc n answers first (Some lei) (ap held_lei is) ∙ ap (λ s. cond (is_unknown s) (Some first) (lacking_in n answers lei)) is in
    let long : long_in (suc n) (known_next answers) first ≡ long_in n (known_next answers) lei = long_in-suc n (known_next answers) first (Some lei) (ap held_lei is) in
    λ i. shape key (met i) (lacks i) (long i)

pub walk_in-ends : (n : ℕ) (answers : SeenNext) (key : List ℕ → CellKey) (start first : List ℕ) → bytes_eq start first ≡ false
    → answers first ≡ Seen.Empty → walk_in (suc n) answers key start first ≡ Walked.Ends
unfolding shape
walk_in-ends n answers key start first other is =
    let met : met_in (suc n) (known_next answers) start first ≡ false =
    met_in-suc n (known_next answers) start first None (ap held_lei is) ∙ ap (λ b. b || false) other in
    let lacks : lacking_in (suc n) answers first ≡ None =
    lacking_in-suc n answers first None (ap held_lei is) ∙ ap (λ s. cond (is_unknown s) (Some first) None) is in
    let long : long_in (suc n) (known_next answers) first ≡ false = long_in-suc n (known_next answers) first None (ap held_lei is) in
    λ i. shape key (met i) (lacks i) (long i)

pub walk_in-lacks : (n : ℕ) (answers : SeenNext) (key : List ℕ → CellKey) (start first : List ℕ) → bytes_eq start first ≡ false
    → answers first ≡ Seen.Missing → walk_in (suc n) answers key start first ≡ Walked.Missing (key first)
unfolding shape
walk_in-lacks n answers key start first other is =
    let met : met_in (suc n) (known_next answers) start first ≡ false =
    met_in-suc n (known_next answers) start first None (ap held_lei is) ∙ ap (λ b. b || false) other in
    let lacks : lacking_in (suc n) answers first ≡ Some first =
    lacking_in-suc n answers first None (ap held_lei is) ∙ ap (λ s. cond (is_unknown s) (Some first) None) is in
    λ i. shape key (met i) (lacks i) (long_in (suc n) (known_next answers) first)

pub walk_in-zero : (answers : SeenNext) (key : List ℕ → CellKey) (start first : List ℕ) → walk_in zero answers key start first ≡ Walked.Long
unfolding walk_members shape
walk_in-zero answers key start first = ap (shape key false None) (long_in-zero (known_next answers) first (known_next answers first) refl)

-- ---- the same if some of the 200 members were looked up

left : (c : ℕ) → c < 200 → 200 - c ≡ suc (200 - (c + 1))
left c less = omega arith

module _ (answers : SeenNext) (key : List ℕ → CellKey) (start first : List ℕ) (whole : Walked) (c : ℕ) where
  pub stop-meets : c < 200 → walk_in (200 - c) answers key start first ≡ whole → bytes_eq start first ≡ true → Walked.Meets ≡ whole
  stop-meets less so_far met =
      sym (walk_in-meets (200 - (c + 1)) answers key start first met) ∙ ap (λ n. walk_in n answers key start first) (sym (left c less)) ∙ so_far

  pub stop-ends : c < 200 → walk_in (200 - c) answers key start first ≡ whole → bytes_eq start first ≡ false → answers first ≡ Seen.Empty
      → Walked.Ends ≡ whole
  stop-ends less so_far other is =
      sym (walk_in-ends (200 - (c + 1)) answers key start first other is) ∙ ap (λ n. walk_in n answers key start first) (sym (left c less)) ∙ so_far

  pub stop-lacks : c < 200 → walk_in (200 - c) answers key start first ≡ whole → bytes_eq start first ≡ false → answers first ≡ Seen.Missing
      → Walked.Missing (key first) ≡ whole
  stop-lacks less so_far other is =
      sym (walk_in-lacks (200 - (c + 1)) answers key start first other is) ∙ ap (λ n. walk_in n answers key start first) (sym (left c less)) ∙ so_far

  pub one_step : (lei : List ℕ) → c < 200 → walk_in (200 - c) answers key start first ≡ whole → bytes_eq start first ≡ false
      → answers first ≡ Seen.Held lei → walk_in (200 - (c + 1)) answers key start lei ≡ whole
  one_step lei less so_far other is =
      sym (walk_in-next (200 - (c + 1)) answers key start first lei other is) ∙ ap (λ n. walk_in n answers key start first) (sym (left c less)) ∙ so_far

-- ---- over a table, which has no missing cells

none_found : (p : List ℕ → Bool) (xs : List (List ℕ)) → ((x : List ℕ) → p x ≡ false) → find p xs ≡ None
none_found p [] never = refl
none_found p (x ∷ xs) never = ap (λ b. cond b (Some x) (find p xs)) (never x) ∙ none_found p xs never

-- what a table answers for the successor of each code
abbrev seen_next : Table → SeenNext
seen_next table lei = successor_seen ((cells_of table).record_cell lei)

is_known : (o : Option (List ℕ)) → (held_lei (seen_successor o) ≡ o) × (is_unknown (seen_successor o) ≡ false)
is_known None = (refl, refl)
is_known (Some lei) = (refl, refl)

row_is_known : (row : Option Row)
    → (held_lei (successor_seen (seen (option_map rec_cell row))) ≡ option_and_then successor_in row)
    × (is_unknown (successor_seen (seen (option_map rec_cell row))) ≡ false)
row_is_known None = (refl, refl)
row_is_known (Some row) = is_known (successor_in row)

-- the walk over a table is that of its successors
pub walk-over_table : (table : Table) (start first : List ℕ) → walk (cells_of table) start first ≡ walk_end (successor_of table) start first
unfolding shape
walk-over_table table start first =
    let same : known_next (seen_next table) ≡ successor_of table = λ i lei. (row_is_known (row_at table lei)).0 i in
    let lacks : lacking_in 200 (seen_next table) first ≡ None =
    none_found (λ lei. is_unknown (seen_next table lei)) (walk_members 200 (known_next (seen_next table)) first) (λ lei. (row_is_known (row_at table lei)).1) in
    λ i. shape CellKey.Rec (met_in 200 (same i) start first) (lacks i) (long_in 200 (same i) first)

-- ---- a walk that ends meets its start nowhere

nexts : Next → Nexts
nexts next lei = option_to_list (next lei)

walked_in-meets : (n : ℕ) (next : Next) (start first : List ℕ) → bytes_eq start first ≡ true → walked_in (suc n) next start first ≡ Walked.Meets
walked_in-meets n next start first is =
    ap (λ met. if met then Walked.Meets else if long_in (suc n) next first then Walked.Long else Walked.Ends)
    (met_in-suc n next start first (next first) refl ∙ ap (λ b. b || option_map_or (met_in n next start) (next first) false) is)

walked_in-next : (n : ℕ) (next : Next) (start first lei : List ℕ) → bytes_eq start first ≡ false → next first ≡ Some lei
    → walked_in (suc n) next start first ≡ walked_in n next start lei
walked_in-next n next start first lei other is =
    let met : met_in (suc n) next start first ≡ met_in n next start lei =
    met_in-suc n next start first (Some lei) is ∙ ap (λ b. b || met_in n next start lei) other in
    let long : long_in (suc n) next first ≡ long_in n next lei = long_in-suc n next first (Some lei) is in
    λ i. if met i then Walked.Meets else if long i then Walked.Long else Walked.Ends

walked_in-zero : (next : Next) (start first : List ℕ) → walked_in zero next start first ≡ Walked.Long
unfolding walk_members
walked_in-zero next start first = ap (λ long. if long then Walked.Long else Walked.Ends) (long_in-zero next first (next first) refl)

-- the start differs from each code that the walk goes through
apart : (start lei : List ℕ) → bytes_eq start lei ≡ false → lei ≢ start
apart start lei other same = true≢false (sym ((bytes_eq-Decides start lei).1 (sym same)) ∙ other)

only : (lei next : List ℕ) → Contains (lei ∷ []) next → lei ≡ next
only lei next at = search rules

none : (next : List ℕ) → Contains [] next → ⊥
none next at = search rules

-- a walk that continues from this code ends without meeting the start, if each one after it does
goes_on : (n : ℕ) (next : Next) (start first : List ℕ) → bytes_eq start first ≡ false → walked_in (suc n) next start first ≡ Walked.Ends
    → ((second : List ℕ) → walked_in n next start second ≡ Walked.Ends → EndsClear n (nexts next) start second)
    → (named : Option (List ℕ)) → next first ≡ named → (lei : List ℕ) → Contains (nexts next first) lei → EndsClear n (nexts next) start lei
unfolding nexts
goes_on n next start first other is then_clear None named lei at =
    absurd (none lei (subst (λ o. Contains (option_to_list o) lei) named at))
goes_on n next start first other is then_clear (Some second) named lei at =
    let same : second ≡ lei = only second lei (subst (λ o. Contains (option_to_list o) lei) named at) in
    subst (EndsClear n (nexts next) start) same (then_clear second (sym (walked_in-next n next start first second other named) ∙ is))

ends_clear : (n : ℕ) (next : Next) (start first : List ℕ) → walked_in n next start first ≡ Walked.Ends → EndsClear n (nexts next) start first
ends_clear zero next start first is = let long = walked_in-zero next start first in cc
ends_clear (suc n) next start first is =
    elim (bytes_eq start first) as (λ b. bytes_eq start first ≡ b → EndsClear (suc n) (nexts next) start first) [
      | true ↦ λ t. let meets = walked_in-meets n next start first t in cc
      | false ↦ λ f. (apart start first f, goes_on n next start first f is (ends_clear n next start) (next first) refl)
    ] refl

pub ended_walk_keeps_ends : (next : Next) (after : Nexts) (start first : List ℕ) → AllEnd (λ lei. option_to_list (next lei))
    → IsTurned (λ lei. option_to_list (next lei)) after start (first ∷ []) → walk_end next start first ≡ Walked.Ends → AllEnd after
unfolding nexts
ended_walk_keeps_ends next after start first all turned is =
    keeps_ends (nexts next) after start (first ∷ []) 200 all turned (λ target at.
    subst (EndsClear 200 (nexts next) start) (only first target at) (ends_clear 200 next start first is))
