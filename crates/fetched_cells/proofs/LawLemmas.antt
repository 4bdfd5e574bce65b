-- What an item needs is among the cells that are fetched for the cells that it names.
use Rattle.std.specs.Prelude.{◌≡◌, ℕ, List, [], ◌∷◌, ◌++◌, map, Bool, true, false, cond, Option, Some, None, slice_get}
use Rattle.std.specs.List.{Contains, flat_map}
use Rattle.std.specs.Str.{bytes_eq}
use mathlib.Core.Logic.{inl, inr}
use Rattle.std.proofs.Common.{refl, rules, sym, subst}
use Rattle.std.proofs.lemmas.Bool.{false≢true, or_cases, or_left, or_right}
use Rattle.std.proofs.lemmas.List.Elements.{Contains-append_cases, Contains-append_left, Contains-append_right, Contains-push}
use Rattle.lei_records.specs.declared.item.Item.{Item}
use Rattle.lei_records.specs.declared.item.Readied.{Readied}
use Rattle.lei_records.specs.declared.rules.Rules.{Rules}
use Rattle.lei_records.specs.declared.view.CellKey.{CellKey}
use Rattle.lei_records.specs.declared.view.RecCell.{RecCell}
use Rattle.lei_records.specs.declared.view.Seen.{Seen}
use Rattle.lei_records.specs.Cells.{Cells, akey, lei_in, successor_in, successors_in}
use Rattle.lei_records.specs.Parents.{parent_category}
use Rattle.lei_records.specs.Relations.{end_in, kind_in, start_in}
use Rattle.lei_records.specs.Rows.{Row}
use Rattle.lei_records.specs.Walks.{walk_members}
use Rattle.successor_rules.specs.declared.walks.Walked.{Walked}
use Rattle.successor_rules.specs.Chains.{Nexts}
use Rattle.successor_rules.specs.Levels.{held_nexts, known_nexts, reachable, spread_out}
use Rattle.successor_rules.specs.Successors.{seen_successor, successor_seen, successors_seen}
use Rattle.successor_rules.specs.Walks.{held_lei, known_next}
use Rattle.successor_rules.proofs.LevelLemmas.{has, own_text, same_text}
use Rattle.relation_rules.specs.Checks.{is_direct_parent}
use Rattle.relation_rules.specs.Needs.{exception_keys, relation_names}
use Rattle.cell_reads.specs.Needs.{level_walk, key_names, named_cells, needs, next_successor, next_successors, parent_walk, record_names, record_walk, successor_names, successor_walk, walk_cells}
use Rattle.fetched_cells.specs.Fetching.{LevelsEnd, fetched_keys, keys_along, nearest_records}
use Rattle.fetched_cells.specs.Nearest.{nearest}
use Rattle.fetched_cells.proofs.CloseLemmas.{NamedBy}
use Rattle.fetched_cells.proofs.SpreadLemmas.{member_near, near, reached_near}

-- ---- lists

none_at : {X : Type 0} (x : X) → Contains [] x → ⊥
none_at x at = search rules

only : {X : Type 0} (x y : X) → Contains (x ∷ []) y → x ≡ y
only x y at = search rules

first_of : {X : Type 0} (x : X) (xs : List X) → Contains (x ∷ xs) x
first_of x xs = Contains-append_left (x ∷ []) xs x (Contains-push [] x)

later : {X : Type 0} (x : X) (xs : List X) (y : X) → Contains xs y → Contains (x ∷ xs) y
later x xs y at = Contains-append_right (x ∷ []) xs y at

-- a member of the list that is mapped from one element is a member of the concatenation of all
flat_map-contains : {X Y : Type 0} (f : X → List Y) (xs : List X) (x : X) (y : Y) → Contains xs x → Contains (f x) y → Contains (flat_map f xs) y
flat_map-contains f [] x y at within = absurd (none_at x at)
flat_map-contains f (first ∷ xs) x y at within = elim (Contains-append_cases (first ∷ []) xs x at) [
  | inl here ↦ Contains-append_left (f first) (flat_map f xs) y (subst (λ own. Contains (f own) y) (sym (only first x here)) within)
  | inr there ↦ Contains-append_right (f first) (flat_map f xs) y (flat_map-contains f xs x y there within)
]

-- a member of the list or of the empty list is a member of the list
chosen : {X : Type 0} (test : Bool) (xs : List X) (x : X) → Contains (cond test xs []) x → Contains xs x
chosen true xs x at = at
chosen false xs x at = absurd (none_at x at)

-- ---- records

-- the LEI of a record's cell that is in a list of such cells
record RecordOf (leis : List (List ℕ)) (key : CellKey) : Type 0 where
  lei : List ℕ
  at : has leis lei ≡ true
  is : CellKey.Rec lei ≡ key

record_of : (leis : List (List ℕ)) (key : CellKey) → Contains (map CellKey.Rec leis) key → RecordOf leis key
record_of [] key at = absurd (none_at key at)
record_of (x ∷ xs) key at = elim (Contains-append_cases (CellKey.Rec x ∷ []) (map CellKey.Rec xs) key at) [
  | inl here ↦ record { lei = x; at = or_left (bytes_eq x x) (has xs x) (own_text x); is = only (CellKey.Rec x) key here }
  | inr there ↦
      let rest = record_of xs key there in
      record { lei = rest.lei; at = or_right (bytes_eq rest.lei x) (has xs rest.lei) rest.at; is = rest.is }
]

record_there : (leis : List (List ℕ)) (lei : List ℕ) → has leis lei ≡ true → Contains (map CellKey.Rec leis) (CellKey.Rec lei)
record_there [] lei at = absurd (false≢true at)
record_there (x ∷ xs) lei at = elim (or_cases (bytes_eq lei x) (has xs lei) at) [
  | inl is ↦ subst (λ y. Contains (map CellKey.Rec (x ∷ xs)) (CellKey.Rec y)) (sym (same_text lei x is)) (first_of (CellKey.Rec x) (map CellKey.Rec xs))
  | inr is ↦ later (CellKey.Rec x) (map CellKey.Rec xs) (CellKey.Rec lei) (record_there xs lei is)
]

-- the first LEI of a list is in it, and so is the first of the successors that a view answers
first_has : (leis : List (List ℕ)) (lei : List ℕ) → slice_get leis 0 ≡ Some lei → has leis lei ≡ true
first_has [] lei is = absurd cc
first_has (x ∷ xs) lei is =
    let same : x ≡ lei = cc in
    or_left (bytes_eq lei x) (has xs lei) (subst (λ y. bytes_eq lei y ≡ true) (sym same) (own_text lei))

first_seen : (seen : Seen RecCell) (lei : List ℕ) → held_lei (successor_seen seen) ≡ Some lei → has (held_nexts (successors_seen seen)) lei ≡ true
first_seen (Seen.Held cell) lei is = by cell.successors is
  where
    by : (leis : List (List ℕ)) → held_lei (seen_successor (slice_get leis 0)) ≡ Some lei → has leis lei ≡ true
    by [] none = absurd cc
    by (x ∷ xs) one = first_has (x ∷ xs) lei one
first_seen Seen.Empty lei is = absurd cc
first_seen Seen.Missing lei is = absurd cc

-- ---- items

module _ (cells : Cells) (key : CellKey) where
  abbrev fetched : CellKey → List CellKey
  fetched own = own ∷ keys_along cells own

  of_names : (keys : List CellKey) → Contains keys key → Contains (fetched_keys cells keys) key
  of_names keys at = flat_map-contains fetched keys key key at (first_of key (keys_along cells key))

  of_brought : (keys : List CellKey) (own : CellKey) → Contains keys own → Contains (keys_along cells own) key → Contains (fetched_keys cells keys) key
  of_brought keys own at within = flat_map-contains fetched keys own key at (later own (keys_along cells own) key within)

  abbrev nexts : Nexts
  nexts = known_nexts (next_successors cells)

  successor_named : (row : Row) (lei : List ℕ) → has (successors_in row) lei ≡ true → Contains (record_names row) (CellKey.Rec lei)
  successor_named row lei at =
      later (CellKey.Rec (lei_in row)) (key_names (akey row) ++ successor_names (successors_in row)) (CellKey.Rec lei)
      (Contains-append_right (key_names (akey row)) (successor_names (successors_in row)) (CellKey.Rec lei)
      (record_there (successors_in row) lei at))

  -- a record that a walk from a successor reaches is fetched
  of_near : (row : Row) (lei : List ℕ) → CellKey.Rec lei ≡ key → NamedBy (near nexts) (successors_in row) lei
      → Contains (fetched_keys cells (record_names row)) key
  of_near row lei is by = elim (or_cases (bytes_eq lei by.lei) (has (nearest nexts by.lei) lei) by.names) [
    | inl same ↦ of_names (record_names row) (subst (Contains (record_names row)) is
        (successor_named row lei (subst (λ l. has (successors_in row) l ≡ true) (sym (same_text lei by.lei same)) by.at)))
    | inr within ↦ of_brought (record_names row) (CellKey.Rec by.lei) (successor_named row by.lei by.at)
        (Contains-append_left (nearest_records cells by.lei) (parent_walk cells by.lei) key
        (subst (Contains (nearest_records cells by.lei)) is (record_there (nearest nexts by.lei) lei within)))
  ]

  -- the first successor is one of the successors
  one_of_all : (x y : List ℕ) → known_next (next_successor cells) x ≡ Some y → has (nexts x) y ≡ true
  one_of_all x y is = first_seen (cells.record_cell x) y is

  of_chain : (row : Row) (named : Option (List ℕ)) → successor_in row ≡ named → spread_out nexts (lei_in row) (successors_in row) ≡ Walked.Ends
      → Contains (successor_walk cells named) key → Contains (fetched_keys cells (record_names row)) key
  of_chain row None is ended walked = absurd (none_at key walked)
  of_chain row (Some first) is ended walked =
      let found = record_of (walk_members 200 (known_next (next_successor cells)) first) key walked in
      of_near row found.lei found.is (member_near nexts (lei_in row) (successors_in row) ended 200 (known_next (next_successor cells)) one_of_all
      first (first_has (successors_in row) first is) found.lei found.at)

  of_levels : (row : Row) → spread_out nexts (lei_in row) (successors_in row) ≡ Walked.Ends
      → Contains (level_walk cells (lei_in row) (successors_in row)) key → Contains (fetched_keys cells (record_names row)) key
  of_levels row ended walked =
      let found = record_of (reachable nexts (lei_in row) (successors_in row)) key walked in
      of_near row found.lei found.is (reached_near nexts (lei_in row) (successors_in row) ended found.lei found.at)

  of_record : (rules : Rules) (row : Row) → spread_out nexts (lei_in row) (successors_in row) ≡ Walked.Ends
      → Contains (record_walk rules cells row) key → Contains (fetched_keys cells (record_names row)) key
  of_record Rules.First row ended walked = of_chain row (successor_in row) refl ended walked
  of_record Rules.Second row ended walked = of_levels row ended walked
  of_record Rules.Third row ended walked = of_levels row ended walked

  of_relation : (row : Row) → Contains (parent_walk cells (end_in row)) key → Contains (fetched_keys cells (relation_names row)) key
  of_relation row walked =
      let others : List CellKey =
      (CellKey.Rel (start_in row) (kind_in row) (end_in row) ∷ CellKey.Act (start_in row) (kind_in row) ∷ [])
      ++ exception_keys (start_in row) (parent_category (kind_in row)) in
      of_brought (relation_names row) (CellKey.Rec (end_in row))
      (later (CellKey.Rec (start_in row)) (CellKey.Rec (end_in row) ∷ others) (CellKey.Rec (end_in row)) (first_of (CellKey.Rec (end_in row)) others))
      (Contains-append_right (nearest_records cells (end_in row)) (parent_walk cells (end_in row)) key walked)

  of_walk : (rules : Rules) (item : Readied) → LevelsEnd cells item → Contains (walk_cells rules cells item) key
      → Contains (fetched_keys cells (named_cells item)) key
  of_walk rules (Readied.Bad check) ended at = absurd (none_at key at)
  of_walk rules (Readied.Good (Item.Record row)) ended at = of_record rules row ended at
  of_walk rules (Readied.Good (Item.Relation row)) ended at =
      of_relation row (chosen (is_direct_parent row) (parent_walk cells (end_in row)) key at)
  of_walk rules (Readied.Good (Item.Exception item)) ended at = absurd (none_at key at)

  pub needed_fetched : (rules : Rules) (item : Readied) → LevelsEnd cells item → Contains (needs rules cells item) key
      → Contains (fetched_keys cells (named_cells item)) key
  needed_fetched rules item ended at = elim (Contains-append_cases (named_cells item) (walk_cells rules cells item) key at) [
    | inl named ↦ of_names (named_cells item) named
    | inr walked ↦ of_walk rules item ended walked
  ]
