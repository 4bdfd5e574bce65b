-- The outcome of an item over a view that knows more: the same, unless the first view lacks a cell that the item needs.
use Rattle.std.specs.Prelude.{◌≡◌, ◌<◌, ℕ, List, [], ◌∷◌, ◌++◌, map, Bool, true, false, cond, Option, Some, None, Result, Ok, Err, ⊤}
use Rattle.std.specs.List.{Contains}
use Rattle.std.proofs.Common.{refl, sym, ap, subst, ◌∙◌, inl, inr, arith}
use Rattle.std.proofs.Math.ListN.{get_or-map}
use Rattle.std.proofs.lemmas.Bool.{and_from}
use Rattle.std.proofs.lemmas.List.{length-map}
use Rattle.std.proofs.lemmas.List.Elements.{Contains-append_left, Contains-append_right}
use Rattle.lei_shapes.specs.declared.lists.ExceptionCategory.{ExceptionCategory}
use Rattle.lei_code.specs.Texts.{Text}
use Rattle.lei_records.specs.Cells.{Cells, akey, is_live, lei_in, successor_in, successors_in}
use Rattle.lei_records.specs.Checks.{FailedCheck, first_failing}
use Rattle.lei_records.specs.Exceptions.{exception_category_in, subject_in}
use Rattle.lei_records.specs.Parents.{is_direct_type, parent_category, parent_type}
use Rattle.lei_records.specs.Relations.{end_in, is_active, kind_in, start_in}
use Rattle.lei_records.specs.Rows.{Row}
use Rattle.lei_records.specs.Walks.{walk_members}
use Rattle.lei_records.specs.declared.item.Item.{Item}
use Rattle.lei_records.specs.declared.item.Readied.{Readied}
use Rattle.lei_records.specs.declared.view.CellKey.{CellKey}
use Rattle.lei_records.specs.declared.view.RecCell.{RecCell}
use Rattle.lei_records.specs.declared.view.Seen.{Seen}
use Rattle.authority_rules.specs.Taken.{seen_holder, taken, unless_own}
use Rattle.successor_rules.specs.Levels.{known_nexts, reachable}
use Rattle.successor_rules.specs.Successors.{walk_by_levels}
use Rattle.successor_rules.specs.Walks.{known_next}
use Rattle.successor_rules.proofs.ReachLemmas.{near-tells}
use Rattle.relation_rules.specs.declared.checked.Checked.{Checked}
use Rattle.relation_rules.specs.Checking.{check_action, check_active, check_category, check_exception, check_managed, check_other_end, check_parents, check_relation, check_start, check_walked, checked_of, on_seen, unless_failed, walk_parents}
use Rattle.relation_rules.specs.Checks.{is_direct_parent}
use Rattle.relation_rules.specs.Needs.{exception_keys, exception_names, relation_names}
use Rattle.cell_reads.proofs.NoteLemmas.{first_named as first_successor}
use Rattle.cell_reads.specs.Needs.{key_names, needs, parent_key, parent_walk, parents_in, record_names, level_walk, next_successors, record_walk, successor_names, successor_walk, next_successor}
use Rattle.register_judge.specs.declared.judge.ItemOutcome.{ItemOutcome}
use Rattle.lei_records.specs.declared.rules.Rules.{Rules}
use Rattle.register_judge.specs.declared.sitting.Sitting.{Sitting}
use Rattle.register_judge.specs.Checks.{c16, c19, own_checks}
use Rattle.register_judge.specs.Judging.{check_key, check_named, check_record, check_each, check_first, check_levels, check_successors, judge_item, judge_record, judge_late, key_cell, item_outcome_by, value_seen}
use Rattle.register_judge.proofs.MonotonyLemmas.{Less, LessAt, LessChecked, LessWalked, checked-same, contained, less-check_walked, less-on_seen, less-own, less-successor, less-unless_failed, less-walk_over, less-walked, nearer}

-- a member's key is among the keys of the members
pub Contains-map : {X Y : Type 0} (f : X → Y) (xs : List X) (x : X) → Contains xs x → Contains (map f xs) (f x)
Contains-map f xs x at =
    (at.0, subst (λ n. at.0 < n) (sym (length-map xs f)) at.1, get_or-map f xs at.0 x ∙ ap f at.2)

-- ---- a relationship

module _ (a b : Cells) (item : Row) (named : (key : CellKey) → Contains (relation_names item) key → LessAt a b key)
    (walks : is_direct_parent item ≡ true → (member : List ℕ) → Contains (walk_members 200 (known_next (parents_in a)) (end_in item)) member → LessAt a b (parent_key member)) where
  abbrev first_names : List CellKey
  first_names =
      CellKey.Rec (start_in item) ∷ CellKey.Rec (end_in item) ∷ CellKey.Rel (start_in item) (kind_in item) (end_in item)
      ∷ CellKey.Act (start_in item) (kind_in item) ∷ []

  first_named : (key : CellKey) → Contains first_names key → LessAt a b key
  first_named key at = named key (Contains-append_left first_names (exception_keys (start_in item) (parent_category (kind_in item))) key at)

  less_category : (category : Option ExceptionCategory) → parent_category (kind_in item) ≡ category → LessChecked (check_category a item category) (check_category b item category)
  less_category None of_kind = refl
  less_category (Some category) of_kind =
      let own = CellKey.Exc (start_in item) category in
      less-on_seen (a.exception (start_in item) category) (b.exception (start_in item) category) own _ _
      (named own (Contains-append_right first_names (exception_keys (start_in item) (parent_category (kind_in item))) own
      (subst (λ c. Contains (exception_keys (start_in item) c) own) (sym of_kind) (0, omega arith, refl))))
      (λ stands. checked-same _)

  -- the checks of a direct parent
  abbrev check_parents_of : Cells → Checked
  check_parents_of cells =
      check_walked 38 39 (walk_parents cells (start_in item) (end_in item)) (check_category cells item (parent_category (kind_in item)))

  less_parents : is_active item ≡ true → LessChecked (check_parents a item) (check_parents b item)
  less_parents active =
      let category = parent_category (kind_in item) in
      elim (is_direct_type (kind_in item)) as (λ d. is_direct_type (kind_in item) ≡ d → LessChecked
      (cond d (check_parents_of a) (check_category a item category)) (cond d (check_parents_of b) (check_category b item category))) [
        | true ↦ λ direct. less-check_walked 38 39 _ _ _ _
            (less-walk_over (parents_in a) (parents_in b) parent_key (start_in item) (end_in item) (walks (and_from _ _ active direct)))
            (less_category category refl)
        | false ↦ λ _. less_category category refl
      ] refl

  less_active : LessChecked (check_active a item) (check_active b item)
  less_active =
      let own = CellKey.Act (start_in item) (kind_in item) in
      let seen : Cells → Seen (List ℕ) = λ cells. unless_own (end_in item) (cells.active (start_in item) (kind_in item)) in
      elim (is_active item) as (λ t. is_active item ≡ t → LessChecked
      (cond t (on_seen (seen a) own (check_other_end a item)) Checked.Passes) (cond t (on_seen (seen b) own (check_other_end b item)) Checked.Passes)) [
        | true ↦ λ active. less-on_seen (seen a) (seen b) own _ _ (less-own (end_in item) _ _ (first_named own (3, omega arith, refl)))
            (λ end. less-unless_failed _ _ _ (less_parents active))
        | false ↦ λ _. refl
      ] refl

  less_managed : (issuer : List ℕ) (start : Option RecCell) → LessChecked (check_managed a issuer item start) (check_managed b issuer item start)
  less_managed issuer start =
      let own = CellKey.Rel (start_in item) (kind_in item) (end_in item) in
      less-unless_failed _ _ _ (less-on_seen (a.relation (start_in item) (kind_in item) (end_in item)) (b.relation (start_in item) (kind_in item) (end_in item)) own _ _
      (first_named own (2, omega arith, refl)) (λ held. less-unless_failed _ _ _ less_active))

  less_start : (issuer : List ℕ) (start : Option RecCell) → LessChecked (check_start a issuer item start) (check_start b issuer item start)
  less_start issuer start =
      let own = CellKey.Rec (end_in item) in
      less-unless_failed _ _ _ (less-on_seen (a.record_cell (end_in item)) (b.record_cell (end_in item)) own _ _
      (first_named own (1, omega arith, refl)) (λ end. less-unless_failed _ _ _ (less_managed issuer start)))

  less-relation : (issuer : List ℕ) → LessChecked (check_relation a issuer item) (check_relation b issuer item)
  unfolding check_relation
  less-relation issuer =
      let own = CellKey.Rec (start_in item) in
      less-unless_failed _ _ _ (less-on_seen (a.record_cell (start_in item)) (b.record_cell (start_in item)) own _ _
      (first_named own (0, omega arith, refl)) (less_start issuer))

-- ---- an exception

module _ (a b : Cells) (row : Row) (named : (key : CellKey) → Contains (exception_names row) key → LessAt a b key) where
  less_action : (withdraws : Bool) → LessChecked (check_action a (row, withdraws)) (check_action b (row, withdraws))
  less_action true =
      less-on_seen (a.exception (subject_in row) (exception_category_in row)) (b.exception (subject_in row) (exception_category_in row)) _ _ _
      (named (CellKey.Exc (subject_in row) (exception_category_in row)) (1, omega arith, refl)) (λ stands. checked-same _)
  less_action false =
      let kind = parent_type (exception_category_in row) in
      less-on_seen (a.active (subject_in row) kind) (b.active (subject_in row) kind) _ _ _
      (named (CellKey.Act (subject_in row) kind) (2, omega arith, refl)) (λ parent. checked-same _)

  less-exception : (issuer : List ℕ) (withdraws : Bool) → LessChecked (check_exception a issuer (row, withdraws)) (check_exception b issuer (row, withdraws))
  unfolding check_exception
  less-exception issuer withdraws =
      let own = CellKey.Rec (subject_in row) in
      less-on_seen (a.record_cell (subject_in row)) (b.record_cell (subject_in row)) own _ _
      (named own (0, omega arith, refl)) (λ held. less-unless_failed _ _ _ (less_action withdraws))

-- ---- the outcome of an item

-- the outcome over the second view is the same, unless the first view lacks a cell
abbrev pub LessJudged : Result ItemOutcome CellKey → Result ItemOutcome CellKey → Type 0
LessJudged (Ok judged) other = other ≡ Ok judged
LessJudged (Err key) other = ⊤

less_outcome : (a b : Checked) (passed : ItemOutcome) → LessChecked a b → LessJudged (item_outcome_by a passed) (item_outcome_by b passed)
less_outcome Checked.Passes b passed less = ap (λ checked. item_outcome_by checked passed) less
less_outcome (Checked.Fails check) b passed less = ap (λ checked. item_outcome_by checked passed) less
less_outcome (Checked.Missing key) b passed less = tt

-- ---- a record

-- with the record that is held under its LEI, which the last checks need too
less_late : (failed : Option FailedCheck) (a b : Seen RecCell) (own : CellKey) (f g : Option RecCell → Checked) (late : Option RecCell → ItemOutcome) → Less a b
    → ((held : Option RecCell) → LessChecked (f held) (g held))
    → LessJudged (item_outcome_by (unless_failed failed (on_seen a own f)) (late (value_seen a)))
    (item_outcome_by (unless_failed failed (on_seen b own g)) (late (value_seen b)))
less_late (Some check) a b own f g late less then = refl
less_late None (Seen.Held cell) b own f g late less then =
    let P : Seen RecCell → Type 0 = λ seen. LessJudged (item_outcome_by (f (Some cell)) (late (Some cell))) (item_outcome_by (on_seen seen own g) (late (value_seen seen))) in
    subst P (sym less) (less_outcome (f (Some cell)) (g (Some cell)) (late (Some cell)) (then (Some cell)))
less_late None Seen.Empty b own f g late less then =
    let P : Seen RecCell → Type 0 = λ seen. LessJudged (item_outcome_by (f None) (late None)) (item_outcome_by (on_seen seen own g) (late (value_seen seen))) in
    subst P (sym less) (less_outcome (f None) (g None) (late None) (then None))
less_late None Seen.Missing b own f g late less then = tt

module _ (a b : Cells) (item : Row) (named : (key : CellKey) → Contains (record_names item) key → LessAt a b key)
  where
    others_named : (key : CellKey) → Contains (key_names (akey item) ++ successor_names (successors_in item)) key → LessAt a b key
    others_named key at =
        named key (Contains-append_right (CellKey.Rec (lei_in item) ∷ []) (key_names (akey item) ++ successor_names (successors_in item)) key at)

    less_holder : (authority_key : Option (Text × Text)) → akey item ≡ authority_key → Less (seen_holder a authority_key) (seen_holder b authority_key)
    less_holder None is = refl
    less_holder (Some key) is =
        let own = CellKey.Key key.0 key.1 in
        others_named own (Contains-append_left (key_names (akey item)) (successor_names (successors_in item)) own
        (subst (λ k. Contains (key_names k) own) (sym is) (0, omega arith, refl)))

    abbrev key_check : Option (List ℕ) → Checked
    key_check other = checked_of (first_failing (c19 other item ∷ []))

    less_key : LessChecked (check_key a item) (check_key b item)
    less_key =
        elim (is_live item) as (λ t. LessChecked
        (cond t (on_seen (taken a item) (key_cell (akey item)) key_check) Checked.Passes) (cond t (on_seen (taken b item) (key_cell (akey item)) key_check) Checked.Passes)) [
          | true ↦ less-on_seen (taken a item) (taken b item) _ _ _ (less-own (lei_in item) _ _ (less_holder (akey item) refl)) (λ other. checked-same _)
          | false ↦ refl
        ]

    -- by the first rules
    less_named : ((key : CellKey) → Contains (successor_walk a (successor_in item)) key → LessAt a b key)
        → (successor : List ℕ) → successor_in item ≡ Some successor → (found : Option RecCell)
        → LessChecked (check_named a item successor found) (check_named b item successor found)
    less_named walks successor is found =
        less-unless_failed _ _ _ (less-check_walked 17 18 _ _ _ _
        (less-walk_over (next_successor a) (next_successor b) CellKey.Rec (lei_in item) successor (λ member at.
        less-successor (a.record_cell member) (b.record_cell member)
        (walks (CellKey.Rec member) (subst (λ s. Contains (successor_walk a s) (CellKey.Rec member)) (sym is)
        (Contains-map CellKey.Rec (walk_members 200 (known_next (next_successor a)) successor) member at))))) less_key)

    less_first : ((key : CellKey) → Contains (successor_walk a (successor_in item)) key → LessAt a b key)
        → (successor : Option (List ℕ)) → successor_in item ≡ successor
        → LessChecked (check_first a item successor) (check_first b item successor)
    less_first walks None is = less_key
    less_first walks (Some successor) is =
        let own = CellKey.Rec successor in
        less-on_seen (a.record_cell successor) (b.record_cell successor) own _ _
        (others_named own (Contains-append_right (key_names (akey item)) (successor_names (successors_in item)) own
        (first_successor (successors_in item) successor is))) (less_named walks successor is)

    -- by the later rules
    less_spread : (successors : List (List ℕ)) → ((key : CellKey) → Contains (level_walk a (lei_in item) successors) key → LessAt a b key)
        → LessWalked (walk_by_levels a (lei_in item) successors) (walk_by_levels b (lei_in item) successors)
    less_spread successors walks =
        let all = reachable (known_nexts (next_successors a)) (lei_in item) successors in
        elim (near-tells (next_successors a) (next_successors b) CellKey.Rec (lei_in item) successors (λ lei at.
        nearer (a.record_cell lei) (b.record_cell lei) (walks (CellKey.Rec lei) (Contains-map CellKey.Rec all lei (contained all lei at))))) [
          | inl same ↦ less-walked (walk_by_levels a (lei_in item) successors) (walk_by_levels b (lei_in item) successors) (inl same)
          | inr lacks ↦ less-walked (walk_by_levels a (lei_in item) successors) (walk_by_levels b (lei_in item) successors) (inr (CellKey.Rec lacks.0, lacks.3))
        ]

    less_each : (successors : List (List ℕ)) (c d : Checked) → ((lei : List ℕ) → Contains successors lei → LessAt a b (CellKey.Rec lei))
        → LessChecked c d → LessChecked (check_each a successors c) (check_each b successors d)
    less_each [] c d cells less = less
    less_each (successor ∷ successors) c d cells less =
        less-on_seen (a.record_cell successor) (b.record_cell successor) (CellKey.Rec successor) _ _ (cells successor (0, omega arith, refl))
        (λ found. less-unless_failed (first_failing (c16 found ∷ [])) _ _
        (less_each successors c d (λ lei at. cells lei (Contains-append_right (successor ∷ []) successors lei at)) less))

    less_levels : (successors : List (List ℕ)) → ((lei : List ℕ) → Contains successors lei → LessAt a b (CellKey.Rec lei))
        → ((key : CellKey) → Contains (level_walk a (lei_in item) successors) key → LessAt a b key)
        → LessChecked (check_levels a item successors) (check_levels b item successors)
    less_levels [] cells walks = less_key
    less_levels (successor ∷ successors) cells walks =
        let all = successor ∷ successors in
        less_each all _ _ cells
        (less-check_walked 17 18 (walk_by_levels a (lei_in item) all) (walk_by_levels b (lei_in item) all) (check_key a item) (check_key b item) (less_spread all walks) less_key)

    successor_less : (lei : List ℕ) → Contains (successors_in item) lei → LessAt a b (CellKey.Rec lei)
    successor_less lei at =
        others_named (CellKey.Rec lei) (Contains-append_right (key_names (akey item)) (successor_names (successors_in item)) (CellKey.Rec lei)
        (Contains-map CellKey.Rec (successors_in item) lei at))

    less_successors : (rules : Rules) → ((key : CellKey) → Contains (record_walk rules a item) key → LessAt a b key)
        → LessChecked (check_successors rules a item) (check_successors rules b item)
    less_successors Rules.First walks = less_first walks (successor_in item) refl
    less_successors Rules.Second walks = less_levels (successors_in item) successor_less walks
    less_successors Rules.Third walks = less_levels (successors_in item) successor_less walks

    less-record : (full : Bool) (sitting : Sitting) → ((key : CellKey) → Contains (record_walk sitting.rules a item) key → LessAt a b key)
        → LessJudged (judge_record a full sitting item) (judge_record b full sitting item)
    unfolding check_record
    less-record full sitting walks =
        let own = CellKey.Rec (lei_in item) in
        less_late (first_failing (own_checks sitting item)) (a.record_cell (lei_in item)) (b.record_cell (lei_in item)) own _ _ (λ held. judge_late sitting item held full)
        (named own (Contains-append_left (own ∷ []) (key_names (akey item) ++ successor_names (successors_in item)) own (0, omega arith, refl)))
        (λ held. less-unless_failed _ _ _ (less_successors sitting.rules walks))

-- ---- an item

walks_of_parent : (a b : Cells) (item : Row)
    → ((key : CellKey) → Contains (cond (is_direct_parent item) (parent_walk a (end_in item)) []) key → LessAt a b key)
    → is_direct_parent item ≡ true → (member : List ℕ) → Contains (walk_members 200 (known_next (parents_in a)) (end_in item)) member → LessAt a b (parent_key member)
walks_of_parent a b item less direct member at =
    less (parent_key member) (subst (λ t. Contains (cond t (parent_walk a (end_in item)) []) (parent_key member)) (sym direct)
    (Contains-map parent_key (walk_members 200 (known_next (parents_in a)) (end_in item)) member at))

pub less-item : (a b : Cells) (full : Bool) (sitting : Sitting) (item : Readied) → ((key : CellKey) → Contains (needs sitting.rules a item) key → LessAt a b key)
    → LessJudged (judge_item a full sitting item) (judge_item b full sitting item)
less-item a b full sitting (Readied.Bad check) less = refl
less-item a b full sitting (Readied.Good (Item.Record item)) less =
    let walk = record_walk sitting.rules a item in
    less-record a b item (λ key at. less key (Contains-append_left (record_names item) walk key at)) full sitting
    (λ key at. less key (Contains-append_right (record_names item) walk key at))
less-item a b full sitting (Readied.Good (Item.Relation item)) less =
    let walk = cond (is_direct_parent item) (parent_walk a (end_in item)) [] in
    less_outcome _ _ _ (less-relation a b item (λ key at. less key (Contains-append_left (relation_names item) walk key at))
    (walks_of_parent a b item (λ key at. less key (Contains-append_right (relation_names item) walk key at))) sitting.issuer)
less-item a b full sitting (Readied.Good (Item.Exception item)) less =
    less_outcome _ _ _ (less-exception a b item.0 (λ key at. less key (Contains-append_left (exception_names item.0) [] key at)) sitting.issuer item.1)
