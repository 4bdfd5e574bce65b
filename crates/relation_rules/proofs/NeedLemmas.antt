-- A cell that is reported missing is one that the item needs and the view lacks.
use Rattle.std.specs.Prelude.{◌≡◌, ℕ, List, [], ◌∷◌, Bool, true, false, cond, find, Option, Some, None, IsTrue}
use Rattle.std.specs.List.{Contains}
use Rattle.std.specs.Str.{bytes_eq}
use mathlib.Core.Logic.{inl, inr}
use Rattle.std.proofs.Common.{refl, sym, ap, subst, ◌∙◌, arith}
use Rattle.std.proofs.lemmas.Bool.{and_from}
use Rattle.std.proofs.lemmas.List.Elements.{Contains-append_left, Contains-append_right}
use Rattle.lei_shapes.specs.declared.lists.ExceptionCategory.{ExceptionCategory}
use Rattle.lei_shapes.specs.declared.lists.RelationType.{RelationType}
use Rattle.lei_records.specs.Checks.{FailedCheck}
use Rattle.lei_records.specs.declared.view.CellKey.{CellKey}
use Rattle.lei_records.specs.declared.view.RecCell.{RecCell}
use Rattle.lei_records.specs.declared.view.Seen.{Seen}
use Rattle.lei_records.specs.Cells.{Cells}
use Rattle.lei_records.specs.Exceptions.{exception_category_in, subject_in}
use Rattle.lei_records.specs.Relations.{end_in, is_active, kind_in, start_in}
use Rattle.lei_records.specs.Rows.{Row}
use Rattle.lei_records.proofs.FindLemmas.{find-member, find-passes}
use Rattle.authority_rules.specs.Taken.{unless_own}
use Rattle.successor_rules.specs.declared.walks.Walked.{Walked}
use Rattle.lei_records.specs.Walks.{is_long, is_met, walk_members}
use Rattle.successor_rules.specs.Walks.{SeenNext, first_lacking_member, is_unknown, known_next, unless_lacking}
use Rattle.relation_rules.specs.declared.checked.Checked.{Checked}
use Rattle.relation_rules.specs.Checking.{check_active, check_category, check_end, check_exception, check_held, check_managed, check_other_end, check_parents, check_put, check_relation, check_start, check_subject, check_walked, check_withdrawal, checked_of, on_seen, unless_failed, walk_parents}
use Rattle.relation_rules.specs.Needs.{IsNeeded, exception_keys, exception_names, is_lacking, lacks, relation_names}
use Rattle.lei_records.specs.Parents.{is_direct_type, parent_category, parent_type}

-- ---- what reports a missing cell

-- a check that failed reports none
unless_told : (failed : Option FailedCheck) (next : Checked) (key : CellKey) → unless_failed failed next ≡ Checked.Missing key → next ≡ Checked.Missing key
unless_told None next key is = is
unless_told (Some check) next key is = cc

never_told : (failed : Option FailedCheck) (key : CellKey) → checked_of failed ≡ Checked.Missing key → ⊥
never_told None key is = cc
never_told (Some check) key is = cc

-- a cell that is read is reported if it is missing; otherwise what follows reports one
seen_told : {X : Type 0} (seen : Seen X) (own : CellKey) (next : Option X → Checked) (key : CellKey) (G : Type 0) → on_seen seen own next ≡ Checked.Missing key
    → (is_lacking seen ≡ true → own ≡ key → G) → ((cell : Option X) → next cell ≡ Checked.Missing key → G) → G
seen_told (Seen.Held x) own next key G is here there = there (Some x) is
seen_told Seen.Empty own next key G is here there = there None is
seen_told Seen.Missing own next key G is here there = here refl (cc)

-- ---- what is named

first_of : (key : CellKey) (keys : List CellKey) → Contains (key ∷ keys) key
first_of key keys = Contains-append_left (key ∷ []) keys key (0, omega arith, refl)

-- ---- the walk

lacked : (own : List ℕ → CellKey) (met : Bool) (lacks : Option (List ℕ)) (long : Bool) (key : CellKey)
    → cond met Walked.Meets (unless_lacking own lacks (cond long Walked.Long Walked.Ends)) ≡ Walked.Missing key
    → (lei : List ℕ) × (lacks ≡ Some lei) × (own lei ≡ key)
lacked own true lacks long key is = cc
lacked own false None true key is = cc
lacked own false None false key is = cc
lacked own false (Some lei) long key is = (lei, refl, cc)

-- the entity's own one may be there or not, but no cell is missing for it
own_lacking : (own : List ℕ) (seen : Seen (List ℕ)) → is_lacking (unless_own own seen) ≡ is_lacking seen
own_lacking own Seen.Empty = refl
own_lacking own Seen.Missing = refl
own_lacking own (Seen.Held lei) =
    elim (bytes_eq lei own) as (λ b. is_lacking (cond b Seen.Empty (Seen.Held lei)) ≡ false) [ true ↦ refl | false ↦ refl ]

missing_is : (seen : Seen (List ℕ)) → is_unknown seen ≡ is_lacking seen
missing_is (Seen.Held lei) = refl
missing_is Seen.Empty = refl
missing_is Seen.Missing = refl

walk_told : (walked : Walked) (next : Checked) (key : CellKey) (G : Type 0) → check_walked 38 39 walked next ≡ Checked.Missing key
    → (walked ≡ Walked.Missing key → G) → (next ≡ Checked.Missing key → G) → G
walk_told Walked.Meets next key G is here there = cc
walk_told Walked.Long next key G is here there = cc
walk_told Walked.Ends next key G is here there = there is
walk_told (Walked.Missing own) next key G is here there = here (let same : own ≡ key = cc in ap Walked.Missing same)

-- ---- a relationship

module _ (cells : Cells) (item : Row) (key : CellKey) where
  -- the view lacks the cell, and the relationship needs it
  abbrev Told : Type 0
  Told = IsTrue (lacks cells key) × IsNeeded cells item key

  named_told : (own : CellKey) → Contains (relation_names item) own → lacks cells own ≡ true → own ≡ key → Told
  named_told own named lacking same =
      (ap (lacks cells) (sym same) ∙ lacking, inl (subst (Contains (relation_names item)) same named))

  -- what each relationship names
  abbrev first_names : List CellKey
  first_names =
      CellKey.Rec (start_in item) ∷ CellKey.Rec (end_in item) ∷ CellKey.Rel (start_in item) (kind_in item) (end_in item)
      ∷ CellKey.Act (start_in item) (kind_in item) ∷ []

  each_names : (own : CellKey) → Contains first_names own → Contains (relation_names item) own
  each_names own at = Contains-append_left first_names (exception_keys (start_in item) (parent_category (kind_in item))) own at

  category_told : (category : Option ExceptionCategory) → parent_category (kind_in item) ≡ category → check_category cells item category ≡ Checked.Missing key → Told
  category_told None of_kind is = cc
  category_told (Some category) of_kind is =
      seen_told (cells.exception (start_in item) category) (CellKey.Exc (start_in item) category) _ key Told is
      (λ lacking same. named_told (CellKey.Exc (start_in item) category)
      (Contains-append_right first_names (exception_keys (start_in item) (parent_category (kind_in item))) (CellKey.Exc (start_in item) category)
      (subst (λ c. Contains (exception_keys (start_in item) c) (CellKey.Exc (start_in item) category)) (sym of_kind) (first_of (CellKey.Exc (start_in item) category) [])))
      lacking same)
      (λ stands never. absurd (never_told _ key never))

  of_walk_told : is_active item ≡ true → is_direct_type (kind_in item) ≡ true → walk_parents cells (start_in item) (end_in item) ≡ Walked.Missing key → Told
  of_walk_told active direct is =
      let answers : SeenNext = λ lei. cells.active lei RelationType.IsDirectlyConsolidatedBy in
      let own : List ℕ → CellKey = λ lei. CellKey.Act lei RelationType.IsDirectlyConsolidatedBy in
      let found = lacked own (is_met (known_next answers) (start_in item) (end_in item)) (first_lacking_member answers (end_in item)) (is_long (known_next answers) (end_in item)) key is in
      let test : List ℕ → Bool = λ lei. is_unknown (answers lei) in
      let all = walk_members 200 (known_next answers) (end_in item) in
      let lacking : lacks cells (own found.0) ≡ true = sym (missing_is (answers found.0)) ∙ find-passes test all found.0 found.1 in (
        ap (lacks cells) (sym found.2) ∙ lacking,
        inr (record { direct = and_from _ _ active direct; member = found.0; stands = find-member test all found.0 found.1; is = sym found.2 }),
      )

  parents_told : is_active item ≡ true → check_parents cells item ≡ Checked.Missing key → Told
  parents_told active is =
      elim (is_direct_type (kind_in item)) as (λ b. is_direct_type (kind_in item) ≡ b
      → cond b (check_walked 38 39 (walk_parents cells (start_in item) (end_in item)) (check_category cells item (parent_category (kind_in item))))
      (check_category cells item (parent_category (kind_in item))) ≡ Checked.Missing key → Told) [
        | true ↦ λ direct told. walk_told (walk_parents cells (start_in item) (end_in item)) _ key Told told
            (of_walk_told active direct) (category_told (parent_category (kind_in item)) refl)
        | false ↦ λ _ told. category_told (parent_category (kind_in item)) refl told
      ] refl is

  active_told : check_active cells item ≡ Checked.Missing key → Told
  active_told is =
      elim (is_active item) as (λ b. is_active item ≡ b
      → cond b (on_seen (unless_own (end_in item) (cells.active (start_in item) (kind_in item))) (CellKey.Act (start_in item) (kind_in item))
      (check_other_end cells item)) Checked.Passes
      ≡ Checked.Missing key → Told) [
        | true ↦ λ active told. let own = CellKey.Act (start_in item) (kind_in item) in
            seen_told (unless_own (end_in item) (cells.active (start_in item) (kind_in item))) own (check_other_end cells item) key Told told
            (λ lacking same. named_told own (each_names own (3, omega arith, refl)) (sym (own_lacking (end_in item) (cells.active (start_in item) (kind_in item))) ∙ lacking) same)
            (λ end rest. parents_told active (unless_told _ (check_parents cells item) key rest))
        | false ↦ λ _ told. cc
      ] refl is

  managed_told : (issuer : List ℕ) (start : Option RecCell) → check_managed cells issuer item start ≡ Checked.Missing key → Told
  managed_told issuer start is =
      let own = CellKey.Rel (start_in item) (kind_in item) (end_in item) in
      seen_told (cells.relation (start_in item) (kind_in item) (end_in item)) own (check_held cells item) key Told
      (unless_told _ (on_seen (cells.relation (start_in item) (kind_in item) (end_in item)) own (check_held cells item)) key is)
      (named_told own (each_names own (2, omega arith, refl)))
      (λ held rest. active_told (unless_told _ (check_active cells item) key rest))

  start_told : (issuer : List ℕ) (start : Option RecCell) → check_start cells issuer item start ≡ Checked.Missing key → Told
  start_told issuer start is =
      let own = CellKey.Rec (end_in item) in
      seen_told (cells.record_cell (end_in item)) own (check_end cells issuer item start) key Told
      (unless_told _ (on_seen (cells.record_cell (end_in item)) own (check_end cells issuer item start)) key is)
      (named_told own (each_names own (1, omega arith, refl)))
      (λ end rest. managed_told issuer start (unless_told _ (check_managed cells issuer item start) key rest))

  pub relation_told : (issuer : List ℕ) → check_relation cells issuer item ≡ Checked.Missing key → Told
  unfolding check_relation
  relation_told issuer is =
      let own = CellKey.Rec (start_in item) in
      seen_told (cells.record_cell (start_in item)) own (check_start cells issuer item) key Told
      (unless_told _ (on_seen (cells.record_cell (start_in item)) own (check_start cells issuer item)) key is)
      (named_told own (each_names own (0, omega arith, refl))) (start_told issuer)

-- ---- an exception

module _ (cells : Cells) (row : Row) (key : CellKey) where
  abbrev ExceptionTold : Type 0
  ExceptionTold = IsTrue (lacks cells key) × Contains (exception_names row) key

  name_told : (own : CellKey) → Contains (exception_names row) own → lacks cells own ≡ true → own ≡ key → ExceptionTold
  name_told own named lacking same = (ap (lacks cells) (sym same) ∙ lacking, subst (Contains (exception_names row)) same named)

  abbrev subject_key : CellKey
  subject_key = CellKey.Rec (subject_in row)

  abbrev own_key : CellKey
  own_key = CellKey.Exc (subject_in row) (exception_category_in row)

  abbrev parent_key : CellKey
  parent_key = CellKey.Act (subject_in row) (parent_type (exception_category_in row))

  action_told : (issuer : List ℕ) (withdraws : Bool) (held : Option RecCell) → check_subject cells issuer (row, withdraws) held ≡ Checked.Missing key → ExceptionTold
  action_told issuer true held is =
      seen_told (cells.exception (subject_in row) (exception_category_in row)) own_key _ key ExceptionTold
      (unless_told _ (check_withdrawal cells (row, true) (exception_category_in row)) key is)
      (name_told own_key (1, omega arith, refl))
      (λ stands never. absurd (never_told _ key never))
  action_told issuer false held is =
      let kind = parent_type (exception_category_in row) in
      seen_told (cells.active (subject_in row) kind) parent_key _ key ExceptionTold
      (unless_told _ (check_put cells (row, false) kind) key is)
      (name_told parent_key (2, omega arith, refl))
      (λ parent never. absurd (never_told _ key never))

  pub exception_told : (issuer : List ℕ) (withdraws : Bool) → check_exception cells issuer (row, withdraws) ≡ Checked.Missing key → ExceptionTold
  unfolding check_exception
  exception_told issuer withdraws is =
      seen_told (cells.record_cell (subject_in row)) subject_key (check_subject cells issuer (row, withdraws)) key ExceptionTold is
      (name_told subject_key (0, omega arith, refl)) (action_told issuer withdraws)
