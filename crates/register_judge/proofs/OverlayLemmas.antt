-- An overlay after a record, a relationship or an exception is put.
use Rattle.std.specs.Prelude.{◌≡◌, ℕ, List, Bool, true, false, ◌&&◌, cond, Option, Some, None, is_some}
use Rattle.std.specs.Cmp.Lexicographic.{nat_list_eq_equiv}
use Rattle.std.specs.Str.{bytes_eq}
use Rattle.std.proofs.Common.{refl, sym, ap, ◌∙◌}
use Rattle.std.proofs.Math.Bool.{and-false}
use Rattle.lei_shapes.specs.declared.lists.ExceptionCategory.{ExceptionCategory}
use Rattle.lei_shapes.specs.declared.lists.RelationType.{RelationType}
use Rattle.lei_records.specs.declared.view.Seen.{Seen}
use Rattle.lei_records.specs.Cells.{Cells, lei_in, rec_cell, is_live, akey, is_authority_key, holds}
use Rattle.lei_records.specs.Relations.{end_in, is_active, rel_cell}
use Rattle.lei_records.specs.Rows.{Row}
use Rattle.lei_records.specs.Tables.{seen_fact}
use Rattle.authority_rules.specs.Taken.{unless_own}
use Rattle.authority_rules.proofs.HolderLemmas.{bytes_itself}
use Rattle.lei_records.specs.Exceptions.{is_same_category}
use Rattle.relation_rules.specs.Checks.{is_from}
use Rattle.register_judge.specs.declared.takers.Takers.{Takers}
use Rattle.register_judge.specs.Overlays.{ActiveEnds, ExceptionsPut, Records, Relations, end_at, end_over, exception_over, exception_put_at, has_record, is_active_row, is_between, put_exception, put_record, put_relation, record_at, record_over, relation_at, relation_over, row_holds, taker_at, unless_replaced, with_active, with_overlay, with_taker}

-- ---- the key that a record holds

pub holds-dead : (row : Row) (authority id : List ℕ) → is_live row ≡ false → holds authority id row ≡ false
unfolding holds
holds-dead row authority id dead = ap (λ b. b && is_authority_key authority id (akey row)) dead

pub holds-no_key : (row : Row) (authority id : List ℕ) → None ≡ akey row → holds authority id row ≡ false
unfolding holds
holds-no_key row authority id none = ap (λ k. is_live row && is_authority_key authority id k) (sym none) ∙ and-false (is_live row)

pub holds-key : (row : Row) (key : List ℕ × List ℕ) (authority id : List ℕ) → is_live row ≡ true → Some key ≡ akey row
    → holds authority id row ≡ bytes_eq key.0 authority && bytes_eq key.1 id
unfolding holds
holds-key row key authority id live is =
    ap (λ k. is_live row && is_authority_key authority id k) (sym is) ∙ ap (λ b. b && (bytes_eq key.0 authority && bytes_eq key.1 id)) live

-- to note the key of a live record is to note the key that it holds
pub taker_at-key : (row : Row) (key : List ℕ × List ℕ) (lei : List ℕ) (old new : Takers) → is_live row ≡ true → Some key ≡ akey row → lei ≡ lei_in row
    → ((a i : List ℕ) → taker_at new a i ≡ cond (bytes_eq key.0 a && bytes_eq key.1 i) (Some lei) (taker_at old a i))
    → (a i : List ℕ) → taker_at new a i ≡ cond (holds a i row) (Some (lei_in row)) (taker_at old a i)
taker_at-key row key lei old new live is same noted a i =
    noted a i ∙ (let held = sym (holds-key row key a i live is) in λ j. cond (held j) (Some (same j)) (taker_at old a i))

-- ---- the cells

module _ (below : Cells) (records later : Records) (takers newer : Takers) (relations : Relations) (ends : ActiveEnds) (standing : ExceptionsPut) (row : Row)
    (by_code : (lei : List ℕ) → record_at later lei ≡ cond (bytes_eq lei (lei_in row)) (Some row) (record_at records lei))
    (by_key : (authority id : List ℕ) → taker_at newer authority id ≡ cond (holds authority id row) (Some (lei_in row)) (taker_at takers authority id)) where
  cell : (lei : List ℕ) → record_over (record_at later lei) (below.record_cell lei)
      ≡ cond (bytes_eq lei (lei_in row)) (Seen.Held (rec_cell row)) (record_over (record_at records lei) (below.record_cell lei))
  cell lei =
      ap (λ r. record_over r (below.record_cell lei)) (by_code lei)
      ∙ elim (bytes_eq lei (lei_in row)) as (λ b. record_over (cond b (Some row) (record_at records lei)) (below.record_cell lei)
      ≡ cond b (Seen.Held (rec_cell row)) (record_over (record_at records lei) (below.record_cell lei))) [ true ↦ refl | false ↦ refl ]

  -- a holder below, after one more record is replaced
  below_holder : (seen : Seen (List ℕ)) → unless_replaced later seen ≡ unless_own (lei_in row) (unless_replaced records seen)
  below_holder Seen.Empty = refl
  below_holder Seen.Missing = refl
  below_holder (Seen.Held lei) =
      ap (λ r. cond (is_some r) Seen.Empty (Seen.Held lei)) (by_code lei)
      ∙ elim (bytes_eq lei (lei_in row)) as (λ b. bytes_eq lei (lei_in row) ≡ b
      → cond (is_some (cond b (Some row) (record_at records lei))) Seen.Empty (Seen.Held lei)
      ≡ unless_own (lei_in row) (cond (has_record records lei) Seen.Empty (Seen.Held lei))) [
        | true ↦ λ t. elim (has_record records lei) as (λ h. Seen.Empty ≡ unless_own (lei_in row) (cond h Seen.Empty (Seen.Held lei))) [
          | true ↦ refl
          | false ↦ sym (ap (λ b. cond b Seen.Empty (Seen.Held lei)) t)
        ]
        | false ↦ λ t. elim (has_record records lei) as (λ h. cond h Seen.Empty (Seen.Held lei) ≡ unless_own (lei_in row) (cond h Seen.Empty (Seen.Held lei))) [
          | true ↦ refl
          | false ↦ sym (ap (λ b. cond b Seen.Empty (Seen.Held lei)) t)
        ]
      ] refl

  -- the record that took the key before, if the row doesn't hold the key
  before : (authority id : List ℕ) → holds authority id row ≡ false → (taker : Option (List ℕ)) (seen : Seen (List ℕ))
      → with_taker later authority id taker seen ≡ unless_own (lei_in row) (with_taker records authority id taker seen)
  before authority id not_held None seen = below_holder seen
  before authority id not_held (Some lei) seen =
      ap (λ r. cond (row_holds authority id r) (Seen.Held lei) Seen.Empty) (by_code lei)
      ∙ elim (bytes_eq lei (lei_in row)) as (λ b. bytes_eq lei (lei_in row) ≡ b
      → cond (row_holds authority id (cond b (Some row) (record_at records lei))) (Seen.Held lei) Seen.Empty
      ≡ unless_own (lei_in row) (cond (row_holds authority id (record_at records lei)) (Seen.Held lei) Seen.Empty)) [
        | true ↦ λ t. ap (λ b. cond b (Seen.Held lei) Seen.Empty) not_held
            ∙ elim (row_holds authority id (record_at records lei)) as (λ h. Seen.Empty ≡ unless_own (lei_in row) (cond h (Seen.Held lei) Seen.Empty)) [
              | true ↦ sym (ap (λ b. cond b Seen.Empty (Seen.Held lei)) t)
              | false ↦ refl
            ]
        | false ↦ λ t. elim (row_holds authority id (record_at records lei)) as (λ h. cond h (Seen.Held lei) Seen.Empty ≡ unless_own (lei_in row) (cond h (Seen.Held lei) Seen.Empty)) [
          | true ↦ sym (ap (λ b. cond b Seen.Empty (Seen.Held lei)) t)
          | false ↦ refl
        ]
      ] refl

  own_row : record_at later (lei_in row) ≡ Some row
  own_row = by_code (lei_in row) ∙ ap (λ b. cond b (Some row) (record_at records (lei_in row))) (bytes_itself (lei_in row))

  holder : (authority id : List ℕ) → with_taker later authority id (taker_at newer authority id) (below.holder authority id)
      ≡ cond (holds authority id row) (Seen.Held (lei_in row)) (unless_own (lei_in row) (with_taker records authority id (taker_at takers authority id) (below.holder authority id)))
  holder authority id =
      ap (λ t. with_taker later authority id t (below.holder authority id)) (by_key authority id)
      ∙ elim (holds authority id row) as (λ b. holds authority id row ≡ b
      → with_taker later authority id (cond b (Some (lei_in row)) (taker_at takers authority id)) (below.holder authority id)
      ≡ cond b (Seen.Held (lei_in row)) (unless_own (lei_in row) (with_taker records authority id (taker_at takers authority id) (below.holder authority id)))) [
        | true ↦ λ t. ap (λ r. cond (row_holds authority id r) (Seen.Held (lei_in row)) Seen.Empty) own_row ∙ ap (λ b. cond b (Seen.Held (lei_in row)) Seen.Empty) t
        | false ↦ λ t. before authority id t (taker_at takers authority id) (below.holder authority id)
      ] refl

  -- the cells through the maps with one more record are the cells with the record put
  pub overlaid-put_record : with_overlay below later newer relations ends standing ≡ put_record (with_overlay below records takers relations ends standing) row
  overlaid-put_record = λ i. record (with_overlay below records takers relations ends standing) {
    record_cell = λ lei. cell lei i;
    holder = λ authority id. holder authority id i;
  }

-- ---- relationships

module _ (below : Cells) (records : Records) (takers : Takers) (relations later : Relations) (ends newer : ActiveEnds) (standing : ExceptionsPut) (row : Row)
    (by_key : (start : List ℕ) (kind : RelationType) (end : List ℕ) → relation_at later start kind end ≡ cond (is_between start kind end row) (Some row) (relation_at relations start kind end))
    (by_start : (start : List ℕ) (kind : RelationType) → end_at newer start kind ≡ cond (is_active row && is_from start kind row) (Some (end_in row)) (end_at ends start kind)) where
  own_cell : (start : List ℕ) (kind : RelationType) (end : List ℕ) → relation_over (relation_at later start kind end) (below.relation start kind end)
      ≡ cond (is_between start kind end row) (Seen.Held (rel_cell row)) (relation_over (relation_at relations start kind end) (below.relation start kind end))
  own_cell start kind end =
      ap (λ r. relation_over r (below.relation start kind end)) (by_key start kind end)
      ∙ elim (is_between start kind end row) as (λ b. relation_over (cond b (Some row) (relation_at relations start kind end)) (below.relation start kind end)
      ≡ cond b (Seen.Held (rel_cell row)) (relation_over (relation_at relations start kind end) (below.relation start kind end))) [ true ↦ refl | false ↦ refl ]

  module _ (start : List ℕ) (kind : RelationType) where
    -- the relationships of a start and a type, by their ends
    at_end : (end : List ℕ) → relation_at later start kind end ≡ cond (is_from start kind row && bytes_eq end (end_in row)) (Some row) (relation_at relations start kind end)
    at_end end =
        by_key start kind end
        ∙ ap (λ b. cond (is_from start kind row && b) (Some row) (relation_at relations start kind end)) (nat_list_eq_equiv.symm (end_in row) end)

    beside : is_from start kind row ≡ false → (end : List ℕ) → relation_at later start kind end ≡ relation_at relations start kind end
    beside f end = at_end end ∙ ap (λ b. cond (b && bytes_eq end (end_in row)) (Some row) (relation_at relations start kind end)) f

    along : is_from start kind row ≡ true → (end : List ℕ) → relation_at later start kind end ≡ cond (bytes_eq end (end_in row)) (Some row) (relation_at relations start kind end)
    along t end = at_end end ∙ ap (λ b. cond (b && bytes_eq end (end_in row)) (Some row) (relation_at relations start kind end)) t

    -- if the row has another start or type, nothing changes
    same_end : is_from start kind row ≡ false → (found : Option (List ℕ)) (seen : Seen (List ℕ)) → end_over later start kind found seen ≡ end_over relations start kind found seen
    same_end f None Seen.Empty = refl
    same_end f None Seen.Missing = refl
    same_end f None (Seen.Held end) = ap (λ r. cond (is_some r) Seen.Empty (Seen.Held end)) (beside f end)
    same_end f (Some end) seen = ap (λ r. cond (is_active_row r) (Seen.Held end) Seen.Empty) (beside f end)

    -- if it has this start and type and isn't active, its own end is no longer active
    left_end : is_from start kind row ≡ true → is_active row ≡ false → (found : Option (List ℕ)) (seen : Seen (List ℕ))
        → end_over later start kind found seen ≡ unless_own (end_in row) (end_over relations start kind found seen)
    left_end t idle None Seen.Empty = refl
    left_end t idle None Seen.Missing = refl
    left_end t idle None (Seen.Held end) =
        ap (λ r. cond (is_some r) Seen.Empty (Seen.Held end)) (along t end)
        ∙ elim (bytes_eq end (end_in row)) as (λ b. bytes_eq end (end_in row) ≡ b
        → cond (is_some (cond b (Some row) (relation_at relations start kind end))) Seen.Empty (Seen.Held end)
        ≡ unless_own (end_in row) (cond (is_some (relation_at relations start kind end)) Seen.Empty (Seen.Held end))) [
          | true ↦ λ own. elim (is_some (relation_at relations start kind end)) as (λ h. Seen.Empty ≡ unless_own (end_in row) (cond h Seen.Empty (Seen.Held end))) [
            | true ↦ refl
            | false ↦ sym (ap (λ b. cond b Seen.Empty (Seen.Held end)) own)
          ]
          | false ↦ λ other. elim (is_some (relation_at relations start kind end)) as (λ h. cond h Seen.Empty (Seen.Held end) ≡ unless_own (end_in row) (cond h Seen.Empty (Seen.Held end))) [
            | true ↦ refl
            | false ↦ sym (ap (λ b. cond b Seen.Empty (Seen.Held end)) other)
          ]
        ] refl
    left_end t idle (Some end) seen =
        ap (λ r. cond (is_active_row r) (Seen.Held end) Seen.Empty) (along t end)
        ∙ elim (bytes_eq end (end_in row)) as (λ b. bytes_eq end (end_in row) ≡ b
        → cond (is_active_row (cond b (Some row) (relation_at relations start kind end))) (Seen.Held end) Seen.Empty
        ≡ unless_own (end_in row) (cond (is_active_row (relation_at relations start kind end)) (Seen.Held end) Seen.Empty)) [
          | true ↦ λ own. ap (λ b. cond b (Seen.Held end) Seen.Empty) idle
              ∙ elim (is_active_row (relation_at relations start kind end)) as (λ h. Seen.Empty ≡ unless_own (end_in row) (cond h (Seen.Held end) Seen.Empty)) [
                | true ↦ sym (ap (λ b. cond b Seen.Empty (Seen.Held end)) own)
                | false ↦ refl
              ]
          | false ↦ λ other. elim (is_active_row (relation_at relations start kind end)) as (λ h. cond h (Seen.Held end) Seen.Empty ≡ unless_own (end_in row) (cond h (Seen.Held end) Seen.Empty)) [
            | true ↦ sym (ap (λ b. cond b Seen.Empty (Seen.Held end)) other)
            | false ↦ refl
          ]
        ] refl

    -- if it is active, so is its end
    own_end : is_from start kind row ≡ true → is_active row ≡ true → (seen : Seen (List ℕ)) → end_over later start kind (Some (end_in row)) seen ≡ Seen.Held (end_in row)
    own_end t active seen =
        let here : relation_at later start kind (end_in row) ≡ Some row =
        along t (end_in row) ∙ ap (λ b. cond b (Some row) (relation_at relations start kind (end_in row))) (bytes_itself (end_in row)) in
        ap (λ r. cond (is_active_row r) (Seen.Held (end_in row)) Seen.Empty) here ∙ ap (λ b. cond b (Seen.Held (end_in row)) Seen.Empty) active

    active_cell : end_over later start kind (end_at newer start kind) (below.active start kind)
        ≡ cond (is_from start kind row) (with_active row (end_over relations start kind (end_at ends start kind) (below.active start kind)))
        (end_over relations start kind (end_at ends start kind) (below.active start kind))
    active_cell =
        let seen = below.active start kind in
        let before = end_over relations start kind (end_at ends start kind) seen in
        ap (λ e. end_over later start kind e seen) (by_start start kind)
        ∙ elim (is_from start kind row) as (λ f. is_from start kind row ≡ f
        → end_over later start kind (cond (is_active row && f) (Some (end_in row)) (end_at ends start kind)) seen ≡ cond f (with_active row before) before) [
          | true ↦ λ t. elim (is_active row) as (λ a. is_active row ≡ a
              → end_over later start kind (cond (a && true) (Some (end_in row)) (end_at ends start kind)) seen ≡ cond a (Seen.Held (end_in row)) (unless_own (end_in row) before)) [
                | true ↦ λ active. own_end t active seen
                | false ↦ λ idle. left_end t idle (end_at ends start kind) seen
              ] refl
          | false ↦ λ f. ap (λ b. end_over later start kind (cond b (Some (end_in row)) (end_at ends start kind)) seen) (and-false (is_active row)) ∙ same_end f (end_at ends start kind) seen
        ] refl

  -- the cells through the maps with one more relationship are the cells with the relationship put
  pub overlaid-put_relation : with_overlay below records takers later newer standing ≡ put_relation (with_overlay below records takers relations ends standing) row
  overlaid-put_relation = λ i. record (with_overlay below records takers relations ends standing) {
    relation = λ start kind end. own_cell start kind end i;
    active = λ start kind. active_cell start kind i;
  }

-- ---- exceptions

module _ (below : Cells) (records : Records) (takers : Takers) (relations : Relations) (ends : ActiveEnds) (standing later : ExceptionsPut) (own : List ℕ) (category : ExceptionCategory) (stands : Bool)
    (by_code : (lei : List ℕ) (other : ExceptionCategory) → exception_put_at later lei other ≡ cond (bytes_eq own lei && is_same_category category other) (Some stands) (exception_put_at standing lei other)) where
  fact_cell : (lei : List ℕ) (other : ExceptionCategory) → exception_over (exception_put_at later lei other) (below.exception lei other)
      ≡ cond (bytes_eq own lei && is_same_category category other) (seen_fact stands) (exception_over (exception_put_at standing lei other) (below.exception lei other))
  fact_cell lei other =
      ap (λ s. exception_over s (below.exception lei other)) (by_code lei other)
      ∙ elim (bytes_eq own lei && is_same_category category other) as (λ b. exception_over (cond b (Some stands) (exception_put_at standing lei other)) (below.exception lei other)
      ≡ cond b (seen_fact stands) (exception_over (exception_put_at standing lei other) (below.exception lei other))) [ true ↦ refl | false ↦ refl ]

  -- the cells through the map with one more exception are the cells with the exception put or withdrawn
  pub overlaid-put_exception : with_overlay below records takers relations ends later ≡ put_exception (with_overlay below records takers relations ends standing) own category stands
  overlaid-put_exception = λ i. record (with_overlay below records takers relations ends standing) { exception = λ lei other. fact_cell lei other i }
