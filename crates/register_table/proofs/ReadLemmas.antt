-- What the cells of a table and the indexes over them say about its rows.
use Rattle.std.specs.Prelude.{◌≡◌, ℕ, true, false, cond, List, [], ◌∷◌, Option, Some, None, is_some, option_map}
use Rattle.std.specs.FinMap.{get}
use Rattle.std.specs.Str.{bytes_eq}
use Rattle.std.proofs.Common.{refl, sym, ap, ◌∙◌}
use mathlib.Core.Bool.{true≢false}
use Rattle.lei_shapes.specs.declared.lists.ExceptionCategory.{ExceptionCategory}
use Rattle.lei_shapes.specs.declared.lists.RelationType.{RelationType}
use Rattle.lei_shapes.specs.Lists.{relation_type_text}
use Rattle.lei_records.specs.declared.item.Item.{Item}
use Rattle.lei_records.specs.declared.view.RowKey.{RowKey}
use Rattle.lei_records.specs.Cells.{holds, lei_in}
use Rattle.lei_records.specs.Relations.{end_in, is_active, is_active_of, kind_in, start_in}
use Rattle.lei_records.specs.Rows.{Row}
use Rattle.lei_records.specs.Tables.{KeyTexts, Table, active_of, exception_key, has_exception, holder_of, record_key, relation_key, relation_key_in, relation_row, row_at, IsSoundTable}
use Rattle.authority_rules.proofs.HolderLemmas.{both_true, bytes_itself, bytes_same, first_true, second_true, some_apart}
use Rattle.authority_rules.proofs.UnderKeys.{none_found, only_found}
use Rattle.register_table.specs.Cells.{IsItemOf}
use Rattle.register_table.specs.Held.{Held, cell_key, record_kind, relation_kind, row_in, rows}
use Rattle.register_table.specs.Parts.{AreIndexes}
use Rattle.register_table.specs.Reading.{is_active_row, record_row, relation_row_in, row_holds}
use Rattle.register_table.specs.Undos.{cell_with, row_in_item}
use Rattle.register_table.proofs.RowsLemmas.{exception_at, record_at, relation_at}

-- ---- the row of a cell

first_text : KeyTexts → List ℕ
first_text [] = []
first_text (text ∷ texts) = text

-- keys of different kinds differ
apart : (kind : List ℕ) (a b : KeyTexts) → a ≡ b → bytes_eq kind (first_text a) ≡ true → bytes_eq kind (first_text b) ≡ false → ⊥
apart kind a b same here there = true≢false (sym here ∙ (ap (λ k. bytes_eq kind (first_text k)) same ∙ there))

module _ (held : Held) (entry : ℕ) where
  pub record_held : (lei : List ℕ) (item : Option Item) → get held (cell_key (RowKey.Rec lei)) ≡ Some (cell_with entry item) → IsItemOf (RowKey.Rec lei) item
      → record_row item ≡ row_at (rows held) lei
  unfolding first_text
  record_held lei None at own = sym (record_at held (record_key lei) ∙ ap row_in at)
  record_held lei (Some (Item.Record row)) at own = sym (record_at held (record_key lei) ∙ ap row_in at)
  record_held lei (Some (Item.Relation row)) at own = absurd (apart record_kind _ _ own refl refl)
  record_held lei (Some (Item.Exception item)) at own = absurd (apart record_kind _ _ own refl refl)

  pub relation_held : (start : List ℕ) (kind : RelationType) (end : List ℕ) (item : Option Item) → get held (cell_key (RowKey.Rel start kind end)) ≡ Some (cell_with entry item)
      → IsItemOf (RowKey.Rel start kind end) item → relation_row_in item ≡ relation_row (rows held) start kind end
  unfolding first_text
  relation_held start kind end None at own = sym (relation_at held (relation_key start kind end) ∙ ap row_in at)
  relation_held start kind end (Some (Item.Relation row)) at own = sym (relation_at held (relation_key start kind end) ∙ ap row_in at)
  relation_held start kind end (Some (Item.Record row)) at own = absurd (apart relation_kind _ _ own refl refl)
  relation_held start kind end (Some (Item.Exception item)) at own = absurd (apart relation_kind _ _ own refl refl)

  item_row : (item : Option Item) → is_some item ≡ is_some (option_map row_in_item item)
  item_row None = refl
  item_row (Some item) = refl

  pub exception_held : (lei : List ℕ) (category : ExceptionCategory) (item : Option Item) → get held (cell_key (RowKey.Exc lei category)) ≡ Some (cell_with entry item)
      → is_some item ≡ has_exception (rows held) lei category
  exception_held lei category item at = item_row item ∙ sym (ap is_some (exception_at held (exception_key lei category) ∙ ap row_in at))

module _ (held : Held) where
  pub no_record : (lei : List ℕ) → get held (cell_key (RowKey.Rec lei)) ≡ None → None ≡ row_at (rows held) lei
  no_record lei none = sym (record_at held (record_key lei) ∙ ap row_in none)

  pub no_relation : (start : List ℕ) (kind : RelationType) (end : List ℕ) → get held (cell_key (RowKey.Rel start kind end)) ≡ None → None ≡ relation_row (rows held) start kind end
  no_relation start kind end none = sym (relation_at held (relation_key start kind end) ∙ ap row_in none)

  pub no_exception : (lei : List ℕ) (category : ExceptionCategory) → get held (cell_key (RowKey.Exc lei category)) ≡ None → false ≡ has_exception (rows held) lei category
  no_exception lei category none = sym (ap is_some (exception_at held (exception_key lei category) ∙ ap row_in none))

-- ---- by the indexes

module _ (table : Table) (sound : IsSoundTable table) (holders : List ℕ → List ℕ → Option (List ℕ)) (ends : List ℕ → RelationType → Option (List ℕ)) (indexes : AreIndexes table holders ends) where
  module _ (a i : List ℕ) where
    none_holds : ((key : KeyTexts) (row : Row) → get table.records key ≡ Some row → holds a i row ≡ true → ⊥) → None ≡ holder_of table a i
    none_holds never = sym (ap (option_map lei_in) (none_found table.records (holds a i) never))

    -- nobody is noted under the key
    pub holder_none : None ≡ holders a i → None ≡ holder_of table a i
    holder_none none = none_holds (λ key row at passes. some_apart (lei_in row) (sym (indexes.by_key a i key row at passes) ∙ sym none))

    module _ (lei : List ℕ) (noted : Some lei ≡ holders a i) where
      own : (key : KeyTexts) (row : Row) → get table.records key ≡ Some row → holds a i row ≡ true → lei ≡ lei_in row
      own key row at passes = let same : Some lei ≡ Some (lei_in row) = noted ∙ indexes.by_key a i key row at passes in cc

      under : (key : KeyTexts) (row : Row) → get table.records key ≡ Some row → holds a i row ≡ true → key ≡ record_key lei
      under key row at passes = sound.keyed key row at ∙ ap record_key (sym (own key row at passes))

      seen : (found : Option Row) → row_at table lei ≡ found → cond (row_holds a i found) (Some lei) None ≡ holder_of table a i
      seen None is = none_holds (λ key row at passes. some_apart row (sym at ∙ (ap (get table.records) (under key row at passes) ∙ is)))
      seen (Some row) is =
          elim (holds a i row) as (λ b. holds a i row ≡ b → cond b (Some lei) None ≡ holder_of table a i) [
            | true ↦ λ t. ap Some (own (record_key lei) row is t)
                ∙ sym (ap (option_map lei_in) (only_found table.records (holds a i) (record_key lei) row is t (λ k r at passes. under k r at passes)))
            | false ↦ λ f. none_holds (λ key other at passes.
                let same : Some row ≡ Some other = sym is ∙ (ap (get table.records) (sym (under key other at passes)) ∙ at) in
                let one : row ≡ other = cc in
                true≢false (sym passes ∙ (ap (holds a i) (sym one) ∙ f)))
          ] refl

      -- the record that is noted holds the key, or nobody does
      pub holder_noted : cond (row_holds a i (row_at table lei)) (Some lei) None ≡ holder_of table a i
      holder_noted = seen (row_at table lei) refl

  module _ (start : List ℕ) (kind : RelationType) where
    none_active : ((key : KeyTexts) (row : Row) → get table.relations key ≡ Some row → is_active_of start kind row ≡ true → ⊥) → None ≡ active_of table start kind
    none_active never = sym (ap (option_map end_in) (none_found table.relations (is_active_of start kind) never))

    pub active_none : None ≡ ends start kind → None ≡ active_of table start kind
    active_none none = none_active (λ key row at passes. some_apart (end_in row) (sym (indexes.by_start start kind key row at passes) ∙ sym none))

    parts_of : (row : Row) → is_active_of start kind row ≡ true → (is_active row ≡ true) × ((start_in row ≡ start) × (relation_type_text (kind_in row) ≡ relation_type_text kind))
    unfolding is_active_of
    parts_of row passes =
        let others = second_true (is_active row) _ passes in
        (first_true _ _ passes, (bytes_same (start_in row) start (first_true _ _ others), bytes_same (relation_type_text (kind_in row)) (relation_type_text kind) (second_true _ _ others)))

    first_of : KeyTexts → List ℕ
    first_of [] = []
    first_of (a ∷ rest) = a

    second_of : KeyTexts → List ℕ
    second_of (a ∷ b ∷ rest) = b
    second_of other = []

    -- an active relationship under a key with this start and type is active for them
    of_key : (end : List ℕ) (row : Row) → relation_key start kind end ≡ relation_key_in row → is_active row ≡ true → is_active_of start kind row ≡ true
    unfolding is_active_of first_of second_of
    of_key end row same active =
        let starts : start ≡ start_in row = ap first_of same in
        let texts : relation_type_text kind ≡ relation_type_text (kind_in row) = ap second_of same in
        both_true _ _ active (both_true _ _ (ap (λ s. bytes_eq (start_in row) s) starts ∙ bytes_itself (start_in row))
        (ap (bytes_eq (relation_type_text (kind_in row))) texts ∙ bytes_itself (relation_type_text (kind_in row))))

    module _ (end : List ℕ) (noted : Some end ≡ ends start kind) where
      own_end : (key : KeyTexts) (row : Row) → get table.relations key ≡ Some row → is_active_of start kind row ≡ true → end ≡ end_in row
      own_end key row at passes = let same : Some end ≡ Some (end_in row) = noted ∙ indexes.by_start start kind key row at passes in cc

      under_end : (key : KeyTexts) (row : Row) → get table.relations key ≡ Some row → is_active_of start kind row ≡ true → key ≡ relation_key start kind end
      under_end key row at passes =
          let p = parts_of row passes in
          let e = own_end key row at passes in
          sound.relations_keyed key row at ∙ (λ j. p.1.0 j ∷ p.1.1 j ∷ sym e j ∷ [])

      seen_end : (found : Option Row) → relation_row table start kind end ≡ found → cond (is_active_row found) (Some end) None ≡ active_of table start kind
      seen_end None is = none_active (λ key row at passes. some_apart row (sym at ∙ (ap (get table.relations) (under_end key row at passes) ∙ is)))
      seen_end (Some row) is =
          elim (is_active row) as (λ b. is_active row ≡ b → cond b (Some end) None ≡ active_of table start kind) [
            | true ↦ λ t.
                let passes = of_key end row (sound.relations_keyed (relation_key start kind end) row is) t in
                ap Some (own_end (relation_key start kind end) row is passes)
                ∙ sym (ap (option_map end_in) (only_found table.relations (is_active_of start kind) (relation_key start kind end) row is passes (λ k r at passes. under_end k r at passes)))
            | false ↦ λ f. none_active (λ key other at passes.
                let same : Some row ≡ Some other = sym is ∙ (ap (get table.relations) (sym (under_end key other at passes)) ∙ at) in
                let one : row ≡ other = cc in
                true≢false (sym (parts_of other passes).0 ∙ (ap is_active (sym one) ∙ f)))
          ] refl

      pub active_noted : cond (is_active_row (relation_row table start kind end)) (Some end) None ≡ active_of table start kind
      active_noted = seen_end (relation_row table start kind end) refl
