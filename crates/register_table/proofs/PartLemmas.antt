-- When a cell is put, the indexes stay those of the table, and the cells can still be kept.
use Rattle.std.specs.Prelude.{◌≡◌, ℕ, Bool, true, false, cond, List, [], ◌∷◌, Option, Some, None, Result, Ok, Err, OnOk, OnErr}
use Rattle.std.specs.FinMap.{get, insert, remove, get-insert}
use Rattle.std.specs.Ordering.{eq_by_cmp}
use Rattle.std.proofs.Common.{refl, sym, ap, subst, ◌∙◌}
use mathlib.Core.Bool.{true≢false}
use Rattle.lei_shapes.specs.declared.lists.RelationType.{RelationType}
use Rattle.lei_records.specs.declared.item.Item.{Item}
use Rattle.lei_records.specs.declared.view.RowKey.{RowKey}
use Rattle.lei_records.specs.Cells.{holds, lei_in}
use Rattle.lei_records.specs.Relations.{end_in, is_active_of}
use Rattle.lei_records.specs.Rows.{Row}
use Rattle.lei_records.specs.Tables.{KeyTexts, Rows, Table, key_cmp, record_key, relation_key, relation_key_in, row_key, IsSoundTable}
use Rattle.authority_rules.proofs.HolderLemmas.{keys_total, same_key, same_lei}
use Rattle.authority_rules.proofs.KeyLemmas.{key_itself}
use Rattle.authority_rules.proofs.UnderKeys.{inserted, removed}
use Rattle.register_table.specs.Cells.{IsItemOf}
use Rattle.register_table.specs.Held.{CanBeKept, Cell, Held, cell_key, rows}
use Rattle.register_table.specs.Parts.{AreIndexes, end_after, holder_after}
use Rattle.register_table.specs.Undos.{cell_with}
use Rattle.register_table.proofs.RowsLemmas.{row_under, rows-with_cell}

-- ---- one index over rows

alike : (b : Bool) (o : Option (List ℕ)) → cond b o o ≡ o
alike true o = refl
alike false o = refl

module _ {C : Type 0} (test : C → Row → Bool) (value : Row → List ℕ) where
  -- what passes the test is noted
  abbrev IsIndexed : Rows → (C → Option (List ℕ)) → Type 0
  IsIndexed m at = (c : C) (key : KeyTexts) (row : Row) → get m key ≡ Some row → test c row ≡ true → at c ≡ Some (value row)

  abbrev IsOnly : Rows → Type 0
  IsOnly m = (c : C) (a b : KeyTexts) (x y : Row) → get m a ≡ Some x → get m b ≡ Some y → test c x ≡ true → test c y ≡ true → a ≡ b

  module _ (m : Rows) (k : KeyTexts) (row : Row) (old new : C → Option (List ℕ)) (indexed : IsIndexed m old) (only : IsOnly (insert m k row))
      (noted : (c : C) → new c ≡ cond (test c row) (Some (value row)) (old c)) where
    there : get (insert m k row) k ≡ Some row
    there = get-insert keys_total m k row k ∙ ap (λ b. cond b (Some row) (get m k)) (key_itself k)

    -- a row under another key
    other : (c : C) (key : KeyTexts) (x : Row) → eq_by_cmp key_cmp key k ≡ false → get m key ≡ Some x → test c x ≡ true → new c ≡ Some (value x)
    other c key x apart at passes =
        noted c ∙ elim (test c row) as (λ b. test c row ≡ b → cond b (Some (value row)) (old c) ≡ Some (value x)) [
          | true ↦ λ own.
              let here : get (insert m k row) key ≡ Some x = get-insert keys_total m k row key ∙ (ap (λ b. cond b (Some row) (get m key)) apart ∙ at) in
              let same : key ≡ k = only c key k x row here there passes own in
              let tied : true ≡ false = sym (key_itself k) ∙ (ap (λ q. eq_by_cmp key_cmp q k) (sym same) ∙ apart) in
              absurd (true≢false tied)
          | false ↦ λ _. indexed c key x at passes
        ] refl

    behind_put : IsIndexed (insert m k row) new
    behind_put c key x at passes = inserted m k row key x (new c ≡ Some (value x)) at
        (λ _ same. noted c ∙ (ap (λ b. cond b (Some (value row)) (old c)) (ap (test c) same ∙ passes) ∙ ap (λ r. Some (value r)) same))
        (λ apart at. other c key x apart at passes)

    before_put : ((x : Row) → get m k ≡ Some x → value x ≡ value row) → IsIndexed m new
    before_put own c key x at passes =
        elim (eq_by_cmp key_cmp key k) as (λ b. eq_by_cmp key_cmp key k ≡ b → new c ≡ Some (value x)) [
          | true ↦ λ t.
              let same : value x ≡ value row = own x (sym (ap (get m) (same_key key k t)) ∙ at) in
              noted c ∙ (ap (cond (test c row) (Some (value row))) (indexed c key x at passes ∙ ap Some same) ∙ alike (test c row) (Some (value row))) ∙ ap Some (sym same)
          | false ↦ λ apart. other c key x apart at passes
        ] refl

-- ---- both indexes over a table

abbrev Holding : Type 0
Holding = List ℕ → List ℕ → Option (List ℕ)

abbrev Ending : Type 0
Ending = List ℕ → RelationType → Option (List ℕ)

abbrev holds_pair : List ℕ × List ℕ → Row → Bool
holds_pair c = holds c.0 c.1

abbrev active_pair : List ℕ × RelationType → Row → Bool
active_pair c = is_active_of c.0 c.1

only_holder : (table : Table) → IsSoundTable table → (c : List ℕ × List ℕ) (a b : KeyTexts) (x y : Row) → get table.records a ≡ Some x → get table.records b ≡ Some y
    → holds_pair c x ≡ true → holds_pair c y ≡ true → a ≡ b
only_holder table sound c a b x y at_a at_b passes_a passes_b =
    let own_a : a ≡ record_key (lei_in x) = sound.keyed a x at_a in
    let own_b : b ≡ record_key (lei_in y) = sound.keyed b y at_b in
    let there_a : get table.records (record_key (lei_in x)) ≡ Some x = ap (get table.records) (sym own_a) ∙ at_a in
    let there_b : get table.records (record_key (lei_in y)) ≡ Some y = ap (get table.records) (sym own_b) ∙ at_b in
    own_a ∙ (ap record_key (sound.holders c.0 c.1 (lei_in x) (lei_in y) x y there_a there_b passes_a passes_b) ∙ sym own_b)

only_active : (table : Table) → IsSoundTable table → (c : List ℕ × RelationType) (a b : KeyTexts) (x y : Row) → get table.relations a ≡ Some x → get table.relations b ≡ Some y
    → active_pair c x ≡ true → active_pair c y ≡ true → a ≡ b
only_active table sound c a b x y at_a at_b passes_a passes_b = sound.actives c.0 c.1 a b x y at_a at_b passes_a passes_b

third_text : KeyTexts → List ℕ
third_text (a ∷ b ∷ c ∷ rest) = c
third_text other = []

pub same_end : (a b c d e f : List ℕ) → (a ∷ b ∷ c ∷ []) ≡ (d ∷ e ∷ f ∷ []) → c ≡ f
unfolding third_text
same_end a b c d e f is = ap third_text is

-- the indexes with an item noted are those of the table before and after it is put
pub record Both (before after : Table) (holders : Holding) (ends : Ending) : Type 0 where
  pub still : AreIndexes before holders ends
  pub behind : AreIndexes after holders ends

module _ (table : Table) (holders newer : Holding) (ends later : Ending) (sound : IsSoundTable table) (indexes : AreIndexes table holders ends) where
  module _ (same_holders : (a i : List ℕ) → newer a i ≡ holders a i) (same_ends : (s : List ℕ) (kind : RelationType) → later s kind ≡ ends s kind) where
    pub same_indexes : AreIndexes table newer later
    same_indexes = record {
      by_key = λ a i key row at passes. same_holders a i ∙ indexes.by_key a i key row at passes;
      by_start = λ s kind key row at passes. same_ends s kind ∙ indexes.by_start s kind key row at passes;
    }

    -- a key whose row is removed, or whose row is of another kind
    pub same_without : (key : RowKey) → AreIndexes (row_under table key None) newer later
    same_without (RowKey.Rec lei) = record {
      by_key = λ a i key row at passes. same_holders a i ∙ indexes.by_key a i key row (removed table.records (record_key lei) key row at) passes;
      by_start = λ s kind key row at passes. same_ends s kind ∙ indexes.by_start s kind key row at passes;
    }
    same_without (RowKey.Rel start type end) = record {
      by_key = λ a i key row at passes. same_holders a i ∙ indexes.by_key a i key row at passes;
      by_start = λ s kind key row at passes. same_ends s kind ∙ indexes.by_start s kind key row (removed table.relations (relation_key start type end) key row at) passes;
    }
    same_without (RowKey.Exc lei category) = record {
      by_key = λ a i key row at passes. same_holders a i ∙ indexes.by_key a i key row at passes;
      by_start = λ s kind key row at passes. same_ends s kind ∙ indexes.by_start s kind key row at passes;
    }

  module _ (row : Row) where
    put_record : IsSoundTable (row_under table (RowKey.Rec (lei_in row)) (Some row)) → ((a i : List ℕ) → newer a i ≡ cond (holds a i row) (Some (lei_in row)) (holders a i))
        → ((s : List ℕ) (kind : RelationType) → later s kind ≡ ends s kind) → Both table (row_under table (RowKey.Rec (lei_in row)) (Some row)) newer later
    put_record behind noted same_ends =
        let k = record_key (lei_in row) in
        let indexed = λ (c : List ℕ × List ℕ). indexes.by_key c.0 c.1 in
        let only = only_holder (row_under table (RowKey.Rec (lei_in row)) (Some row)) behind in
        let marked = λ (c : List ℕ × List ℕ). noted c.0 c.1 in
        let own = λ (x : Row) (at : get table.records k ≡ Some x). sym (same_lei (lei_in row) (lei_in x) (sound.keyed k x at)) in
        record {
          still = record {
            by_key = λ a i. before_put holds_pair lei_in table.records k row (λ c. holders c.0 c.1) (λ c. newer c.0 c.1) indexed only marked own (a, i);
            by_start = λ s kind key row at passes. same_ends s kind ∙ indexes.by_start s kind key row at passes;
          };
          behind = record {
            by_key = λ a i. behind_put holds_pair lei_in table.records k row (λ c. holders c.0 c.1) (λ c. newer c.0 c.1) indexed only marked (a, i);
            by_start = λ s kind key row at passes. same_ends s kind ∙ indexes.by_start s kind key row at passes;
          };
        }

    put_relation : IsSoundTable (row_under table (row_key (Item.Relation row)) (Some row)) → ((a i : List ℕ) → newer a i ≡ holders a i)
        → ((s : List ℕ) (kind : RelationType) → later s kind ≡ cond (is_active_of s kind row) (Some (end_in row)) (ends s kind))
        → Both table (row_under table (row_key (Item.Relation row)) (Some row)) newer later
    put_relation behind same_holders noted =
        let k = relation_key_in row in
        let indexed = λ (c : List ℕ × RelationType). indexes.by_start c.0 c.1 in
        let only = only_active (row_under table (row_key (Item.Relation row)) (Some row)) behind in
        let marked = λ (c : List ℕ × RelationType). noted c.0 c.1 in
        let own = λ (x : Row) (at : get table.relations k ≡ Some x). sym (same_end _ _ _ _ _ _ (sound.relations_keyed k x at)) in
        record {
          still = record {
            by_key = λ a i key row at passes. same_holders a i ∙ indexes.by_key a i key row at passes;
            by_start = λ s kind. before_put active_pair end_in table.relations k row (λ c. ends c.0 c.1) (λ c. later c.0 c.1) indexed only marked own (s, kind);
          };
          behind = record {
            by_key = λ a i key row at passes. same_holders a i ∙ indexes.by_key a i key row at passes;
            by_start = λ s kind. behind_put active_pair end_in table.relations k row (λ c. ends c.0 c.1) (λ c. later c.0 c.1) indexed only marked (s, kind);
          };
        }

-- ---- the same for cells

module _ (held : Held) (holders newer : Holding) (ends later : Ending) (kept : CanBeKept (rows held)) (indexes : AreIndexes (rows held) holders ends) where
  under : (key own : RowKey) (new : Cell) → cell_key key ≡ cell_key own → rows (insert held (cell_key key) new) ≡ row_under (rows held) own new.row
  under key own new same = ap (λ k. rows (insert held k new)) same ∙ rows-with_cell held own (Some new)

  module _ (key : RowKey) (entry : ℕ) where
    pub both_put : (item : Option Item) → IsItemOf key item → CanBeKept (rows (insert held (cell_key key) (cell_with entry item)))
        → ((a i : List ℕ) → newer a i ≡ holder_after item holders a i) → ((s : List ℕ) (kind : RelationType) → later s kind ≡ end_after item ends s kind)
        → Both (rows held) (rows (insert held (cell_key key) (cell_with entry item))) newer later
    both_put None own behind noted ended = record {
      still = same_indexes (rows held) holders newer ends later kept.sound indexes noted ended;
      behind = subst (λ t. AreIndexes t newer later) (sym (under key key (cell_with entry None) refl)) (same_without (rows held) holders newer ends later kept.sound indexes noted ended key);
    }
    both_put (Some (Item.Record row)) own behind noted ended =
        let is = under key (RowKey.Rec (lei_in row)) (cell_with entry (Some (Item.Record row))) own in
        subst (λ t. Both (rows held) t newer later) (sym is)
        (put_record (rows held) holders newer ends later kept.sound indexes row (subst IsSoundTable is behind.sound) noted ended)
    both_put (Some (Item.Relation row)) own behind noted ended =
        let is = under key (row_key (Item.Relation row)) (cell_with entry (Some (Item.Relation row))) own in
        subst (λ t. Both (rows held) t newer later) (sym is)
        (put_relation (rows held) holders newer ends later kept.sound indexes row (subst IsSoundTable is behind.sound) noted ended)
    both_put (Some (Item.Exception item)) own behind noted ended =
        let is = under key (row_key (Item.Exception item)) (cell_with entry (Some (Item.Exception item))) own in
        let same = same_indexes (rows held) holders newer ends later kept.sound indexes noted ended in
        subst (λ t. Both (rows held) t newer later) (sym is)
        (record { still = same; behind = record { by_key = same.by_key; by_start = same.by_start } })

  pub without : (key : RowKey) → ((a i : List ℕ) → newer a i ≡ holders a i) → ((s : List ℕ) (kind : RelationType) → later s kind ≡ ends s kind)
      → AreIndexes (rows (remove held (cell_key key))) newer later
  without key noted ended =
      subst (λ t. AreIndexes t newer later) (sym (rows-with_cell held key None)) (same_without (rows held) holders newer ends later kept.sound indexes noted ended key)

-- the cells can be kept and the indexes are theirs, whether a cell was put or not
pub parts_put : {X E : Type 0} (result : Result X E) (old new : Held) (holders : Holding) (ends : Ending) (key : KeyTexts) (cell : Cell)
    → OnOk result (new ≡ insert old key cell) → OnErr result (new ≡ old) → CanBeKept (rows old) → CanBeKept (rows (insert old key cell))
    → Both (rows old) (rows (insert old key cell)) holders ends → CanBeKept (rows new) × AreIndexes (rows new) holders ends
parts_put (Ok x) old new holders ends key cell put same kept behind both =
    subst (λ held. CanBeKept (rows held) × AreIndexes (rows held) holders ends) (sym put) (behind, both.behind)
parts_put (Err e) old new holders ends key cell put same kept behind both =
    subst (λ held. CanBeKept (rows held) × AreIndexes (rows held) holders ends) (sym same) (kept, both.still)
