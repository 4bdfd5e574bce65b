-- Indexes after an LEI was put under a key that nobody holds.
use Rattle.std.specs.Prelude.{◌≡◌, ℕ, zero, suc, ◌<◌, Bool, true, false, ◌&&◌, cond, List, [], ◌∷◌, get_or, length, map, Option, Some, None, IfSome, is_some}
use Rattle.std.specs.List.{AllByRecursion}
use Rattle.std.specs.Str.{bytes_eq}
use Rattle.std.proofs.Common.{arith, refl, subst, sym, ap, ◌∙◌}
use mathlib.Core.Bool.{true≢false}
use Rattle.lei_shapes.specs.declared.lists.RelationType.{RelationType}
use Rattle.lei_shapes.specs.Lists.{relation_type_text}
use Rattle.lei_records.specs.declared.item.Item.{Item}
use Rattle.lei_records.specs.Cells.{holds, lei_in}
use Rattle.lei_records.specs.Relations.{end_in, is_active_of, is_same_type}
use Rattle.lei_records.specs.Rows.{Row}
use Rattle.authority_rules.proofs.HolderLemmas.{bytes_same, first_true, second_true, some_apart}
use Rattle.register_table.specs.declared.ends.Ends.{Ends}
use Rattle.register_table.specs.declared.authority_key_index.AuthorityKeyIndex.{AuthorityKeyIndex}
use Rattle.register_table.specs.declared.parts.Note.{Note}
use Rattle.register_table.specs.declared.parts.Parts.{Parts}
use Rattle.register_table.specs.Held.{Held}
use Rattle.register_table.specs.Indexes.{HasNewEnd, HoldsNewKey, Marks, end_in_index, end_under, holder_in}
use Rattle.register_table.proofs.IndexLemmas.{one_in}
use Rattle.register_table.specs.Parts.{ArePartsOfTable, AreUndoable, CanBeUndone, IsMarked, MarksStay, NotesCell, all_marks, lei_marks, note_cell}
use Rattle.register_table.proofs.NoteLemmas.{each-still}

-- ---- each member of a list

pub all_at : {X : Type 0} (P : X → Type 0) (xs : List X) (place : ℕ) (d : X) → AllByRecursion P xs → place < length xs → P (get_or xs place d)
all_at P [] place d all inside = absurd (omega (arith, inside))
all_at P (x ∷ xs) zero d all inside = all.0
all_at P (x ∷ xs) (suc place) d all inside = all_at P xs place d all.1 (omega (arith, inside))

pub all_each : {X : Type 0} (P : X → Type 0) (xs : List X) → ((place : ℕ) (d : X) → place < length xs → P (get_or xs place d)) → AllByRecursion P xs
all_each P [] each = tt
all_each P (x ∷ xs) each = (each zero x (omega arith), all_each P xs (λ place d inside. each (suc place) d (omega (arith, inside))))

-- ---- notes that may be there

module _ {V : Type 0} (last : Option V) (items : V → List Note) (notes : List Note) where
  pub all_last : (before after : Marks) (held : Held) → (IfSome last (λ v. notes ≡ items v)) → (last ≡ None → notes ≡ []) → MarksStay before after
      → IfSome last (λ v. CanBeUndone before (items v) held) → AllByRecursion (NotesCell after) notes
  all_last before after held some none stays can = of last some none can
    where
      of : (o : Option V) → IfSome o (λ v. notes ≡ items v) → (o ≡ None → notes ≡ []) → IfSome o (λ v. CanBeUndone before (items v) held) → AllByRecursion (NotesCell after) notes
      of None some none can = subst (AllByRecursion (NotesCell after)) (sym (none refl)) tt
      of (Some v) some none can = subst (AllByRecursion (NotesCell after)) (sym some) (each-still (items v) before after stays can.each)

  pub can_again : (before after : Marks) (old new : Held) → (IfSome last (λ v. notes ≡ items v)) → AllByRecursion (NotesCell after) notes → new ≡ old
      → IfSome last (λ v. CanBeUndone before (items v) old) → IfSome last (λ v. CanBeUndone after (items v) new)
  can_again before after old new some each same can = of last some can
    where
      of : (o : Option V) → IfSome o (λ v. notes ≡ items v) → IfSome o (λ v. CanBeUndone before (items v) old) → IfSome o (λ v. CanBeUndone after (items v) new)
      of None some can = tt
      of (Some v) some can = record {
        each = subst (AllByRecursion (NotesCell after)) some each;
        kept = subst (AreUndoable (map note_cell (items v))) (sym same) can.kept;
      }

-- ---- under one key

held_still : (b : Bool) (x : List ℕ) (o : Option (List ℕ)) (y : List ℕ) → (b ≡ true → o ≡ None) → o ≡ Some y → cond b (Some x) o ≡ Some y
held_still true x o y none is = absurd (some_apart y (sym is ∙ none refl))
held_still false x o y none is = is

some_still : (b : Bool) (x : List ℕ) (o : Option (List ℕ)) → is_some o ≡ true → is_some (cond b (Some x) o) ≡ true
some_still true x o is = refl
some_still false x o is = is

module _ (parts : Parts) where
  -- ---- by authority and id

  -- a key of a record that the index has isn't new
  pub has_place : (row : Row) → IsMarked (all_marks parts) (Some (Item.Record row)) → HoldsNewKey row parts.holders → ⊥
  has_place row marked new = true≢false (sym (marked new.authority new.id new.held) ∙ ap is_some new.none)

  module _ (authority id : List ℕ) (row : Row) (own : (a i : List ℕ) → holds a i row ≡ (bytes_eq authority a && bytes_eq id i)) where
    own_key : (a i : List ℕ) → holds a i row ≡ true → holder_in parts.holders a i ≡ holder_in parts.holders authority id
    own_key a i held =
        let t = sym (own a i) ∙ held in
        let p = bytes_same authority a (first_true _ _ t) in
        let q = bytes_same id i (second_true _ _ t) in
        λ j. holder_in parts.holders (sym p j) (sym q j)

    -- the key has an LEI
    pub key_taken : is_some (holder_in parts.holders authority id) ≡ true → IsMarked (lei_marks parts) (Some (Item.Record row))
    key_taken some a i held = ap is_some (own_key a i held) ∙ some

    module _ (are : ArePartsOfTable parts) (newer : AuthorityKeyIndex) (none : holder_in parts.holders authority id ≡ None)
        (put : (a i : List ℕ) → holder_in newer a i ≡ cond (holds a i row) (Some (lei_in row)) (holder_in parts.holders a i)) where
      abbrev after : Parts
      after = record parts { holders = newer }

      pub held_key : ArePartsOfTable after
      held_key = record {
        kept = are.kept;
        indexes = record {
          by_key = λ a i key other at passes.
              put a i ∙ held_still (holds a i row) (lei_in row) (holder_in parts.holders a i) (lei_in other)
              (λ held. own_key a i held ∙ none) (are.indexes.by_key a i key other at passes);
          by_start = are.indexes.by_start;
        };
      }

      pub held_key_taken : MarksStay (lei_marks parts) (lei_marks after)
      held_key_taken = record {
        by_key = λ a i is. ap is_some (put a i) ∙ some_still (holds a i row) (lei_in row) (holder_in parts.holders a i) is;
        by_start = λ s kind is. is;
      }

      pub held_key_marked : IsMarked (lei_marks after) (Some (Item.Record row))
      held_key_marked a i held = ap is_some (put a i ∙ ap (λ b. cond b (Some (lei_in row)) (holder_in parts.holders a i)) held)

  -- ---- by start and type

  -- a start and a type that the index has aren't new
  pub has_start : (row : Row) → IsMarked (all_marks parts) (Some (Item.Relation row)) → HasNewEnd row parts.ends → ⊥
  has_start row marked new = true≢false (sym (marked new.start new.kind new.active) ∙ ap is_some new.none)

  module _ (start : List ℕ) (kind : RelationType) (row : Row) (own : (s : List ℕ) (k : RelationType) → is_active_of s k row ≡ (bytes_eq start s && is_same_type kind k)) where
    own_start : (s : List ℕ) (k : RelationType) → is_active_of s k row ≡ true → end_in_index parts.ends s k ≡ end_in_index parts.ends start kind
    own_start s k active =
        let t = sym (own s k) ∙ active in
        let p = bytes_same start s (first_true _ _ t) in
        let q = bytes_same (relation_type_text kind) (relation_type_text k) (second_true _ _ t) in
        λ j. one_in (end_under parts.ends.map (sym p j) (sym q j))

    -- the start and the type have an end
    pub start_taken : is_some (end_in_index parts.ends start kind) ≡ true → IsMarked (lei_marks parts) (Some (Item.Relation row))
    start_taken some s k active = ap is_some (own_start s k active) ∙ some

    module _ (are : ArePartsOfTable parts) (later : Ends) (none : end_in_index parts.ends start kind ≡ None)
        (put : (s : List ℕ) (k : RelationType) → end_in_index later s k ≡ cond (is_active_of s k row) (Some (end_in row)) (end_in_index parts.ends s k)) where
      abbrev behind : Parts
      behind = record parts { ends = later }

      pub held_start : ArePartsOfTable behind
      held_start = record {
        kept = are.kept;
        indexes = record {
          by_key = are.indexes.by_key;
          by_start = λ s k key other at passes.
              put s k ∙ held_still (is_active_of s k row) (end_in row) (end_in_index parts.ends s k) (end_in other)
              (λ active. own_start s k active ∙ none) (are.indexes.by_start s k key other at passes);
        };
      }

      pub held_start_taken : MarksStay (lei_marks parts) (lei_marks behind)
      held_start_taken = record {
        by_key = λ a i is. is;
        by_start = λ s k is. ap is_some (put s k) ∙ some_still (is_active_of s k row) (end_in row) (end_in_index parts.ends s k) is;
      }

      pub held_start_marked : IsMarked (lei_marks behind) (Some (Item.Relation row))
      held_start_marked s k active = ap is_some (put s k ∙ ap (λ b. cond b (Some (end_in row)) (end_in_index parts.ends s k)) active)
