-- Indexes after a key was freed or dropped.
use Rattle.std.specs.Prelude.{◌≡◌, ℕ, ◌+◌, ◌<◌, Bool, true, false, ◌&&◌, cond, List, length, Option, Some, None, find, is_some, option_map}
use Rattle.std.specs.Str.{bytes_eq}
use Rattle.std.proofs.Common.{arith, get_or, refl, subst, sym, ap, ◌∙◌}
use Rattle.std.proofs.lemmas.List.{get_or_default}
use mathlib.Core.Bool.{true≢false}
use Rattle.lei_shapes.specs.declared.lists.RelationType.{RelationType}
use Rattle.lei_shapes.specs.Lists.{relation_type_text}
use Rattle.lei_records.specs.declared.item.Item.{Item}
use Rattle.lei_records.specs.Cells.{holds, lei_in}
use Rattle.lei_records.specs.Relations.{end_in, is_active, is_active_of, is_same_type, kind_in, start_in}
use Rattle.lei_records.specs.Rows.{Row}
use Rattle.lei_records.specs.Tables.{active_of, holder_of, relations_of}
use Rattle.authority_rules.proofs.HolderLemmas.{bytes_same, first_true, second_true, some_apart}
use Rattle.authority_rules.proofs.UnderKeys.{found_none}
use Rattle.register_table.specs.declared.ends.Ends.{Ends}
use Rattle.register_table.specs.declared.authority_key_index.AuthorityKeyIndex.{AuthorityKeyIndex}
use Rattle.register_table.specs.declared.parts.Note.{Note}
use Rattle.register_table.specs.declared.parts.Parts.{Parts}
use Rattle.register_table.specs.Held.{rows}
use Rattle.register_table.specs.Indexes.{Marks, after_dropping, after_freeing, noted_end, noted_holder}
use Rattle.register_table.specs.Parts.{ArePartsOfTable, IsNoteWithin, MarksAreWithin, MarksStay, all_marks, held_by, lei_marks}
use Rattle.register_table.proofs.IndexLemmas.{active-idle, active-own, Noted, dropped_one, freed_stays, one_in}
use Rattle.register_table.proofs.NoteLemmas.{if_weaker}
use Rattle.register_table.proofs.StampLemmas.{by_order}

not_found : {X Y : Type 0} (f : X → Y) (o : Option X) → None ≡ option_map f o → o ≡ None
not_found f None none = refl
not_found f (Some x) none = absurd (some_apart (f x) (sym none))

freed_still : (b : Bool) (o : Noted) → is_some o ≡ true → is_some (cond b (after_freeing o) o) ≡ true
freed_still true o is = freed_stays o is
freed_still false o is = is

dropped_still : (b : Bool) (o : Noted) → one_in (cond b (after_dropping o) o) ≡ one_in o
dropped_still true o = dropped_one o
dropped_still false o = refl

-- ---- what is under one key

free_fewer : (b : Bool) (o : Noted) → is_some (one_in (cond b (after_freeing o) o)) ≡ true → is_some (one_in o) ≡ true
free_fewer true None is = is
free_fewer true (Some x) is = absurd (true≢false (sym is))
free_fewer false o is = is

free_none : (o : Noted) → is_some (one_in (after_freeing o)) ≡ true → ⊥
free_none None is = true≢false (sym is)
free_none (Some x) is = true≢false (sym is)

drop_fewer : (b : Bool) (o : Noted) → is_some (cond b (after_dropping o) o) ≡ true → is_some o ≡ true
drop_fewer true None is = is
drop_fewer true (Some x) is = refl
drop_fewer false o is = is

drop_one : (o : Noted) → is_some (after_dropping o) ≡ true → is_some (one_in (after_dropping o)) ≡ true
drop_one None is = is
drop_one (Some None) is = is
drop_one (Some (Some lei)) is = refl

-- ---- a loop over notes

-- what holds for the notes so far still does, and it holds for the next one
pub each_next : (P Q : Note → Type 0) (notes : List Note) (place : ℕ) (note : Note) → place < length notes → note ≡ get_or notes place note
    → ((n : Note) → P n → Q n) → Q note → ((k : ℕ) (d : Note) → k < place → P (get_or notes k d))
    → (k : ℕ) (d : Note) → k < place + 1 → Q (get_or notes k d)
each_next P Q notes place note inside is still this each k d less =
    by_order k place (Q (get_or notes k d))
    (λ before. still (get_or notes k d) (each k d before))
    (λ from.
    let now : k ≡ place = omega (arith, from, less) in
    let at : get_or notes k d ≡ note = ap (λ i. get_or notes i d) now ∙ (get_or_default notes place d note inside ∙ sym is) in
    subst Q (sym at) this)

within_still : (item : Option Item) (some fewer others more : Marks) → MarksStay fewer some → MarksStay others more → MarksAreWithin some others item → MarksAreWithin fewer more item
within_still None some fewer others more less stays within = tt
within_still (Some (Item.Record row)) some fewer others more less stays within = λ a i held is. stays.by_key a i (within a i held (less.by_key a i is))
within_still (Some (Item.Relation row)) some fewer others more less stays within = λ s k active is. stays.by_start s k (within s k active (less.by_start s k is))
within_still (Some (Item.Exception item)) some fewer others more less stays within = tt

pub note_still : (some fewer others more : Marks) → MarksStay fewer some → MarksStay others more → (note : Note) → IsNoteWithin some others note → IsNoteWithin fewer more note
note_still some fewer others more less stays note within =
    if_weaker (λ s. MarksAreWithin some others s.item) (λ s. MarksAreWithin fewer more s.item) note.slot (λ s. within_still s.item some fewer others more less stays) within

-- the same start and the same type, by their texts
active_same : (start s : List ℕ) (kind k : RelationType) (row : Row) → (bytes_eq start s && is_same_type kind k) ≡ true → is_active_of start kind row ≡ is_active_of s k row
unfolding is_active_of
active_same start s kind k row t =
    let p = bytes_same start s (first_true _ _ t) in
    let q = bytes_same (relation_type_text kind) (relation_type_text k) (second_true _ _ t) in
    λ j. is_active row && (bytes_eq (start_in row) (p j) && bytes_eq (relation_type_text (kind_in row)) (q j))

-- ---- both indexes

module _ (parts : Parts) (are : ArePartsOfTable parts) where
  -- ---- by authority and id

  module _ (newer : AuthorityKeyIndex) (authority id : List ℕ) where
    abbrev after : Parts
    after = record parts { holders = newer }

    module _ (changed : (a i : List ℕ) → noted_holder newer a i ≡ cond (bytes_eq authority a && bytes_eq id i) (after_freeing (noted_holder parts.holders a i)) (noted_holder parts.holders a i)) where
      -- a key that nobody holds was freed
      pub freed_key : None ≡ holder_of (rows parts.cells) authority id → ArePartsOfTable after
      freed_key none = record {
        kept = are.kept;
        indexes = record {
          by_key = λ a i key row at passes.
              let o = noted_holder parts.holders a i in
              ap one_in (changed a i)
              ∙ elim (bytes_eq authority a && bytes_eq id i) as (λ b. (bytes_eq authority a && bytes_eq id i) ≡ b → one_in (cond b (after_freeing o) o) ≡ Some (lei_in row)) [
                | true ↦ λ t.
                    let p = bytes_same authority a (first_true _ _ t) in
                    let q = bytes_same id i (second_true _ _ t) in
                    absurd (found_none (rows parts.cells).records (holds authority id) key row (not_found lei_in _ none) at ((λ j. holds (p j) (q j) row) ∙ passes))
                | false ↦ λ _. are.indexes.by_key a i key row at passes
              ] refl;
          by_start = are.indexes.by_start;
        };
      }

      pub freed_key_stays : MarksStay (all_marks parts) (all_marks after)
      freed_key_stays = record {
        by_key = λ a i is. ap is_some (changed a i) ∙ freed_still (bytes_eq authority a && bytes_eq id i) (noted_holder parts.holders a i) is;
        by_start = λ s kind is. is;
      }

      pub freed_key_fewer : MarksStay (lei_marks after) (lei_marks parts)
      freed_key_fewer = record {
        by_key = λ a i is. free_fewer (bytes_eq authority a && bytes_eq id i) (noted_holder parts.holders a i) (sym (ap (λ n. is_some (one_in n)) (changed a i)) ∙ is);
        by_start = λ s kind is. is;
      }

      pub freed_key_left : (row : Row) → ((a i : List ℕ) → holds a i row ≡ (bytes_eq authority a && bytes_eq id i)) → MarksAreWithin (lei_marks after) (held_by (rows parts.cells)) (Some (Item.Record row))
      freed_key_left row own a i held is =
          let o = noted_holder parts.holders a i in
          absurd (free_none o (sym (ap (λ n. is_some (one_in n)) (changed a i ∙ ap (λ b. cond b (after_freeing o) o) (sym (own a i) ∙ held))) ∙ is))

    module _ (changed : (a i : List ℕ) → noted_holder newer a i ≡ cond (bytes_eq authority a && bytes_eq id i) (after_dropping (noted_holder parts.holders a i)) (noted_holder parts.holders a i)) where
      same_key : (a i : List ℕ) → one_in (noted_holder newer a i) ≡ one_in (noted_holder parts.holders a i)
      same_key a i = ap one_in (changed a i) ∙ dropped_still (bytes_eq authority a && bytes_eq id i) (noted_holder parts.holders a i)

      -- a key that had no LEI was dropped
      pub dropped_key : ArePartsOfTable after
      dropped_key = record {
        kept = are.kept;
        indexes = record { by_key = λ a i key row at passes. same_key a i ∙ are.indexes.by_key a i key row at passes; by_start = are.indexes.by_start };
      }

      pub dropped_key_stays : MarksStay (lei_marks parts) (lei_marks after)
      dropped_key_stays = record { by_key = λ a i is. ap is_some (same_key a i) ∙ is; by_start = λ s kind is. is }

      pub dropped_key_fewer : MarksStay (all_marks after) (all_marks parts)
      dropped_key_fewer = record {
        by_key = λ a i is. drop_fewer (bytes_eq authority a && bytes_eq id i) (noted_holder parts.holders a i) (sym (ap is_some (changed a i)) ∙ is);
        by_start = λ s kind is. is;
      }

      pub dropped_key_left : (row : Row) → ((a i : List ℕ) → holds a i row ≡ (bytes_eq authority a && bytes_eq id i)) → MarksAreWithin (all_marks after) (lei_marks after) (Some (Item.Record row))
      dropped_key_left row own a i held is =
          let o = noted_holder parts.holders a i in
          let now : noted_holder newer a i ≡ after_dropping o = changed a i ∙ ap (λ b. cond b (after_dropping o) o) (sym (own a i) ∙ held) in
          ap (λ n. is_some (one_in n)) now ∙ drop_one o (sym (ap is_some now) ∙ is)

  -- a key that somebody holds
  pub held_key_left : (authority id : List ℕ) (row : Row) → ((a i : List ℕ) → holds a i row ≡ (bytes_eq authority a && bytes_eq id i))
      → is_some (holder_of (rows parts.cells) authority id) ≡ true → MarksAreWithin (lei_marks parts) (held_by (rows parts.cells)) (Some (Item.Record row))
  held_key_left authority id row own some a i held is =
      let t = sym (own a i) ∙ held in
      let p = bytes_same authority a (first_true _ _ t) in
      let q = bytes_same id i (second_true _ _ t) in
      (λ j. is_some (holder_of (rows parts.cells) (sym p j) (sym q j))) ∙ some

  -- ---- by start and type

  module _ (later : Ends) (start : List ℕ) (kind : RelationType) where
    abbrev behind : Parts
    behind = record parts { ends = later }

    module _ (changed : (s : List ℕ) (k : RelationType) → noted_end later s k ≡ cond (bytes_eq start s && is_same_type kind k) (after_freeing (noted_end parts.ends s k)) (noted_end parts.ends s k)) where
      -- a start and a type that have no active relationship were freed
      pub freed_start : None ≡ active_of (rows parts.cells) start kind → ArePartsOfTable behind
      freed_start none = record {
        kept = are.kept;
        indexes = record {
          by_key = are.indexes.by_key;
          by_start = λ s k key row at passes.
              let o = noted_end parts.ends s k in
              ap one_in (changed s k)
              ∙ elim (bytes_eq start s && is_same_type kind k) as (λ b. (bytes_eq start s && is_same_type kind k) ≡ b → one_in (cond b (after_freeing o) o) ≡ Some (end_in row)) [
                | true ↦ λ t. absurd (found_none (rows parts.cells).relations (is_active_of start kind) key row (not_found end_in _ none) at (active_same start s kind k row t ∙ passes))
                | false ↦ λ _. are.indexes.by_start s k key row at passes
              ] refl;
        };
      }

      pub freed_start_stays : MarksStay (all_marks parts) (all_marks behind)
      freed_start_stays = record {
        by_key = λ a i is. is;
        by_start = λ s k is. ap is_some (changed s k) ∙ freed_still (bytes_eq start s && is_same_type kind k) (noted_end parts.ends s k) is;
      }

      pub freed_start_fewer : MarksStay (lei_marks behind) (lei_marks parts)
      freed_start_fewer = record {
        by_key = λ a i is. is;
        by_start = λ s k is. free_fewer (bytes_eq start s && is_same_type kind k) (noted_end parts.ends s k) (sym (ap (λ n. is_some (one_in n)) (changed s k)) ∙ is);
      }

      pub freed_start_left : (row : Row) → ((s : List ℕ) (k : RelationType) → is_active_of s k row ≡ (bytes_eq start s && is_same_type kind k))
          → MarksAreWithin (lei_marks behind) (held_by (rows parts.cells)) (Some (Item.Relation row))
      freed_start_left row own s k active is =
          let o = noted_end parts.ends s k in
          absurd (free_none o (sym (ap (λ n. is_some (one_in n)) (changed s k ∙ ap (λ b. cond b (after_freeing o) o) (sym (own s k) ∙ active))) ∙ is))

    module _ (changed : (s : List ℕ) (k : RelationType) → noted_end later s k ≡ cond (bytes_eq start s && is_same_type kind k) (after_dropping (noted_end parts.ends s k)) (noted_end parts.ends s k)) where
      same_start : (s : List ℕ) (k : RelationType) → one_in (noted_end later s k) ≡ one_in (noted_end parts.ends s k)
      same_start s k = ap one_in (changed s k) ∙ dropped_still (bytes_eq start s && is_same_type kind k) (noted_end parts.ends s k)

      -- a start and a type that had no end were dropped
      pub dropped_start : ArePartsOfTable behind
      dropped_start = record {
        kept = are.kept;
        indexes = record { by_key = are.indexes.by_key; by_start = λ s k key row at passes. same_start s k ∙ are.indexes.by_start s k key row at passes };
      }

      pub dropped_start_stays : MarksStay (lei_marks parts) (lei_marks behind)
      dropped_start_stays = record { by_key = λ a i is. is; by_start = λ s k is. ap is_some (same_start s k) ∙ is }

      pub dropped_start_fewer : MarksStay (all_marks behind) (all_marks parts)
      dropped_start_fewer = record {
        by_key = λ a i is. is;
        by_start = λ s k is. drop_fewer (bytes_eq start s && is_same_type kind k) (noted_end parts.ends s k) (sym (ap is_some (changed s k)) ∙ is);
      }

      pub dropped_start_left : (row : Row) → ((s : List ℕ) (k : RelationType) → is_active_of s k row ≡ (bytes_eq start s && is_same_type kind k))
          → MarksAreWithin (all_marks behind) (lei_marks behind) (Some (Item.Relation row))
      dropped_start_left row own s k active is =
          let o = noted_end parts.ends s k in
          let now : noted_end later s k ≡ after_dropping o = changed s k ∙ ap (λ b. cond b (after_dropping o) o) (sym (own s k) ∙ active) in
          ap (λ n. is_some (one_in n)) now ∙ drop_one o (sym (ap is_some now) ∙ is)

-- the start and the type of an active relationship
pub own_start : (row : Row) (start : List ℕ) (kind : RelationType) → start ≡ start_in row → kind ≡ kind_in row → is_active row ≡ true
    → (s : List ℕ) (k : RelationType) → is_active_of s k row ≡ (bytes_eq start s && is_same_type kind k)
own_start row start kind starts kinds active s k =
    active-own row s k active ∙ (λ j. bytes_eq (sym starts j) s && bytes_eq (relation_type_text (sym kinds j)) (relation_type_text k))

-- a start and a type that have an active relationship
pub active_start_left : (parts : Parts) (start : List ℕ) (kind : RelationType) (row : Row) → ((s : List ℕ) (k : RelationType) → is_active_of s k row ≡ (bytes_eq start s && is_same_type kind k))
    → is_some (active_of (rows parts.cells) start kind) ≡ true → MarksAreWithin (lei_marks parts) (held_by (rows parts.cells)) (Some (Item.Relation row))
active_start_left parts start kind row own some s k active is =
    let same : is_active_of start kind ≡ is_active_of s k = λ j r. active_same start s kind k r (sym (own s k) ∙ active) j in
    sym (ap (λ test. is_some (option_map end_in (find test (relations_of (rows parts.cells))))) same) ∙ some

-- a record that holds no key, and a relationship that isn't active
pub no_key : (some others : Marks) (row : Row) → ((a i : List ℕ) → holds a i row ≡ false) → MarksAreWithin some others (Some (Item.Record row))
no_key some others row never a i held is = absurd (true≢false (sym held ∙ never a i))

pub no_start : (some others : Marks) (row : Row) → is_active row ≡ false → MarksAreWithin some others (Some (Item.Relation row))
no_start some others row idle s k active is = absurd (true≢false (sym active ∙ active-idle row s k idle))
