-- The active relationships of a table: which of them an item meets, and what putting the item changes.
use Rattle.std.specs.Prelude.{◌≡◌, ℕ, List, [], ◌∷◌, Bool, true, false, not, cond, find, Option, Some, None, option_map}
use Rattle.std.specs.FinMap.{get, get-insert}
use Rattle.std.specs.Ordering.{eq_by_cmp}
use Rattle.std.specs.Str.{bytes_eq}
use Rattle.std.proofs.Common.{refl, sym, ap, ◌∙◌, get_or}
use Rattle.std.proofs.lemmas.Bool.{and_from, and_parts, both_ways, false_from_ne_true, not-true}
use Rattle.std.proofs.lemmas.Slice.Eq.{bytes_eq-Decides}
use Rattle.lei_shapes.specs.declared.lists.RelationType.{RelationType}
use Rattle.lei_shapes.specs.Lists.{relation_type_text}
use Rattle.lei_records.specs.declared.item.Item.{Item}
use Rattle.lei_records.specs.Relations.{end_in, is_active, is_active_of, kind_in, start_in}
use Rattle.lei_records.specs.Rows.{Row}
use Rattle.lei_records.specs.Tables.{AreRelationsKeyed, HasActives, KeyTexts, Table, active_of, key_cmp, put, relation_key_in, relations_of}
use Rattle.authority_rules.proofs.MapLemmas.{find-values}
use Rattle.authority_rules.proofs.HolderLemmas.{bytes_same, keys_total, same_key}
use Rattle.authority_rules.proofs.KeyLemmas.{key_itself}
use Rattle.authority_rules.proofs.PutLemmas.{other_than}
use Rattle.authority_rules.proofs.UnderKeys.{found_none, inserted, none_found, only_found}
use Rattle.relation_rules.specs.Checks.{is_from, is_in_the_way, other_end}

-- ---- active relationships of a start and a type

-- The relationship is active, and has this start and the text of this type.
pub record ActiveOf (start : List ℕ) (kind : RelationType) (row : Row) : Type 0 where
  pub active : is_active row ≡ true
  pub starts : start_in row ≡ start
  pub types : relation_type_text (kind_in row) ≡ relation_type_text kind

pub opened : (start : List ℕ) (kind : RelationType) (row : Row) → is_active_of start kind row ≡ true → ActiveOf start kind row
unfolding is_active_of
opened start kind row is =
    let parts = and_parts (is_active row) _ is in
    let others = and_parts (bytes_eq (start_in row) start) _ parts.1 in
    record {
      active = parts.0;
      starts = bytes_same (start_in row) start others.0;
      types = bytes_same (relation_type_text (kind_in row)) (relation_type_text kind) others.1;
    }

pub same_bytes : (a b : List ℕ) → a ≡ b → bytes_eq a b ≡ true
same_bytes a b same = (bytes_eq-Decides a b).1 same

pub closed : (start : List ℕ) (kind : RelationType) (row : Row) → ActiveOf start kind row → is_active_of start kind row ≡ true
unfolding is_active_of
closed start kind row a =
    and_from _ _ a.active
    (and_from _ _ (same_bytes (start_in row) start a.starts) (same_bytes (relation_type_text (kind_in row)) (relation_type_text kind) a.types))

-- if two rows are active for one start and type, each is active for the other's
of_one : (start : List ℕ) (kind : RelationType) (a b : Row) → ActiveOf start kind a → ActiveOf start kind b → ActiveOf (start_in a) (kind_in a) b
of_one start kind a b first second = record {
  active = second.active;
  starts = second.starts ∙ sym first.starts;
  types = second.types ∙ sym first.types;
}

-- and if they have the same end, they have the same key
same_keys : (start : List ℕ) (kind : RelationType) (a b : Row) → ActiveOf start kind a → ActiveOf start kind b → end_in a ≡ end_in b → relation_key_in a ≡ relation_key_in b
same_keys start kind a b first second ends =
    let starts : start_in a ≡ start_in b = first.starts ∙ sym second.starts in
    let types : relation_type_text (kind_in a) ≡ relation_type_text (kind_in b) = first.types ∙ sym second.types in
    λ i. starts i ∷ types i ∷ ends i ∷ []

-- ---- the end that conflicts with an item, over all rows and by the cell of its start and type

abbrev active_row : Table → List ℕ → RelationType → Option Row
active_row table start kind = find (is_active_of start kind) (relations_of table)

other_by : (table : Table) (item : Row) → HasActives table → (found : Option Row) → active_row table (start_in item) (kind_in item) ≡ found
    → other_than (end_in item) (option_map end_in found) ≡ other_end table item
other_by table item actives None is =
    ap (option_map end_in) (sym (none_found table.relations (is_in_the_way item) (λ key row at passes.
    found_none table.relations (is_active_of (start_in item) (kind_in item)) key row is at (and_parts _ _ passes).0)))
other_by table item actives (Some row) is =
    let hit = find-values keys_total table.relations (is_active_of (start_in item) (kind_in item)) row is in
    let only : (key : KeyTexts) (other : Row) → get table.relations key ≡ Some other → is_in_the_way item other ≡ true → key ≡ hit.0 =
    λ key other at passes. actives (start_in item) (kind_in item) key hit.0 other row at hit.1 (and_parts _ _ passes).0 hit.2 in
    elim (bytes_eq (end_in row) (end_in item)) as (λ b. bytes_eq (end_in row) (end_in item) ≡ b → cond b None (Some (end_in row)) ≡ other_end table item) [
      | true ↦ λ t. ap (option_map end_in) (sym (none_found table.relations (is_in_the_way item) (λ key other at passes.
          let same : Some other ≡ Some row = sym at ∙ (ap (get table.relations) (only key other at passes) ∙ hit.1) in
          let is_row : other ≡ row = cc in
          let differs : bytes_eq (end_in other) (end_in item) ≡ false = not-true _ (and_parts _ _ passes).1 in
          both_ways _ (ap (λ r. bytes_eq (end_in r) (end_in item)) (sym is_row) ∙ differs) t)))
      | false ↦ λ t.
          let passes : is_in_the_way item row ≡ true = and_from _ _ hit.2 (ap not t) in
          ap (option_map end_in) (sym (only_found table.relations (is_in_the_way item) hit.0 row hit.1 passes only))
    ] refl

pub other_end-is : (table : Table) (item : Row) → HasActives table
    → other_than (end_in item) (active_of table (start_in item) (kind_in item)) ≡ other_end table item
other_end-is table item actives = other_by table item actives (active_row table (start_in item) (kind_in item)) refl

-- ---- a relationship that is put

abbrev pub with_relation : Table → Row → Table
with_relation table row = put table (Item.Relation row)

pub get-with_relation : (table : Table) (row : Row) (key : KeyTexts)
    → get (with_relation table row).relations key ≡ cond (eq_by_cmp key_cmp key (relation_key_in row)) (Some row) (get table.relations key)
get-with_relation table row key = get-insert keys_total table.relations (relation_key_in row) row key

-- a row of the new table is the one that was put, or was already there under another key
pub split : (table : Table) (row : Row) (key : KeyTexts) (other : Row) (P : Type 0) → get (with_relation table row).relations key ≡ Some other
    → (key ≡ relation_key_in row → row ≡ other → P)
    → (eq_by_cmp key_cmp key (relation_key_in row) ≡ false → get table.relations key ≡ Some other → P) → P
split table row key other P at here there = inserted table.relations (relation_key_in row) row key other P at here there

-- no active relationship conflicts with an active row
abbrev pub IsFitting : Table → Row → Type 0
IsFitting table row = is_active row ≡ true → find (is_in_the_way row) (relations_of table) ≡ None

-- if the row is active for a start and a type, every other such row of the table has its key
alone : (table : Table) (row : Row) (start : List ℕ) (kind : RelationType) (key : KeyTexts) (other : Row) → AreRelationsKeyed table → IsFitting table row
    → is_active_of start kind row ≡ true → get table.relations key ≡ Some other → is_active_of start kind other ≡ true → key ≡ relation_key_in row
alone table row start kind key other keyed fits own at passes =
    let first : ActiveOf start kind row = opened start kind row own in
    let second : ActiveOf start kind other = opened start kind other passes in
    elim (bytes_eq (end_in other) (end_in row)) as (λ b. bytes_eq (end_in other) (end_in row) ≡ b → key ≡ relation_key_in row) [
      | true ↦ λ t. keyed key other at ∙ same_keys start kind other row second first (bytes_same (end_in other) (end_in row) t)
      | false ↦ λ t.
          let of_it : is_active_of (start_in row) (kind_in row) other ≡ true = closed (start_in row) (kind_in row) other (of_one start kind row other first second) in
          absurd (found_none table.relations (is_in_the_way row) key other (fits first.active) at (and_from _ _ of_it (ap not t)))
    ] refl

pub HasActives-put : (table : Table) (row : Row) → AreRelationsKeyed table → HasActives table → IsFitting table row → HasActives (with_relation table row)
HasActives-put table row keyed actives fits start kind a b first second at_a at_b is_a is_b =
    split table row a first (a ≡ b) at_a
    (λ own_a same_a. split table row b second (a ≡ b) at_b
    (λ own_b same_b. own_a ∙ sym own_b)
    (λ other_b was_b.
    let own : is_active_of start kind row ≡ true = ap (is_active_of start kind) same_a ∙ is_a in
    own_a ∙ sym (alone table row start kind b second keyed fits own was_b is_b)))
    (λ other_a was_a. split table row b second (a ≡ b) at_b
    (λ own_b same_b.
    let own : is_active_of start kind row ≡ true = ap (is_active_of start kind) same_b ∙ is_b in
    alone table row start kind a first keyed fits own was_a is_a ∙ sym own_b)
    (λ other_b was_b. actives start kind a b first second was_a was_b is_a is_b))

-- ---- the end of the active relationship of a start and a type afterwards

apart : (key own : KeyTexts) → (key ≡ own → ⊥) → eq_by_cmp key_cmp key own ≡ false
apart key own never = false_from_ne_true (eq_by_cmp key_cmp key own) (λ t. never (same_key key own t))

-- a row under another key is unchanged
stays : (table : Table) (row : Row) (key : KeyTexts) (other : Row) → (key ≡ relation_key_in row → ⊥) → get table.relations key ≡ Some other
    → get (with_relation table row).relations key ≡ Some other
stays table row key other never at =
    get-with_relation table row key
    ∙ (ap (λ b. cond b (Some row) (get table.relations key)) (apart key (relation_key_in row) never) ∙ at)

starts_alike : (a b : Row) → relation_key_in a ≡ relation_key_in b → start_in a ≡ start_in b
starts_alike a b same = ap (λ key. get_or key 0 []) same

types_alike : (a b : Row) → relation_key_in a ≡ relation_key_in b → relation_type_text (kind_in a) ≡ relation_type_text (kind_in b)
types_alike a b same = ap (λ key. get_or key 1 []) same

ends_alike : (a b : Row) → relation_key_in a ≡ relation_key_in b → end_in a ≡ end_in b
ends_alike a b same = ap (λ key. get_or key 2 []) same

-- what is held for the start and the type, if the row is put and isn't active for them: its own end is no longer held
abbrev pub left_of : List ℕ → RelationType → Row → Option (List ℕ) → Option (List ℕ)
left_of start kind row held = cond (is_from start kind row) (other_than (end_in row) held) held

module _ (table : Table) (row : Row) (start : List ℕ) (kind : RelationType) (keyed : AreRelationsKeyed table) (actives : HasActives table) (fits : IsFitting table row) (not_own : is_active_of start kind row ≡ false) where
  -- each row that is active for them was there before
  before : (key : KeyTexts) (other : Row) → get (with_relation table row).relations key ≡ Some other → is_active_of start kind other ≡ true
      → (eq_by_cmp key_cmp key (relation_key_in row) ≡ false) × (get table.relations key ≡ Some other)
  before key other at passes =
      split table row key other ((eq_by_cmp key_cmp key (relation_key_in row) ≡ false) × (get table.relations key ≡ Some other)) at
      (λ own same. absurd (both_ways _ (ap (is_active_of start kind) (sym same) ∙ not_own) passes))
      (λ apart was. (apart, was))

  none_left : active_row table start kind ≡ None → active_row (with_relation table row) start kind ≡ None
  none_left is = none_found (with_relation table row).relations (is_active_of start kind) (λ key other at passes.
      found_none table.relations (is_active_of start kind) key other is (before key other at passes).1 passes)

  module _ (was : Row) (is : active_row table start kind ≡ Some was) where
    -- a row that keeps its place is found as before
    kept : (relation_key_in was ≡ relation_key_in row → ⊥) → active_row (with_relation table row) start kind ≡ Some was
    kept never =
        let hit = find-values keys_total table.relations (is_active_of start kind) was is in
        let own_key : hit.0 ≡ relation_key_in was = keyed hit.0 was hit.1 in
        only_found (with_relation table row).relations (is_active_of start kind) hit.0 was
        (stays table row hit.0 was (λ same. never (sym own_key ∙ same)) hit.1) hit.2
        (λ key other at passes. actives start kind key hit.0 other was (before key other at passes).1 hit.1 passes hit.2)

    -- a row whose place was taken is no longer there, and it was the only one
    gone : relation_key_in was ≡ relation_key_in row → active_row (with_relation table row) start kind ≡ None
    gone same =
        let hit = find-values keys_total table.relations (is_active_of start kind) was is in
        let own_key : hit.0 ≡ relation_key_in was = keyed hit.0 was hit.1 in
        none_found (with_relation table row).relations (is_active_of start kind) (λ key other at passes.
        let old = before key other at passes in
        let one : key ≡ hit.0 = actives start kind key hit.0 other was old.1 hit.1 passes hit.2 in
        let key_is : key ≡ relation_key_in row = one ∙ (own_key ∙ same) in
        let tied : eq_by_cmp key_cmp key (relation_key_in row) ≡ true = ap (λ k. eq_by_cmp key_cmp k (relation_key_in row)) key_is ∙ key_itself (relation_key_in row) in
        both_ways _ old.0 tied)

pub either_way : (b : Bool) (held : Option (List ℕ)) → held ≡ cond b held held
either_way true held = refl
either_way false held = refl

-- the row has the start and the type if one of them has its key
key_of_them : (start : List ℕ) (kind : RelationType) (row was : Row) → ActiveOf start kind was → relation_key_in was ≡ relation_key_in row → is_from start kind row ≡ true
key_of_them start kind row was a same =
    and_from _ _ (same_bytes (start_in row) start (sym (starts_alike was row same) ∙ a.starts))
    (same_bytes (relation_type_text (kind_in row)) (relation_type_text kind) (sym (types_alike was row same) ∙ a.types))

-- and one of them has its key if the row has the start, the type and its end
them_of_key : (start : List ℕ) (kind : RelationType) (row was : Row) → ActiveOf start kind was → is_from start kind row ≡ true → end_in was ≡ end_in row
    → relation_key_in was ≡ relation_key_in row
them_of_key start kind row was a of_it ends =
    let parts = and_parts (bytes_eq (start_in row) start) _ of_it in
    let starts : start_in was ≡ start_in row = a.starts ∙ sym (bytes_same (start_in row) start parts.0) in
    let types : relation_type_text (kind_in was) ≡ relation_type_text (kind_in row) =
    a.types ∙ sym (bytes_same (relation_type_text (kind_in row)) (relation_type_text kind) parts.1) in
    λ i. starts i ∷ types i ∷ ends i ∷ []

module _ (table : Table) (row : Row) (start : List ℕ) (kind : RelationType) (keyed : AreRelationsKeyed table) (actives : HasActives table) (fits : IsFitting table row) where
  some_left : is_active_of start kind row ≡ false → (was : Row) → active_row table start kind ≡ Some was
      → option_map end_in (active_row (with_relation table row) start kind) ≡ left_of start kind row (Some (end_in was))
  some_left not_own was is =
      let hit = find-values keys_total table.relations (is_active_of start kind) was is in
      let a : ActiveOf start kind was = opened start kind was hit.2 in
      elim (is_from start kind row) as (λ b. is_from start kind row ≡ b
      → option_map end_in (active_row (with_relation table row) start kind) ≡ cond b (cond (bytes_eq (end_in was) (end_in row)) None (Some (end_in was))) (Some (end_in was))) [
        | false ↦ λ f. ap (option_map end_in) (kept table row start kind keyed actives fits not_own was is (λ same.
            both_ways _ f (key_of_them start kind row was a same)))
        | true ↦ λ t. elim (bytes_eq (end_in was) (end_in row)) as (λ b. bytes_eq (end_in was) (end_in row) ≡ b
            → option_map end_in (active_row (with_relation table row) start kind) ≡ cond b None (Some (end_in was))) [
              | true ↦ λ same. ap (option_map end_in) (gone table row start kind keyed actives fits not_own was is
                  (them_of_key start kind row was a t (bytes_same (end_in was) (end_in row) same)))
              | false ↦ λ other. ap (option_map end_in) (kept table row start kind keyed actives fits not_own was is (λ same.
                  both_ways _ other (same_bytes (end_in was) (end_in row) (ends_alike was row same))))
            ] refl
      ] refl

  rest_left : is_active_of start kind row ≡ false → (found : Option Row) → active_row table start kind ≡ found
      → active_of (with_relation table row) start kind ≡ left_of start kind row (option_map end_in found)
  rest_left not_own None is =
      ap (option_map end_in) (none_left table row start kind keyed actives fits not_own is) ∙ either_way (is_from start kind row) None
  rest_left not_own (Some was) is = some_left not_own was is

  -- the row's end if the row is active for the start and the type, and otherwise what is left of what was held
  pub active_of-put : active_of (with_relation table row) start kind ≡ cond (is_active_of start kind row) (Some (end_in row)) (left_of start kind row (active_of table start kind))
  active_of-put =
      elim (is_active_of start kind row) as (λ b. is_active_of start kind row ≡ b
      → active_of (with_relation table row) start kind ≡ cond b (Some (end_in row)) (left_of start kind row (active_of table start kind))) [
        | true ↦ λ own.
            let at : get (with_relation table row).relations (relation_key_in row) ≡ Some row =
            get-with_relation table row (relation_key_in row) ∙ ap (λ b. cond b (Some row) (get table.relations (relation_key_in row))) (key_itself (relation_key_in row)) in
            ap (option_map end_in) (only_found (with_relation table row).relations (is_active_of start kind) (relation_key_in row) row at own
            (λ key other at passes. split table row key other (key ≡ relation_key_in row) at (λ same _. same)
            (λ _ was. alone table row start kind key other keyed fits own was passes)))
        | false ↦ λ not_own. rest_left not_own (active_row table start kind) refl
      ] refl
