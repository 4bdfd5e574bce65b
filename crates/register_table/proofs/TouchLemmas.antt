-- The slots that are listed as touched: their order, and how they are borrowed.
use Rattle.std.specs.Prelude.{◌≡◌, Bool, true, false, ◌&&◌, List, [], ◌∷◌, map}
use Rattle.std.specs.BTreeMap.{insert_entry}
use Rattle.std.specs.Borrow.{Bor}
use Rattle.std.specs.FinMap.{entries, from_entries, from_sorted, insert, entries-from_sorted, get-from_entries, get-from_sorted, same_map}
use Rattle.std.specs.FinMap.Entries.{below_all, is_sorted}
use Rattle.std.specs.List.{AllByRecursion}
use Rattle.std.specs.List.Sorted.{IsStrictlySortedBy}
use Rattle.std.specs.Map.{keys_of}
use Rattle.std.specs.Ordering.{is_lt, match_ordering}
use Rattle.std.specs.declared.cmp.Ordering.TheVariants.{Less, Equal, Greater}
use Rattle.std.proofs.Common.{refl, sym, ap, subst, ◌∙◌, T}
use Rattle.std.proofs.lemmas.Map.Made.{keys_of-map_values}
use Rattle.lei_records.specs.declared.view.RowKey.{RowKey}
use Rattle.lei_records.specs.Tables.{key_cmp}
use Rattle.authority_rules.proofs.HolderLemmas.{keys_total}
use Rattle.authority_rules.proofs.KeyLemmas.{keys_antisymmetric}
use Rattle.register_table.specs.declared.slots.Slot.{Slot}
use Rattle.register_table.specs.declared.keys.TextKey.{TextKey}
use Rattle.register_table.specs.Held.{cell_key}
use Rattle.register_table.specs.Cells.{AreOwnCells, IsOwnCell, cell_in, held_in, owned_slots, under_texts}
use Rattle.register_table.proofs.CellLemmas.{held_in-insert, own-insert, text_cmp}

both : (a b : Bool) → T a → T b → T (a && b)
both true b p q = q
both false b p q = absurd p

below : (k : TextKey) (slots : List (TextKey × Slot)) → AllByRecursion (λ y. text_cmp k y ≡ Less) (keys_of slots) → T (below_all key_cmp (cell_key k.key) (map under_texts slots))
below k [] all = tt
below k (e ∷ slots) all = both _ _ (subst (λ r. T (is_lt r)) (sym all.0) tt) (below k slots all.1)

sorted_texts : (slots : List (TextKey × Slot)) → IsStrictlySortedBy text_cmp (keys_of slots) → T (is_sorted key_cmp (map under_texts slots))
unfolding IsStrictlySortedBy
sorted_texts [] sorted = tt
sorted_texts (e ∷ slots) sorted = both _ _ (below e.0 slots sorted.0) (sorted_texts slots sorted.1)

-- slots whose keys rise are the entries of their cells
pub entries-held_in : (slots : List (TextKey × Slot)) → IsStrictlySortedBy text_cmp (keys_of slots) → entries (held_in slots) ≡ map under_texts slots
unfolding held_in
entries-held_in slots sorted =
    let es = map under_texts slots in
    let rises = sorted_texts slots sorted in
    let same : from_entries es ≡ from_sorted {R = key_cmp} es = same_map keys_total keys_antisymmetric (from_entries es) (from_sorted es)
    (λ q. get-from_entries keys_total es q ∙ sym (get-from_sorted key_cmp es q rises)) in
    ap entries same ∙ entries-from_sorted key_cmp es rises

-- ---- borrowed slots

pub rising-unlent : (slots : List (TextKey × Bor Slot)) → IsStrictlySortedBy text_cmp (keys_of slots) → IsStrictlySortedBy text_cmp (keys_of (owned_slots slots))
rising-unlent slots sorted = subst (IsStrictlySortedBy text_cmp) (sym (keys_of-map_values (λ slot. slot.now) slots)) sorted

owned_slots-insert : (slots : List (TextKey × Bor Slot)) (k : TextKey) (slot : Bor Slot) → owned_slots (insert_entry text_cmp slots k slot) ≡ insert_entry text_cmp (owned_slots slots) k slot.now
owned_slots-insert [] k slot = refl
owned_slots-insert (e ∷ slots) k slot =
    let first : TextKey × Slot = (e.0, e.1.now) in
    elim (text_cmp k e.0) as (λ r. owned_slots (match_ordering r ((k, slot) ∷ e ∷ slots) ((e.0, slot) ∷ slots) (e ∷ insert_entry text_cmp slots k slot))
    ≡ match_ordering r ((k, slot.now) ∷ first ∷ owned_slots slots) ((e.0, slot.now) ∷ owned_slots slots) (first ∷ insert_entry text_cmp (owned_slots slots) k slot.now)) [
      | Less ↦ refl
      | Equal ↦ refl
      | Greater ↦ ap (λ rest. first ∷ rest) (owned_slots-insert slots k slot)
    ]

module _ (old new : List (TextKey × Bor Slot)) (key : RowKey) (slot : Bor Slot) (made : new ≡ insert_entry text_cmp old (record { key = key }) slot) where
  unlent-put : owned_slots new ≡ insert_entry text_cmp (owned_slots old) (record { key = key }) slot.now
  unlent-put = ap owned_slots made ∙ owned_slots-insert old (record { key = key }) slot

  pub lent-cells : held_in (owned_slots new) ≡ insert (held_in (owned_slots old)) (cell_key key) (cell_in slot.now)
  lent-cells = held_in-insert (held_in (owned_slots old)) (owned_slots old) (owned_slots new) key slot.now refl unlent-put

  pub lent-own : IsOwnCell key slot.now → AreOwnCells (owned_slots old) → AreOwnCells (owned_slots new)
  lent-own own all = subst AreOwnCells (sym unlent-put) (own-insert (record { key = key }) slot.now (owned_slots old) own all)
