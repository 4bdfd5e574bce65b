-- Slots under keys as a finite map of cells: the results of a look-up, an insertion and a removal.
use Rattle.std.specs.Prelude.{◌≡◌, ℕ, ◌+◌, ◌<◌, ◌≤◌, Bool, true, false, cond, List, [], ◌∷◌, length, map, Option, Some, None, IfSome, option_map, is_some}
use Rattle.std.specs.BTreeMap.{is_at, insert_entry}
use Rattle.std.specs.FinMap.{contains_key, empty, entries, from_entries, get, insert, len, remove, get-from_entries, get-insert, get-remove, len-empty, len-entries, len-insert, same_map}
use Rattle.std.specs.FinMap.Entries.{find}
use Rattle.std.specs.Map.{lookup, remove_entry}
use Rattle.std.specs.Option.{option_copied}
use Rattle.std.specs.Ordering.{eq_by_cmp, is_eq, match_ordering}
use Rattle.std.specs.declared.cmp.Ordering.{Ordering}
use Rattle.std.specs.declared.cmp.Ordering.TheVariants.{Less, Equal, Greater}
use Rattle.std.specs.Borrow.{Bor}
use Rattle.std.proofs.Common.{refl, sym, ap, subst, ◌∙◌, arith}
use Rattle.std.proofs.lemmas.List.{length-map}
use mathlib.Core.Bool.{true≢false}
use mathlib.Core.Logic.{◌⊎◌, inl, inr, ⊎_elim}
use Rattle.std.specs.Cmp.{eq_by_cmp_equiv}
use Rattle.lei_records.specs.declared.item.Item.{Item}
use Rattle.lei_records.specs.declared.view.RowKey.{RowKey}
use Rattle.lei_records.specs.Tables.{KeyTexts, key_cmp}
use Rattle.authority_rules.proofs.HolderLemmas.{keys_total, same_key}
use Rattle.authority_rules.proofs.KeyLemmas.{key_itself, keys_antisymmetric}
use Rattle.register_table.specs.declared.slots.Slot.{Slot}
use Rattle.register_table.specs.declared.keys.TextKey.{TextKey}
use Rattle.lei_records.specs.Rows.{Row}
use Rattle.register_table.specs.declared.counts.Counts.{Counts}
use Rattle.register_table.specs.Counts.{AreCounts, AreStepped, CanRise}
use Rattle.register_table.specs.Held.{Cell, Held, cell_key, no_rows, row_in, rows}
use Rattle.register_table.specs.Undos.{row_in_item}
use Rattle.register_table.proofs.RowsLemmas.{counted, few_rows, rows-empty}
use Rattle.register_table.specs.Cells.{AreOwnCells, IsItemOf, IsOwnCell, cell_in, held_in, under_texts}

abbrev pub text_cmp : TextKey → TextKey → Ordering
text_cmp a b = key_cmp (cell_key a.key) (cell_key b.key)

-- ---- what is looked up

looked : (k : RowKey) (slots : List (TextKey × Slot)) → find key_cmp (cell_key k) (map under_texts slots) ≡ option_map cell_in (lookup (is_at (text_cmp (record { key = k }))) slots)
looked k [] = refl
looked k (e ∷ slots) = elim (eq_by_cmp key_cmp (cell_key k) (cell_key e.0.key)) as (λ b. cond b (Some (cell_in e.1)) (find key_cmp (cell_key k) (map under_texts slots))
    ≡ option_map cell_in (cond b (Some e.1) (lookup (is_at (text_cmp (record { key = k }))) slots))) [
      | true ↦ refl
      | false ↦ looked k slots
    ]

-- what is held under a key
pub get-held_in : (slots : List (TextKey × Slot)) (k : RowKey) → get (held_in slots) (cell_key k) ≡ option_map cell_in (lookup (is_at (text_cmp (record { key = k }))) slots)
unfolding held_in
get-held_in slots k = get-from_entries keys_total (map under_texts slots) (cell_key k) ∙ looked k slots

found : (slots : List (TextKey × Slot)) (q : KeyTexts) → get (held_in slots) q ≡ find key_cmp q (map under_texts slots)
unfolding held_in
found slots q = get-from_entries keys_total (map under_texts slots) q

without : (b : Bool) (o : Option Slot) → option_map cell_in (cond b None o) ≡ cond b None (option_map cell_in o)
without true o = refl
without false o = refl

lent : (o : Option (Bor Slot)) → option_map (λ s. cell_in s.now) o ≡ option_map cell_in (option_copied o)
lent None = refl
lent (Some s) = refl

pub get-lent : (held : Held) (slots : List (TextKey × Slot)) (k : RowKey) (o : Option (Bor Slot)) → held_in slots ≡ held
    → option_copied o ≡ lookup (is_at (text_cmp (record { key = k }))) slots → option_map (λ s. cell_in s.now) o ≡ get held (cell_key k)
get-lent held slots k o is found =
    lent o ∙ (ap (option_map cell_in) found ∙ (sym (get-held_in slots k) ∙ ap (λ h. get h (cell_key k)) is))

pub get-out : (held : Held) (slots : List (TextKey × Slot)) (k : RowKey) (o : Option Slot) → held_in slots ≡ held
    → o ≡ lookup (is_at (text_cmp (record { key = k }))) slots → option_map cell_in o ≡ get held (cell_key k)
get-out held slots k o is found = ap (option_map cell_in) found ∙ (sym (get-held_in slots k) ∙ ap (λ h. get h (cell_key k)) is)

-- nothing is held under a key if a look-up finds nothing
pub get-none : (held : Held) (slots : List (TextKey × Slot)) (k : RowKey) → held_in slots ≡ held
    → lookup (is_at (text_cmp (record { key = k }))) slots ≡ None → get held (cell_key k) ≡ None
get-none held slots k is none = sym (get-out held slots k None is (sym none))

-- ---- slots are under their own keys

own_item : (a b : RowKey) (item : Option Item) → cell_key a ≡ cell_key b → IsItemOf b item → IsItemOf a item
own_item a b None same own = tt
own_item a b (Some item) same own = same ∙ own

own_by : (a b : RowKey) (slot : Slot) → cell_key a ≡ cell_key b → IsOwnCell b slot → IsOwnCell a slot
own_by a b slot same own = own_item a b slot.item same own

pub own-lookup : (k : RowKey) (slots : List (TextKey × Slot)) (found : Option Slot) → AreOwnCells slots → lookup (is_at (text_cmp (record { key = k }))) slots ≡ found → IfSome found (IsOwnCell k)
own-lookup k [] None own is = tt
own-lookup k [] (Some slot) own is = cc
own-lookup k (e ∷ slots) found own is =
    elim (eq_by_cmp key_cmp (cell_key k) (cell_key e.0.key)) as (λ b. eq_by_cmp key_cmp (cell_key k) (cell_key e.0.key) ≡ b
    → cond b (Some e.1) (lookup (is_at (text_cmp (record { key = k }))) slots) ≡ found → IfSome found (IsOwnCell k)) [
      | true ↦ λ t is. subst (λ o. IfSome o (IsOwnCell k)) is (own_by k e.0.key e.1 (same_key (cell_key k) (cell_key e.0.key) t) own.0)
      | false ↦ λ _ is. own-lookup k slots found own.1 is
    ] refl is

pub own-lent : (k : RowKey) (slots : List (TextKey × Slot)) (o : Option (Bor Slot)) → AreOwnCells slots → option_copied o ≡ lookup (is_at (text_cmp (record { key = k }))) slots
    → IfSome o (λ s. IsOwnCell k s.now)
own-lent k slots None own is = tt
own-lent k slots (Some s) own is = own-lookup k slots (Some s.now) own (sym is)

pub own-insert : (k : TextKey) (slot : Slot) (slots : List (TextKey × Slot)) → IsOwnCell k.key slot → AreOwnCells slots → AreOwnCells (insert_entry text_cmp slots k slot)
own-insert k slot [] own all = (own, tt)
own-insert k slot (e ∷ slots) own all =
    elim (text_cmp k e.0) as (λ r. text_cmp k e.0 ≡ r → AreOwnCells (match_ordering r ((k, slot) ∷ e ∷ slots) ((e.0, slot) ∷ slots) (e ∷ insert_entry text_cmp slots k slot))) [
      | Less ↦ λ _. (own, all)
      | Equal ↦ λ t. (own_by e.0.key k.key slot (sym (keys_antisymmetric (cell_key k.key) (cell_key e.0.key) t)) own, all.1)
      | Greater ↦ λ _. (all.0, own-insert k slot slots own all.1)
    ] refl

pub own-remove : (test : TextKey → Bool) (slots : List (TextKey × Slot)) → AreOwnCells slots → AreOwnCells (remove_entry test slots)
own-remove test [] all = tt
own-remove test (e ∷ slots) all = elim (test e.0) as (λ b. AreOwnCells (cond b slots (e ∷ remove_entry test slots))) [
  | true ↦ all.1
  | false ↦ (all.0, own-remove test slots all.1)
]

-- ---- an insertion

swapped : (a b : Bool) (x y z : Option Cell) → (a ≡ true → b ≡ true → x ≡ y) → cond a x (cond b y z) ≡ cond b y (cond a x z)
swapped true true x y z same = same refl refl
swapped true false x y z same = refl
swapped false b x y z same = refl

over : (a : Bool) (x y z : Option Cell) → cond a x z ≡ cond a x (cond a y z)
over true x y z = refl
over false x y z = refl

inserted : (k : TextKey) (slot : Slot) (slots : List (TextKey × Slot)) (q : KeyTexts)
    → find key_cmp q (map under_texts (insert_entry text_cmp slots k slot)) ≡ cond (eq_by_cmp key_cmp q (cell_key k.key)) (Some (cell_in slot)) (find key_cmp q (map under_texts slots))
inserted k slot [] q = refl
inserted k slot (e ∷ slots) q =
    let at_k = eq_by_cmp key_cmp q (cell_key k.key) in
    let at_e = eq_by_cmp key_cmp q (cell_key e.0.key) in
    let rest = find key_cmp q (map under_texts slots) in
    elim (text_cmp k e.0) as (λ r. text_cmp k e.0 ≡ r
    → find key_cmp q (map under_texts (match_ordering r ((k, slot) ∷ e ∷ slots) ((e.0, slot) ∷ slots) (e ∷ insert_entry text_cmp slots k slot)))
    ≡ cond at_k (Some (cell_in slot)) (cond at_e (Some (cell_in e.1)) rest)) [
      | Less ↦ λ _. refl
      | Equal ↦ λ t.
          let same : cell_key k.key ≡ cell_key e.0.key = keys_antisymmetric (cell_key k.key) (cell_key e.0.key) t in
          let tests : at_k ≡ at_e = ap (λ key. eq_by_cmp key_cmp q key) same in
          over at_e (Some (cell_in slot)) (Some (cell_in e.1)) rest
          ∙ ap (λ b. cond b (Some (cell_in slot)) (cond at_e (Some (cell_in e.1)) rest)) (sym tests)
      | Greater ↦ λ t.
          let apart : at_e ≡ true → at_k ≡ true → Some (cell_in e.1) ≡ Some (cell_in slot) = λ p r.
          let same : cell_key k.key ≡ cell_key e.0.key = sym (same_key q (cell_key k.key) r) ∙ same_key q (cell_key e.0.key) p in
          let tied : true ≡ false = sym (key_itself (cell_key k.key)) ∙ (ap (λ key. is_eq (key_cmp (cell_key k.key) key)) same ∙ ap is_eq t) in
          absurd (true≢false tied) in
          ap (cond at_e (Some (cell_in e.1))) (inserted k slot slots q)
          ∙ swapped at_e at_k (Some (cell_in e.1)) (Some (cell_in slot)) rest apart
    ] refl

pub held_in-insert : (held : Held) (old new : List (TextKey × Slot)) (k : RowKey) (slot : Slot) → held_in old ≡ held → new ≡ insert_entry text_cmp old (record { key = k }) slot
    → held_in new ≡ insert held (cell_key k) (cell_in slot)
unfolding held_in
held_in-insert held old new k slot is made = same_map keys_total keys_antisymmetric (held_in new) (insert held (cell_key k) (cell_in slot))
    (λ q. get-from_entries keys_total (map under_texts new) q
    ∙ (ap (λ slots. find key_cmp q (map under_texts slots)) made
    ∙ (inserted (record { key = k }) slot old q
    ∙ (ap (cond (eq_by_cmp key_cmp q (cell_key k)) (Some (cell_in slot))) (sym (get-from_entries keys_total (map under_texts old) q) ∙ ap (λ h. get h q) is)
    ∙ sym (get-insert keys_total held (cell_key k) (cell_in slot) q)))))

pub held_in-none : (slots : List (TextKey × Slot)) → slots ≡ [] → held_in slots ≡ empty
unfolding held_in
held_in-none slots none = ap held_in none

-- ---- a removal

-- a key is that of some row, or nothing is found under it
named : (q : KeyTexts) (slots : List (TextKey × Slot)) → ((k : RowKey) × (q ≡ cell_key k)) ⊎ (find key_cmp q (map under_texts slots) ≡ None)
named q [] = inr refl
named q (e ∷ slots) =
    elim (eq_by_cmp key_cmp q (cell_key e.0.key)) as (λ b. eq_by_cmp key_cmp q (cell_key e.0.key) ≡ b
    → ((k : RowKey) × (q ≡ cell_key k)) ⊎ (cond b (Some (cell_in e.1)) (find key_cmp q (map under_texts slots)) ≡ None)) [
      | true ↦ λ t. inl (e.0.key, same_key q (cell_key e.0.key) t)
      | false ↦ λ _. named q slots
    ] refl

neither : (b : Bool) (x : Option Cell) → x ≡ None → cond b None x ≡ None
neither true x none = refl
neither false x none = none

module _ (old new : List (TextKey × Slot)) (k : RowKey)
    (updates : (q : TextKey) → lookup (is_at (text_cmp q)) new ≡ cond (is_at (text_cmp (record { key = k })) q) None (lookup (is_at (text_cmp q)) old)) where
  at_key : (q : RowKey) → get (held_in new) (cell_key q) ≡ cond (eq_by_cmp key_cmp (cell_key q) (cell_key k)) None (get (held_in old) (cell_key q))
  at_key q =
      get-held_in new q ∙ (ap (option_map cell_in) (updates (record { key = q }))
      ∙ (without (is_at (text_cmp (record { key = k })) (record { key = q })) (lookup (is_at (text_cmp (record { key = q }))) old)
      ∙ (ap (λ b. cond b None (option_map cell_in (lookup (is_at (text_cmp (record { key = q }))) old))) ((eq_by_cmp_equiv keys_total).symm (cell_key k) (cell_key q))
      ∙ ap (cond (eq_by_cmp key_cmp (cell_key q) (cell_key k)) None) (sym (get-held_in old q)))))

  at_named : (q : KeyTexts) → ((r : RowKey) × (q ≡ cell_key r)) → get (held_in new) q ≡ cond (eq_by_cmp key_cmp q (cell_key k)) None (get (held_in old) q)
  at_named q r = subst (λ t. get (held_in new) t ≡ cond (eq_by_cmp key_cmp t (cell_key k)) None (get (held_in old) t)) (sym r.1) (at_key r.0)

  at_texts : (q : KeyTexts) → get (held_in new) q ≡ cond (eq_by_cmp key_cmp q (cell_key k)) None (get (held_in old) q)
  at_texts q = ⊎_elim (at_named q) (λ none. ⊎_elim (at_named q) (λ old_none.
      found new q ∙ none ∙ sym (neither (eq_by_cmp key_cmp q (cell_key k)) (get (held_in old) q) (found old q ∙ old_none))) (named q old)) (named q new)

  pub held_in-remove : (held : Held) → held_in old ≡ held → held_in new ≡ remove held (cell_key k)
  held_in-remove held is = same_map keys_total keys_antisymmetric (held_in new) (remove held (cell_key k))
      (λ q. at_texts q ∙ (ap (λ h. cond (eq_by_cmp key_cmp q (cell_key k)) None (get h q)) is ∙ sym (get-remove keys_total held (cell_key k) q)))

-- ---- counts

more_or_not : (b : Bool) (n k : ℕ) → n ≤ k → cond b n (n + 1) ≤ k + 1
more_or_not true n k less = omega (arith, less)
more_or_not false n k less = omega (arith, less)

len-from_entries : (es : List (KeyTexts × Cell)) → len (from_entries {R = key_cmp} es) ≤ length es
len-from_entries [] = subst (λ n. n ≤ 0) (sym (len-empty key_cmp Cell)) (omega arith)
len-from_entries (e ∷ es) =
    let one = more_or_not (contains_key (from_entries {R = key_cmp} es) e.0) (len (from_entries {R = key_cmp} es)) (length es) (len-from_entries es) in
    let is = len-insert keys_total (from_entries es) e.0 e.1 in omega (arith, one, is)

len-held_in : (slots : List (TextKey × Slot)) → length (entries (held_in slots)) ≤ length slots
unfolding held_in
len-held_in slots =
    let less = len-from_entries (map under_texts slots) in
    let is = len-entries (held_in slots) in
    let same = length-map slots under_texts in omega (arith, less, is, same)

-- if there are fewer than 2^63 cells, their counts can rise
pub can_rise : (slots : List (TextKey × Slot)) (counts : Counts) → AreCounts counts (rows (held_in slots)) → length slots < 9223372036854775808 → CanRise counts
can_rise slots counts are few =
    let less = len-held_in slots in
    let each = few_rows (held_in slots) in
    record {
      records = omega (arith, few, less, each.records, are.records);
      relations = omega (arith, few, less, each.relations, are.relations);
      exceptions = omega (arith, few, less, each.exceptions, are.exceptions);
    }

pub no_counts : (slots : List (TextKey × Slot)) (counts : Counts) → slots ≡ [] → counts.records ≡ 0 → counts.relations ≡ 0 → counts.exceptions ≡ 0 → AreCounts counts (rows (held_in slots))
no_counts slots counts none records relations exceptions =
    let is : rows (held_in slots) ≡ no_rows = ap rows (held_in-none slots none) ∙ rows-empty in
    let zero = sym (len-empty key_cmp Row) in
    subst (AreCounts counts) (sym is) (record { records = records ∙ zero; relations = relations ∙ zero; exceptions = exceptions ∙ zero })

item_row : (item : Option Item) → is_some item ≡ is_some (option_map row_in_item item)
item_row None = refl
item_row (Some item) = refl

-- the counts after an insertion and after a removal
pub counts_put : (old new : List (TextKey × Slot)) (key : RowKey) (slot : Slot) (out : Option Slot) (was is : Bool) (counts later : Counts)
    → AreCounts counts (rows (held_in old)) → held_in new ≡ insert (held_in old) (cell_key key) (cell_in slot) → option_map cell_in out ≡ get (held_in old) (cell_key key)
    → was ≡ is_some (row_in (option_map cell_in out)) → is ≡ is_some slot.item → AreStepped key was is counts later → AreCounts later (rows (held_in new))
counts_put old new key slot out was is counts later are put looked has now stepped =
    subst (λ h. AreCounts later (rows h)) (sym put)
    (counted (held_in old) key (Some (cell_in slot)) counts later are
    (subst (λ b. AreStepped key b (is_some (row_in (Some (cell_in slot)))) counts later) (has ∙ ap (λ o. is_some (row_in o)) looked)
    (subst (λ b. AreStepped key was b counts later) (now ∙ item_row slot.item) stepped)))

pub counts_out : (old new : List (TextKey × Slot)) (key : RowKey) (out : Option Slot) (was : Bool) (counts later : Counts)
    → AreCounts counts (rows (held_in old)) → held_in new ≡ remove (held_in old) (cell_key key) → option_map cell_in out ≡ get (held_in old) (cell_key key)
    → was ≡ is_some (row_in (option_map cell_in out)) → AreStepped key was false counts later → AreCounts later (rows (held_in new))
counts_out old new key out was counts later are put looked has stepped =
    subst (λ h. AreCounts later (rows h)) (sym put)
    (counted (held_in old) key None counts later are
    (subst (λ b. AreStepped key b false counts later) (has ∙ ap (λ o. is_some (row_in o)) looked) stepped))
