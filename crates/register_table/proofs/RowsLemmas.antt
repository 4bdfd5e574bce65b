-- The rows of cells: what is held under a key, and what a cell that is put under a key changes.
use Rattle.std.specs.Prelude.{◌≡◌, ℕ, ◌+◌, ◌-◌, ◌≤◌, Bool, true, false, ◌&&◌, cond, List, [], ◌∷◌, length, Option, Some, None, is_some, option_map}
use Rattle.std.specs.Cmp.{tied_then}
use Rattle.std.specs.Cmp.Lexicographic.{nat_list_eq_equiv, slice_cmp}
use Rattle.std.specs.FinMap.{empty, entries, get, insert, remove, len, contains_key, get-empty, get-entries, get-insert, get-remove, len-empty, len-insert, len-remove, same_map}
use Rattle.std.specs.FinMap.Entries.{find}
use Rattle.std.specs.Ordering.{eq_by_cmp, nat_cmp}
use Rattle.std.specs.Str.{bytes_eq}
use Rattle.std.proofs.Common.{refl, sym, ap, subst, ◌∙◌, arith}
use Rattle.std.proofs.lemmas.Map.Text.{is_eq-slice_cmp}
use Rattle.lei_records.specs.declared.item.Item.{Item}
use Rattle.lei_records.specs.declared.view.RowKey.{RowKey}
use Rattle.lei_records.specs.Rows.{Row}
use Rattle.lei_records.specs.Tables.{KeyTexts, Rows, Table, key_cmp, exception_key, exception_key_in, record_key, relation_key, put, put_all, put_write, row_key, with_exceptions, with_records, with_relations}
use Rattle.authority_rules.proofs.HolderLemmas.{bytes_itself, keys_total, same_key}
use Rattle.authority_rules.proofs.KeyLemmas.{key_itself, keys_antisymmetric}
use Rattle.register_table.specs.Held.{Cell, Held, cell_key, exception_kind, record_kind, relation_kind, no_rows, row_in, rows, rows_of, with_cell_of, with_under}
use Rattle.register_table.specs.declared.counts.Counts.{Counts}
use Rattle.register_table.specs.Counts.{AreCounts, AreStepped, count_step}
use Rattle.register_table.specs.Undos.{AreOwn, IsOwn, WriteList, cells_with, is_withdrawal, row_in_item, touch, touch_all}

-- ---- maps with something under a key, or with nothing

pub get-with_under : (m : Rows) (k : KeyTexts) (new : Option Row) (q : KeyTexts) → get (with_under m k new) q ≡ cond (eq_by_cmp key_cmp q k) new (get m q)
get-with_under m k None q = get-remove keys_total m k q
get-with_under m k (Some row) q = get-insert keys_total m k row q

pub get-with_cell : (m : Held) (k : KeyTexts) (new : Option Cell) (q : KeyTexts) → get (cells_with m k new) q ≡ cond (eq_by_cmp key_cmp q k) new (get m q)
get-with_cell m k None q = get-remove keys_total m k q
get-with_cell m k (Some cell) q = get-insert keys_total m k cell q

-- what was put under a key is there
pub cell_there : (m : Held) (k : KeyTexts) (cell : Cell) → get (insert m k cell) k ≡ Some cell
cell_there m k cell = get-insert keys_total m k cell k ∙ ap (λ b. cond b (Some cell) (get m k)) (key_itself k)

back_at : (b : Bool) (held new at : Option Cell) → (b ≡ true → at ≡ held) → cond b held (cond b new at) ≡ at
back_at true held new at is = sym (is refl)
back_at false held new at is = refl

-- what was held is put back
pub cell_again : (m : Held) (k : KeyTexts) (new held : Option Cell) → get m k ≡ held → cells_with (cells_with m k new) k held ≡ m
cell_again m k new held is = same_map keys_total keys_antisymmetric (cells_with (cells_with m k new) k held) m
    (λ q. get-with_cell (cells_with m k new) k held q ∙ (ap (cond (eq_by_cmp key_cmp q k) held) (get-with_cell m k new q)
    ∙ back_at (eq_by_cmp key_cmp q k) held new (get m q) (λ t. ap (get m) (same_key q k t) ∙ is)))

-- ---- the rows of a kind

more_texts : (a b : List ℕ) (front rest : KeyTexts) → eq_by_cmp key_cmp (a ∷ front) (b ∷ rest) ≡ (bytes_eq b a && eq_by_cmp key_cmp front rest)
more_texts a b front rest =
    sym (tied_then (slice_cmp nat_cmp a b) (key_cmp front rest))
    ∙ ap (λ t. t && eq_by_cmp key_cmp front rest) (is_eq-slice_cmp a b ∙ nat_list_eq_equiv.symm a b)

row_in-cond : (b : Bool) (x y : Option Cell) → row_in (cond b x y) ≡ cond b (row_in x) (row_in y)
row_in-cond true x y = refl
row_in-cond false x y = refl

with_first : (kind : List ℕ) (m : Rows) (key : KeyTexts) (cell : Cell) (q : KeyTexts) (rest : Option Cell) → get m q ≡ row_in rest
    → get (with_cell_of kind m key cell.row) q ≡ row_in (cond (eq_by_cmp key_cmp (kind ∷ q) key) (Some cell) rest)
with_first kind m [] cell q rest is = is
with_first kind m (first ∷ key) cell q rest is =
    elim (bytes_eq first kind) as (λ b. get (cond b (with_under m key cell.row) m) q ≡ row_in (cond (b && eq_by_cmp key_cmp q key) (Some cell) rest)) [
      | true ↦ get-with_under m key cell.row q ∙ (ap (cond (eq_by_cmp key_cmp q key) cell.row) is ∙ sym (row_in-cond (eq_by_cmp key_cmp q key) (Some cell) rest))
      | false ↦ is
    ]
    ∙ ap (λ b. row_in (cond b (Some cell) rest)) (sym (more_texts kind first q key))

get-rows_of : (kind : List ℕ) (cells : List (KeyTexts × Cell)) (q : KeyTexts) → get (rows_of kind cells) q ≡ row_in (find key_cmp (kind ∷ q) cells)
get-rows_of kind [] q = get-empty key_cmp q
get-rows_of kind (cell ∷ cells) q = with_first kind (rows_of kind cells) cell.0 cell.1 q (find key_cmp (kind ∷ q) cells) (get-rows_of kind cells q)

at_kind : (kind : List ℕ) (held : Held) (q : KeyTexts) → get (rows_of kind (entries held)) q ≡ row_in (get held (kind ∷ q))
at_kind kind held q = get-rows_of kind (entries held) q ∙ ap row_in (sym (get-entries held (kind ∷ q)))

pub record_at : (held : Held) (q : KeyTexts) → get (rows held).records q ≡ row_in (get held (record_kind ∷ q))
unfolding rows
record_at held q = at_kind record_kind held q

pub relation_at : (held : Held) (q : KeyTexts) → get (rows held).relations q ≡ row_in (get held (relation_kind ∷ q))
unfolding rows
relation_at held q = at_kind relation_kind held q

pub exception_at : (held : Held) (q : KeyTexts) → get (rows held).exceptions q ≡ row_in (get held (exception_kind ∷ q))
unfolding rows
exception_at held q = at_kind exception_kind held q

-- ---- a cell that is put

-- the table with this row under a key, or with none
abbrev pub row_under : Table → RowKey → Option Row → Table
row_under table (RowKey.Rec lei) row = with_records table (with_under table.records (record_key lei) row)
row_under table (RowKey.Rel start kind end) row = with_relations table (with_under table.relations (relation_key start kind end) row)
row_under table (RowKey.Exc lei category) row = with_exceptions table (with_under table.exceptions (exception_key lei category) row)

behind : (kind first : List ℕ) (held : Held) (key : KeyTexts) (new : Option Cell) (q : KeyTexts)
    → row_in (get (cells_with held (first ∷ key) new) (kind ∷ q)) ≡ cond (bytes_eq first kind && eq_by_cmp key_cmp q key) (row_in new) (row_in (get held (kind ∷ q)))
behind kind first held key new q =
    ap row_in (get-with_cell held (first ∷ key) new (kind ∷ q))
    ∙ (row_in-cond (eq_by_cmp key_cmp (kind ∷ q) (first ∷ key)) new (get held (kind ∷ q))
    ∙ ap (λ b. cond b (row_in new) (row_in (get held (kind ∷ q)))) (more_texts kind first q key))

module _ (kind : List ℕ) (held : Held) (key : KeyTexts) (new : Option Cell) where
  own_kind : rows_of kind (entries (cells_with held (kind ∷ key) new)) ≡ with_under (rows_of kind (entries held)) key (row_in new)
  own_kind = same_map keys_total keys_antisymmetric _ _ (λ q.
      at_kind kind (cells_with held (kind ∷ key) new) q
      ∙ (behind kind kind held key new q
      ∙ (ap (λ b. cond (b && eq_by_cmp key_cmp q key) (row_in new) (row_in (get held (kind ∷ q)))) (bytes_itself kind)
      ∙ (ap (cond (eq_by_cmp key_cmp q key) (row_in new)) (sym (at_kind kind held q))
      ∙ sym (get-with_under (rows_of kind (entries held)) key (row_in new) q)))))

  other_kind : (first : List ℕ) → bytes_eq first kind ≡ false → rows_of kind (entries (cells_with held (first ∷ key) new)) ≡ rows_of kind (entries held)
  other_kind first apart = same_map keys_total keys_antisymmetric _ _ (λ q.
      at_kind kind (cells_with held (first ∷ key) new) q
      ∙ (behind kind first held key new q
      ∙ (ap (λ b. cond (b && eq_by_cmp key_cmp q key) (row_in new) (row_in (get held (kind ∷ q)))) apart
      ∙ sym (at_kind kind held q))))

-- the rows after a cell was put or removed
pub rows-with_cell : (held : Held) (key : RowKey) (new : Option Cell) → rows (cells_with held (cell_key key) new) ≡ row_under (rows held) key (row_in new)
unfolding rows
rows-with_cell held (RowKey.Rec lei) new = λ i. record {
  records = own_kind record_kind held (record_key lei) new i;
  relations = other_kind relation_kind held (record_key lei) new record_kind refl i;
  exceptions = other_kind exception_kind held (record_key lei) new record_kind refl i;
}
rows-with_cell held (RowKey.Rel start kind end) new = λ i. record {
  records = other_kind record_kind held (relation_key start kind end) new relation_kind refl i;
  relations = own_kind relation_kind held (relation_key start kind end) new i;
  exceptions = other_kind exception_kind held (relation_key start kind end) new relation_kind refl i;
}
rows-with_cell held (RowKey.Exc lei category) new = λ i. record {
  records = other_kind record_kind held (exception_key lei category) new exception_kind refl i;
  relations = other_kind relation_kind held (exception_key lei category) new exception_kind refl i;
  exceptions = own_kind exception_kind held (exception_key lei category) new i;
}

-- ---- writes

own_put : (table : Table) (item : Item) → is_withdrawal item ≡ false → put table item ≡ row_under table (row_key item) (Some (row_in_item item))
own_put table (Item.Record row) own = refl
own_put table (Item.Relation row) own = refl
own_put table (Item.Exception item) own =
    ap (λ b. with_exceptions table (cond b (remove table.exceptions (exception_key_in item.0)) (insert table.exceptions (exception_key_in item.0) item.0))) own

write_under : (table : Table) (write : RowKey × Option Item) → IsOwn write → put_write table write ≡ row_under table write.0 (option_map row_in_item write.1)
write_under table (key, Some item) own = own_put table item own.1 ∙ ap (λ k. row_under table k (Some (row_in_item item))) (sym own.0)
write_under table (RowKey.Rec lei, None) own = absurd own
write_under table (RowKey.Rel start kind end, None) own = absurd own
write_under table (RowKey.Exc lei category, None) own = refl

-- the rows of the cells after a write are the rows of the cells before it with the write put
pub rows-touch : (entry : ℕ) (held : Held) (write : RowKey × Option Item) → IsOwn write → rows (touch entry held write) ≡ put_write (rows held) write
rows-touch entry held write own = rows-with_cell held write.0 (Some (record { entry = entry; row = option_map row_in_item write.1 })) ∙ sym (write_under (rows held) write own)

pub rows-touch_all : (entry : ℕ) (writes : WriteList) (held : Held) → AreOwn writes → rows (touch_all entry writes held) ≡ put_all writes (rows held)
rows-touch_all entry [] held own = refl
rows-touch_all entry (write ∷ writes) held own =
    rows-touch_all entry writes (touch entry held write) own.1 ∙ ap (put_all writes) (rows-touch entry held write own.0)

-- ---- no cell

no_kind : (kind : List ℕ) → rows_of kind (entries (empty {R = key_cmp})) ≡ empty
no_kind kind = same_map keys_total keys_antisymmetric _ _ (λ q. at_kind kind empty q ∙ (ap row_in (get-empty key_cmp (kind ∷ q)) ∙ sym (get-empty key_cmp q)))

pub rows-empty : rows empty ≡ no_rows
unfolding rows
rows-empty = λ i. record { records = no_kind record_kind i; relations = no_kind relation_kind i; exceptions = no_kind exception_kind i }

-- ---- how many there are

stepped_len : (b : Bool) (n : ℕ) → cond b n (n + 1) ≡ count_step b true n
stepped_len true n = refl
stepped_len false n = refl

stepped_less : (b : Bool) (n : ℕ) → cond b (n - 1) n ≡ count_step b false n
stepped_less true n = refl
stepped_less false n = refl

len-with_under : (m : Rows) (k : KeyTexts) (new : Option Row) → len (with_under m k new) ≡ count_step (contains_key m k) (is_some new) (len m)
len-with_under m k None = len-remove keys_total m k ∙ stepped_less (contains_key m k) (len m)
len-with_under m k (Some row) = len-insert keys_total m k row ∙ stepped_len (contains_key m k) (len m)

at_most : (was is : Bool) (n : ℕ) → count_step was is n ≤ n + 1
at_most false true n = omega arith
at_most true false n = omega arith
at_most true true n = omega arith
at_most false false n = omega arith

len_one : (kind : List ℕ) (m : Rows) (key : KeyTexts) (row : Option Row) (n : ℕ) → len m ≤ n → len (with_cell_of kind m key row) ≤ n + 1
len_one kind m [] row n few = omega (arith, few)
len_one kind m (first ∷ key) row n few = elim (bytes_eq first kind) as (λ b. len (cond b (with_under m key row) m) ≤ n + 1) [
  | true ↦ let more = at_most (contains_key m key) (is_some row) (len m) in let is = len-with_under m key row in omega (arith, few, more, is)
  | false ↦ omega (arith, few)
]

len-rows_of : (kind : List ℕ) (cells : List (KeyTexts × Cell)) → len (rows_of kind cells) ≤ length cells
len-rows_of kind [] = subst (λ n. n ≤ 0) (sym (len-empty key_cmp Row)) (omega arith)
len-rows_of kind (cell ∷ cells) = let less = len_one kind (rows_of kind cells) cell.0 cell.1.row (length cells) (len-rows_of kind cells) in omega (arith, less)

-- each kind has at most as many rows as there are cells
pub record AreFew (held : Held) (n : ℕ) : Type 0 where
  pub records : len (rows held).records ≤ n
  pub relations : len (rows held).relations ≤ n
  pub exceptions : len (rows held).exceptions ≤ n

pub few_rows : (held : Held) → AreFew held (length (entries held))
unfolding rows
few_rows held = record {
  records = len-rows_of record_kind (entries held);
  relations = len-rows_of relation_kind (entries held);
  exceptions = len-rows_of exception_kind (entries held);
}

-- the counts after a cell was put or removed
pub counted : (held : Held) (key : RowKey) (new : Option Cell) (counts later : Counts) → AreCounts counts (rows held)
    → AreStepped key (is_some (row_in (get held (cell_key key)))) (is_some (row_in new)) counts later → AreCounts later (rows (cells_with held (cell_key key) new))
counted held (RowKey.Rec lei) new counts later are stepped = subst (AreCounts later) (sym (rows-with_cell held (RowKey.Rec lei) new)) (record {
  records = stepped.0 ∙ ((λ i. count_step (is_some (sym (record_at held (record_key lei)) i)) (is_some (row_in new)) (are.records i)) ∙ sym (len-with_under (rows held).records (record_key lei) (row_in new)));
  relations = stepped.1.0 ∙ are.relations;
  exceptions = stepped.1.1 ∙ are.exceptions;
})
counted held (RowKey.Rel start kind end) new counts later are stepped = subst (AreCounts later) (sym (rows-with_cell held (RowKey.Rel start kind end) new)) (record {
  records = stepped.0 ∙ are.records;
  relations = stepped.1.0 ∙ ((λ i. count_step (is_some (sym (relation_at held (relation_key start kind end)) i)) (is_some (row_in new)) (are.relations i))
      ∙ sym (len-with_under (rows held).relations (relation_key start kind end) (row_in new)));
  exceptions = stepped.1.1 ∙ are.exceptions;
})
counted held (RowKey.Exc lei category) new counts later are stepped = subst (AreCounts later) (sym (rows-with_cell held (RowKey.Exc lei category) new)) (record {
  records = stepped.0 ∙ are.records;
  relations = stepped.1.0 ∙ are.relations;
  exceptions = stepped.1.1 ∙ ((λ i. count_step (is_some (sym (exception_at held (exception_key lei category)) i)) (is_some (row_in new)) (are.exceptions i))
      ∙ sym (len-with_under (rows held).exceptions (exception_key lei category) (row_in new)));
})
