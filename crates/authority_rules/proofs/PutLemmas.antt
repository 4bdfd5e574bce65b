-- What a row that is put into a table changes: its own record, the key that it holds, and the key that it held.
use Rattle.std.specs.Prelude.{◌≡◌, ℕ, Bool, true, false, not, cond, List, option_map, Option, Some, None}
use Rattle.std.specs.FinMap.{get, get-insert}
use Rattle.std.specs.Ordering.{eq_by_cmp}
use Rattle.std.specs.Str.{bytes_eq}
use mathlib.Core.Bool.{true≢false}
use Rattle.std.proofs.Common.{refl, sym, ap, subst, ◌∙◌}
use Rattle.lei_records.specs.declared.item.Item.{Item}
use Rattle.lei_records.specs.Cells.{lei_in, rec_cell, is_live, akey, is_authority_key, holds}
use Rattle.lei_records.specs.Rows.{Row}
use Rattle.lei_records.specs.Spelled.{IsRecordRow}
use Rattle.lei_records.specs.Tables.{KeyTexts, Table, key_cmp, record_key, put, row_at, record_of, holder_of, holds_key, IsKeyed, AuthorityKeysAreUnique, HasRows, IsSoundTable}
use Rattle.authority_rules.specs.Taken.{IsFree}
use Rattle.authority_rules.proofs.HolderLemmas.{keys_total, same_key, key_eq, bytes_same, bytes_itself, Hit, first_of-hit, hit-first_of, first_of-none, first_of-only, hit_code, both_true, first_true, second_true, some_apart, is_other}

-- ---- look-ups

abbrev with_row : Table → Row → Table
with_row table row = put table (Item.Record row)

get-with_row : (table : Table) (row : Row) (key : KeyTexts)
    → get (with_row table row).records key ≡ cond (eq_by_cmp key_cmp key (record_key (lei_in row))) (Some row) (get table.records key)
get-with_row table row key = get-insert keys_total table.records (record_key (lei_in row)) row key

pub row_at-put : (table : Table) (row : Row) (lei : List ℕ) → row_at (with_row table row) lei ≡ cond (bytes_eq lei (lei_in row)) (Some row) (row_at table lei)
row_at-put table row lei =
    get-with_row table row (record_key lei) ∙ ap (λ b. cond b (Some row) (row_at table lei)) (key_eq lei (lei_in row))

mapped : {X Y : Type 0} (f : X → Y) (b : Bool) (x : X) (o : Option X) → option_map f (cond b (Some x) o) ≡ cond b (Some (f x)) (option_map f o)
mapped f true x o = refl
mapped f false x o = refl

-- the record of the row's code is the row, and every other one is unchanged
pub record_of-put : (table : Table) (row : Row) (lei : List ℕ)
    → record_of (with_row table row) lei ≡ cond (bytes_eq lei (lei_in row)) (Some (rec_cell row)) (record_of table lei)
record_of-put table row lei =
    ap (option_map rec_cell) (row_at-put table row lei) ∙ mapped rec_cell (bytes_eq lei (lei_in row)) row (row_at table lei)

-- a row of the new table is the one that was put, or was already there
split : (table : Table) (row : Row) (lei : List ℕ) (other : Row) (P : Type 0) → row_at (with_row table row) lei ≡ Some other
    → (lei ≡ lei_in row → row ≡ other → P) → (bytes_eq lei (lei_in row) ≡ false → row_at table lei ≡ Some other → P) → P
split table row lei other P at here there =
    let known : cond (bytes_eq lei (lei_in row)) (Some row) (row_at table lei) ≡ Some other = sym (row_at-put table row lei) ∙ at in
    elim (bytes_eq lei (lei_in row)) as (λ b. bytes_eq lei (lei_in row) ≡ b → cond b (Some row) (row_at table lei) ≡ Some other → P) [
      | true ↦ λ t is. here (bytes_same lei (lei_in row) t) (cc)
      | false ↦ λ t is. there t is
    ] refl known

-- ---- soundness

pub IsKeyed-put : (table : Table) (row : Row) → IsKeyed table → IsKeyed (with_row table row)
IsKeyed-put table row keyed key other at =
    let known : cond (eq_by_cmp key_cmp key (record_key (lei_in row))) (Some row) (get table.records key) ≡ Some other = sym (get-with_row table row key) ∙ at in
    elim (eq_by_cmp key_cmp key (record_key (lei_in row))) as (λ b. eq_by_cmp key_cmp key (record_key (lei_in row)) ≡ b
    → cond b (Some row) (get table.records key) ≡ Some other → key ≡ record_key (lei_in other)) [
      | true ↦ λ t is. let same : row ≡ other = cc in same_key key (record_key (lei_in row)) t ∙ ap (λ r. record_key (lei_in r)) same
      | false ↦ λ t is. keyed key other is
    ] refl known

HasRows-put : (table : Table) (row : Row) → IsRecordRow row → HasRows table → HasRows (with_row table row)
HasRows-put table row is_row rows key other at =
    let known : cond (eq_by_cmp key_cmp key (record_key (lei_in row))) (Some row) (get table.records key) ≡ Some other = sym (get-with_row table row key) ∙ at in
    elim (eq_by_cmp key_cmp key (record_key (lei_in row))) as (λ b. cond b (Some row) (get table.records key) ≡ Some other → IsRecordRow other) [
      | true ↦ λ is. let same : row ≡ other = cc in subst IsRecordRow same is_row
      | false ↦ λ is. rows key other is
    ] known

key_of-is : (authority id : List ℕ) (key : Option (List ℕ × List ℕ)) → is_authority_key authority id key ≡ true → key ≡ Some (authority, id)
key_of-is authority id None is = let clash : false ≡ true = is in absurd (true≢false (sym clash))
key_of-is authority id (Some key) is =
    let a : key.0 ≡ authority = bytes_same key.0 authority (first_true _ _ is) in
    let b : key.1 ≡ id = bytes_same key.1 id (second_true _ _ is) in
    λ i. Some (a i, b i)

-- if the row is free, only it has the key that it holds
free_key : (table : Table) (row : Row) (authority id lei : List ℕ) → IsKeyed table → IsFree table row → holds authority id row ≡ true
    → Hit table (holds authority id) lei → lei ≡ lei_in row
unfolding holds
free_key table row authority id lei keyed free held hit =
    let live : is_live row ≡ true = first_true _ _ held in
    let key : akey row ≡ Some (authority, id) = key_of-is authority id (akey row) (second_true _ _ held) in
    let code : lei ≡ lei_in hit.row = hit_code table (holds authority id) lei keyed hit in
    elim (bytes_eq lei (lei_in row)) as (λ b. bytes_eq lei (lei_in row) ≡ b → lei ≡ lei_in row) [
      | true ↦ λ t. bytes_same lei (lei_in row) t
      | false ↦ λ t.
          let differs : not (bytes_eq (lei_in hit.row) (lei_in row)) ≡ true = ap (λ l. not (bytes_eq l (lei_in row))) (sym code) ∙ ap not t in
          let holds_it : holds_key (akey row) hit.row ≡ true = ap (λ k. holds_key k hit.row) key ∙ hit.passes in
          let other : Hit table (is_other (akey row) (lei_in row)) lei = record { row = hit.row; at = hit.at; passes = both_true _ _ holds_it differs } in
          let found = hit-first_of table (is_other (akey row) (lei_in row)) lei other in
          absurd (some_apart found.0 (sym found.1 ∙ free live))
    ] refl

pub AuthorityKeysAreUnique-put : (table : Table) (row : Row) → IsKeyed table → AuthorityKeysAreUnique table → IsFree table row → AuthorityKeysAreUnique (with_row table row)
AuthorityKeysAreUnique-put table row keyed holders free authority id a b first second at_a at_b holds_a holds_b =
    split table row a first (a ≡ b) at_a
    (λ own_a same_a. split table row b second (a ≡ b) at_b
    (λ own_b same_b. own_a ∙ sym own_b)
    (λ other_b was_b.
    let held : holds authority id row ≡ true = ap (holds authority id) same_a ∙ holds_a in
    own_a ∙ sym (free_key table row authority id b keyed free held (record { row = second; at = was_b; passes = holds_b }))))
    (λ other_a was_a. split table row b second (a ≡ b) at_b
    (λ own_b same_b.
    let held : holds authority id row ≡ true = ap (holds authority id) same_b ∙ holds_b in
    free_key table row authority id a keyed free held (record { row = first; at = was_a; passes = holds_a }) ∙ sym own_b)
    (λ other_b was_b. holders authority id a b first second was_a was_b holds_a holds_b))

-- a free row keeps a sound table sound
pub IsSoundTable-put : (table : Table) (row : Row) → IsSoundTable table → IsRecordRow row → IsFree table row → IsSoundTable (with_row table row)
IsSoundTable-put table row sound is_row free = record {
  keyed = IsKeyed-put table row sound.keyed;
  holders = AuthorityKeysAreUnique-put table row sound.keyed sound.holders free;
  rows = HasRows-put table row is_row sound.rows;
  relations_keyed = sound.relations_keyed;
  relation_rows = sound.relation_rows;
  actives = sound.actives;
  exceptions_keyed = sound.exceptions_keyed;
  exception_rows = sound.exception_rows;
}

-- ---- holders

-- nobody holds a key any longer that only the row's own record held
abbrev pub other_than : List ℕ → Option (List ℕ) → Option (List ℕ)
other_than own None = None
other_than own (Some lei) = cond (bytes_eq lei own) None (Some lei)

kept : (table : Table) (row : Row) (authority id : List ℕ) → IsKeyed table → AuthorityKeysAreUnique table → IsFree table row → holds authority id row ≡ false
    → (held : Option (List ℕ)) → holder_of table authority id ≡ held → holder_of (with_row table row) authority id ≡ other_than (lei_in row) held
kept table row authority id keyed holders free not_held None is =
    first_of-none (with_row table row) (holds authority id) (IsKeyed-put table row keyed) (λ lei hit.
    split table row lei hit.row ⊥ hit.at
    (λ own same. let clash : true ≡ false = sym hit.passes ∙ (ap (holds authority id) (sym same) ∙ not_held) in true≢false clash)
    (λ other was.
    let found = hit-first_of table (holds authority id) lei (record { row = hit.row; at = was; passes = hit.passes }) in
    some_apart found.0 (sym found.1 ∙ is)))
kept table row authority id keyed holders free not_held (Some lei) is =
    let hit : Hit table (holds authority id) lei = first_of-hit table (holds authority id) lei keyed is in
    let still : (other : List ℕ) → Hit (with_row table row) (holds authority id) other → (other ≡ lei) × (bytes_eq other (lei_in row) ≡ false) =
    λ other h. split table row other h.row ((other ≡ lei) × (bytes_eq other (lei_in row) ≡ false)) h.at
    (λ own same. let clash : true ≡ false = sym h.passes ∙ (ap (holds authority id) (sym same) ∙ not_held) in absurd (true≢false clash))
    (λ differs was. (holders authority id other lei h.row hit.row was hit.at h.passes hit.passes, differs)) in
    elim (bytes_eq lei (lei_in row)) as (λ b. bytes_eq lei (lei_in row) ≡ b → holder_of (with_row table row) authority id ≡ cond b None (Some lei)) [
      | true ↦ λ t. first_of-none (with_row table row) (holds authority id) (IsKeyed-put table row keyed) (λ other h.
          let both = still other h in
          let clash : true ≡ false = sym t ∙ (ap (λ l. bytes_eq l (lei_in row)) (sym both.0) ∙ both.1) in
          true≢false clash)
      | false ↦ λ t.
          let at : row_at (with_row table row) lei ≡ Some hit.row = row_at-put table row lei ∙ (ap (λ b. cond b (Some row) (row_at table lei)) t ∙ hit.at) in
          first_of-only (with_row table row) (holds authority id) lei (IsKeyed-put table row keyed) (record { row = hit.row; at = at; passes = hit.passes }) (λ other h. (still other h).0)
    ] refl

-- the holder of a key is the row, if it holds it, and otherwise the previous one, except the row's own record
pub holder_of-put : (table : Table) (row : Row) (authority id : List ℕ) → IsKeyed table → AuthorityKeysAreUnique table → IsFree table row
    → holder_of (with_row table row) authority id ≡ cond (holds authority id row) (Some (lei_in row)) (other_than (lei_in row) (holder_of table authority id))
holder_of-put table row authority id keyed holders free =
    elim (holds authority id row) as (λ b. holds authority id row ≡ b
    → holder_of (with_row table row) authority id ≡ cond b (Some (lei_in row)) (other_than (lei_in row) (holder_of table authority id))) [
      | true ↦ λ t.
          let at : row_at (with_row table row) (lei_in row) ≡ Some row =
          row_at-put table row (lei_in row) ∙ ap (λ b. cond b (Some row) (row_at table (lei_in row))) (bytes_itself (lei_in row)) in
          let hit : Hit (with_row table row) (holds authority id) (lei_in row) = record { row = row; at = at; passes = t } in
          first_of-only (with_row table row) (holds authority id) (lei_in row) (IsKeyed-put table row keyed) hit
          (λ other h. AuthorityKeysAreUnique-put table row keyed holders free authority id other (lei_in row) h.row row h.at at h.passes t)
      | false ↦ λ t. kept table row authority id keyed holders free t (holder_of table authority id) refl
    ] refl
