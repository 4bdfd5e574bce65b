-- Who holds an authority key in a table, and what a row that is put changes.
use Rattle.std.specs.Prelude.{◌≡◌, ℕ, Bool, true, false, not, ◌&&◌, cond, List, [], ◌∷◌, find, option_map, Option, Some, None, is_some}
use Rattle.std.specs.Cmp.{IsTotalOrder, tied_itself}
use Rattle.std.specs.FinMap.{get, slice_cmp-IsAntisymmetric, nat_cmp-IsAntisymmetric}
use Rattle.std.specs.Ordering.{nat_cmp, is_eq, eq_by_cmp, ordering_then}
use Rattle.std.specs.Cmp.Lexicographic.{slice_cmp}
use Rattle.std.specs.Str.{bytes_eq}
use Rattle.std.specs.declared.cmp.Ordering.{Ordering}
use Rattle.std.specs.declared.cmp.Ordering.TheVariants.{Less, Equal, Greater}
use Rattle.std.proofs.Common.{refl, sym, ap, ◌∙◌}
use mathlib.Core.Bool.{true≢false}
use Rattle.std.proofs.lemmas.Cmp.{lists_total, nat_list_cmp_total}
use Rattle.std.proofs.lemmas.Map.Text.{is_eq-slice_cmp}
use Rattle.lei_records.specs.declared.view.Seen.{Seen}
use Rattle.lei_records.specs.Cells.{Cells, lei_in, akey, holds}
use Rattle.lei_records.specs.Rows.{Row}
use Rattle.lei_records.specs.Tables.{KeyTexts, Table, key_cmp, record_key, row_at, records_of, holder_of, holds_key, other_holder, seen, cells_of, IsKeyed, AuthorityKeysAreUnique, IsSoundTable}
use Rattle.authority_rules.specs.Taken.{unless_own, seen_holder, taken}
use Rattle.authority_rules.proofs.MapLemmas.{find-values, values-find}

-- ---- keys

pub keys_total : IsTotalOrder key_cmp
keys_total = lists_total nat_list_cmp_total

tied : (r : Ordering) → is_eq r ≡ true → r ≡ Equal
tied Less p = cc
tied Equal p = refl
tied Greater p = cc

pub same_key : (a b : KeyTexts) → eq_by_cmp key_cmp a b ≡ true → a ≡ b
same_key a b e = slice_cmp-IsAntisymmetric (slice_cmp-IsAntisymmetric nat_cmp-IsAntisymmetric) a b (tied _ e)

alone : (r : Ordering) → is_eq (ordering_then r Equal) ≡ is_eq r
alone Less = refl
alone Equal = refl
alone Greater = refl

-- two records have the same key exactly if they have the same code
pub key_eq : (a b : List ℕ) → eq_by_cmp key_cmp (record_key a) (record_key b) ≡ bytes_eq a b
key_eq a b = alone (slice_cmp nat_cmp a b) ∙ is_eq-slice_cmp a b

first_text : KeyTexts → List ℕ
first_text [] = []
first_text (text ∷ texts) = text

pub same_lei : (a b : List ℕ) → record_key a ≡ record_key b → a ≡ b
unfolding first_text
same_lei a b e = ap first_text e

pub bytes_same : (a b : List ℕ) → bytes_eq a b ≡ true → a ≡ b
bytes_same a b e = same_lei a b (same_key (record_key a) (record_key b) (key_eq a b ∙ e))

pub bytes_itself : (a : List ℕ) → bytes_eq a a ≡ true
bytes_itself a = sym (key_eq a a) ∙ ap is_eq (tied_itself keys_total (record_key a))

-- ---- the first record that passes a test

-- a row that is under this code and passes the test
pub record Hit (table : Table) (test : Row → Bool) (lei : List ℕ) : Type 0 where
  pub row : Row
  pub at : row_at table lei ≡ Some row
  pub passes : test row ≡ true

abbrev pub first_of : Table → (Row → Bool) → Option (List ℕ)
first_of table test = option_map lei_in (find test (records_of table))

hit_of : (table : Table) (test : Row → Bool) → IsKeyed table → (found : Option Row) → find test (records_of table) ≡ found → (lei : List ℕ) → option_map lei_in found ≡ Some lei → Hit table test lei
hit_of table test keyed None is lei named = cc
hit_of table test keyed (Some row) is lei named =
    let under = find-values keys_total table.records test row is in
    let own : under.0 ≡ record_key (lei_in row) = keyed under.0 row under.1 in
    let same : lei_in row ≡ lei = cc in
    let key : record_key lei ≡ under.0 = ap record_key (sym same) ∙ sym own in
    record { row = row; at = ap (get table.records) key ∙ under.1; passes = under.2 }

pub first_of-hit : (table : Table) (test : Row → Bool) (lei : List ℕ) → IsKeyed table → first_of table test ≡ Some lei → Hit table test lei
first_of-hit table test lei keyed is = hit_of table test keyed (find test (records_of table)) refl lei is

pub hit-first_of : (table : Table) (test : Row → Bool) (lei : List ℕ) → Hit table test lei → (other : List ℕ) × (first_of table test ≡ Some other)
hit-first_of table test lei hit =
    let found = values-find keys_total table.records test (record_key lei) hit.row hit.at hit.passes in
    (lei_in found.0, ap (option_map lei_in) found.1)

none_by : (table : Table) (test : Row → Bool) → IsKeyed table → ((lei : List ℕ) → Hit table test lei → ⊥) → (found : Option (List ℕ)) → first_of table test ≡ found → found ≡ None
none_by table test keyed never None is = refl
none_by table test keyed never (Some lei) is = absurd (never lei (first_of-hit table test lei keyed is))

-- if no row passes the test, there is no first one
pub first_of-none : (table : Table) (test : Row → Bool) → IsKeyed table → ((lei : List ℕ) → Hit table test lei → ⊥) → first_of table test ≡ None
first_of-none table test keyed never = none_by table test keyed never (first_of table test) refl

-- if only this one does, it is the first
pub first_of-only : (table : Table) (test : Row → Bool) (lei : List ℕ) → IsKeyed table → Hit table test lei → ((other : List ℕ) → Hit table test other → other ≡ lei) → first_of table test ≡ Some lei
first_of-only table test lei keyed hit only =
    let found = hit-first_of table test lei hit in
    found.1 ∙ ap Some (only found.0 (first_of-hit table test found.0 keyed found.1))

-- the row under a code has that code
pub hit_code : (table : Table) (test : Row → Bool) (lei : List ℕ) → IsKeyed table → (hit : Hit table test lei) → lei ≡ lei_in hit.row
hit_code table test lei keyed hit = same_lei lei (lei_in hit.row) (keyed (record_key lei) hit.row hit.at)

pub some_apart : {X : Type 0} (x : X) → Some x ≡ None → ⊥
some_apart x e = true≢false (ap is_some e)

-- ---- another holder of a row's key, over all rows and by what the cells have

pub both_true : (a b : Bool) → a ≡ true → b ≡ true → (a && b) ≡ true
both_true a b p q = cc

pub first_true : (a b : Bool) → (a && b) ≡ true → a ≡ true
first_true true b e = refl
first_true false b e = e

pub second_true : (a b : Bool) → (a && b) ≡ true → b ≡ true
second_true true b e = e
second_true false b e = cc

pub not_true : (b : Bool) → not b ≡ true → b ≡ false
not_true true e = cc
not_true false e = refl

abbrev pub is_other : Option (List ℕ × List ℕ) → List ℕ → Row → Bool
is_other key own other = holds_key key other && not (bytes_eq (lei_in other) own)

-- what a view answers for a key, over the cells of a table
abbrev holder_at : Table → Option (List ℕ × List ℕ) → Option (List ℕ)
holder_at table None = None
holder_at table (Some key) = holder_of table key.0 key.1

other_than : (table : Table) (authority id own : List ℕ) → IsKeyed table → AuthorityKeysAreUnique table → (held : Option (List ℕ)) → holder_of table authority id ≡ held
    → unless_own own (seen held) ≡ seen (first_of table (is_other (Some (authority, id)) own))
other_than table authority id own keyed holders None is =
    let never : (lei : List ℕ) → Hit table (is_other (Some (authority, id)) own) lei → ⊥ = λ lei hit.
    let found = hit-first_of table (holds authority id) lei (record { row = hit.row; at = hit.at; passes = first_true _ _ hit.passes }) in
    absurd (some_apart found.0 (sym found.1 ∙ is)) in
    ap seen (sym (first_of-none table (is_other (Some (authority, id)) own) keyed never))
other_than table authority id own keyed holders (Some lei) is =
    let hit : Hit table (holds authority id) lei = first_of-hit table (holds authority id) lei keyed is in
    let code : lei ≡ lei_in hit.row = hit_code table (holds authority id) lei keyed hit in
    let only : (other : List ℕ) → Hit table (is_other (Some (authority, id)) own) other → other ≡ lei =
    λ other h. holders authority id other lei h.row hit.row h.at hit.at (first_true _ _ h.passes) hit.passes in
    elim (bytes_eq lei own) as (λ b. bytes_eq lei own ≡ b → cond b Seen.Empty (Seen.Held lei) ≡ seen (first_of table (is_other (Some (authority, id)) own))) [
      | true ↦ λ t.
          let never : (other : List ℕ) → Hit table (is_other (Some (authority, id)) own) other → ⊥ = λ other h.
          let differs : bytes_eq (lei_in h.row) own ≡ false = not_true _ (second_true _ _ h.passes) in
          let named : other ≡ lei_in h.row = hit_code table (is_other (Some (authority, id)) own) other keyed h in
          let same : lei_in h.row ≡ lei = sym named ∙ only other h in
          true≢false (sym t ∙ (ap (λ l. bytes_eq l own) (sym same) ∙ differs)) in
          ap seen (sym (first_of-none table (is_other (Some (authority, id)) own) keyed never))
      | false ↦ λ t.
          let differs : not (bytes_eq (lei_in hit.row) own) ≡ true = ap (λ l. not (bytes_eq l own)) (sym code) ∙ ap not t in
          let other : Hit table (is_other (Some (authority, id)) own) lei = record { row = hit.row; at = hit.at; passes = both_true _ _ hit.passes differs } in
          ap seen (sym (first_of-only table (is_other (Some (authority, id)) own) lei keyed other only))
    ] refl

other_of : (table : Table) (key : Option (List ℕ × List ℕ)) (own : List ℕ) → IsKeyed table → AuthorityKeysAreUnique table
    → unless_own own (seen (holder_at table key)) ≡ seen (first_of table (is_other key own))
other_of table None own keyed holders =
    ap seen (sym (first_of-none table (is_other None own) keyed (λ lei hit. let clash : false ≡ true = hit.passes in cc)))
other_of table (Some key) own keyed holders = other_than table key.0 key.1 own keyed holders (holder_of table key.0 key.1) refl

-- over a table without two holders of a key, the holder of the row's key is another one exactly if there is another one
-- among all rows
pub other_holder-seen : (table : Table) (row : Row) → IsKeyed table → AuthorityKeysAreUnique table
    → unless_own (lei_in row) (seen (holder_at table (akey row))) ≡ seen (other_holder table row)
other_holder-seen table row keyed holders = other_of table (akey row) (lei_in row) keyed holders

key_seen : (table : Table) (key : Option (List ℕ × List ℕ)) → seen_holder (cells_of table) key ≡ seen (holder_at table key)
key_seen table None = refl
key_seen table (Some key) = refl

-- the same by the cells of the table
pub taken-cells : (table : Table) (row : Row) → IsKeyed table → AuthorityKeysAreUnique table → taken (cells_of table) row ≡ seen (other_holder table row)
taken-cells table row keyed holders =
    ap (unless_own (lei_in row)) (key_seen table (akey row)) ∙ other_holder-seen table row keyed holders

-- and for a view that answers the cells of a sound table
pub taken-over_table : (cells : Cells) (table : Table) (row : Row) → IsSoundTable table → cells ≡ cells_of table → taken cells row ≡ seen (other_holder table row)
taken-over_table cells table row sound same = ap (λ answers. taken answers row) same ∙ taken-cells table row sound.keyed sound.holders
