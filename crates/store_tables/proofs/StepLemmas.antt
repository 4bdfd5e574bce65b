-- The rows of entries and of cells of form 2, and how inserting an entry and putting a cell change what they tell.
use Rattle.std.proofs.Common.{◌≡◌, ◌≤◌, ◌<◌, ◌+◌, ℕ, ℤ, pos, Bool, true, false, not, cond, ◌&&◌, ◌||◌, List, [], ◌∷◌, ◌++◌, map, Option, Some, Ordering, Less, Equal, Greater, is_eq, refl, sym, ap, subst, ◌∙◌, arith, true≢false}
use Rattle.std.specs.List.{AllByRecursion}
use Rattle.std.specs.FinMap.{find, from_entries, get, get-from_entries, get-insert, nat_cmp-IsAntisymmetric, same_map, slice_cmp-IsAntisymmetric}
use Rattle.std.specs.Cmp.Lexicographic.{slice_cmp}
use Rattle.std.specs.Ordering.{match_ordering, nat_cmp}
use Rattle.std.proofs.lemmas.Bool.Decides.{nat_tests}
use Rattle.std.proofs.lemmas.Cmp.{nat_list_cmp_total}
use Rattle.sqlite_value.specs.declared.value.Value.TheVariants.{Int}
use Rattle.sqlite_value.specs.Order.{Row, value_cmp}
use Rattle.sqlite_value.proofs.OrderLemmas.{value_cmp-Int}
use Rattle.sqlite_trees.specs.Tree.{put_row, rowid}
use Rattle.sqlite_trees.proofs.TreeLemmas.{IsTable-put_row, all-put_row}
use Rattle.sqlite_schema.specs.declared.schema.Constraint.TheVariants.{Unique}
use Rattle.sqlite_schema.specs.Rules.{Keeps}
use Rattle.sqlite_rules.specs.Edit.{is_taken}
use Rattle.sqlite_rules.proofs.ListLemmas.{all_has}
use Rattle.sqlite.specs.Effect.{Database, IsDatabase}
use Rattle.lei_values.specs.KeptTables.{CellContent, CellPlace, KeptTables, cell_content, cell_place, last_number, put_cell}
use Rattle.lei_values.specs.declared.entry.KeptEntry.{KeptEntry}
use Rattle.lei_values.specs.declared.cell.KeptCell.{KeptCell}
use Rattle.lei_values.proofs.Places.{itself, tied}
use Rattle.store_statements.specs.Schemas.{whole_schema}
use Rattle.store_tables.specs.Calls.{HoldsTables, tables_with_cell, tables_with_entry}
use Rattle.store_tables.specs.Stored.{cell_fits, entry_fits, entry_of, form_1, form_2, stored_cell2, stored_entry}
use Rattle.store_tables.specs.Told.{place_and_content, tables_in_rows}
use Rattle.store_tables.proofs.CellWriting.{Puts, Stay, cell_again, cell_is_cell}
use Rattle.store_tables.proofs.EntryWriting.{Inserts}
use Rattle.store_tables.proofs.NumberLemmas.{all_at_most, id_is, map_snoc}
use Rattle.store_tables.proofs.PlaceLemmas.{Apart, apart_rows, by_both, by_place, keyed_1, keyed_2, place, same_place}
use Rattle.store_tables.proofs.RowLemmas.{AreCells, AreEntries, AreTold, IsCell, IsEntry, told_as_back, told_as_is}
use Rattle.store_tables.proofs.SameLemmas.{left_of}

-- The database has all four tables and obeys its schema, and its rows of entries and of cells of form 2 are those of
-- these tables.
pub record HasRows (db : Database) (t : KeptTables) : Type 0 where
  pub whole : db.schema ≡ whole_schema
  pub sound : IsDatabase db
  pub told : AreTold form_2 (db.trees 0) (db.trees 5)
  pub is : t ≡ tables_in_rows form_2 (db.trees 0) (db.trees 5)

pub rows_hold : (db : Database) (t : KeptTables) → HasRows db t → HoldsTables db.schema db.trees t
rows_hold db t h = record {
  whole = h.whole;
  sound = h.sound;
  told = told_as_back form_2 (db.trees 0) (db.trees 5) h.told ∙ ap Some (sym h.is);
}

pub hold_rows : (db : Database) (t : KeptTables) → HoldsTables db.schema db.trees t → HasRows db t
hold_rows db t h =
    let it = told_as_is form_2 (db.trees 0) (db.trees 5) t h.told in
    record { whole = h.whole; sound = h.sound; told = it.0; is = it.1 }

-- ---- no two cells have the same place

not_not : (a : Bool) → not (true && a) ≡ true → a ≡ false
not_not true h = absurd (cc)
not_not false h = refl

unique_in : (db : Database) → db.schema ≡ whole_schema → IsDatabase db → Keeps Unique whole_schema db.trees
unique_in db whole sound = subst (λ s. Keeps Unique s db.trees) whole (sound.obeys.rules Unique)

pub rows_apart : (db : Database) (t : KeptTables) → HasRows db t → Apart form_2 (db.trees 5)
rows_apart db t h =
    let unique = unique_in db h.whole h.sound in
    apart_rows form_2 by_both keyed_2 (db.trees 5)
    (λ x has. not_not _ (left_of _ _ (all_has _ (db.trees 5) x unique.1.1.1.0 has))) h.told.cells

-- and the same for those of form 1
pub first_apart : (db : Database) → db.schema ≡ whole_schema → IsDatabase db → AreCells form_1 (db.trees 1)
    → Apart form_1 (db.trees 1)
first_apart db whole sound are =
    let unique = unique_in db whole sound in
    apart_rows form_1 by_place keyed_1 (db.trees 1)
    (λ x has. not_not _ (left_of _ _ (all_has _ (db.trees 1) x unique.1.0 has))) are

-- ---- an entry

at_end : (new : Row) (rows : List Row) → AllByRecursion (λ r. value_cmp (rowid r) (rowid new) ≡ Less) rows
    → put_row new rows ≡ rows ++ new ∷ []
at_end new [] all = refl
at_end new (r ∷ rows) all = rw all.0 (ap (λ xs. r ∷ xs) (at_end new rows all.1))

below_new : (m n : ℕ) → m < n → value_cmp (Int (pos m)) (Int (pos n)) ≡ Less
below_new m n low = value_cmp-Int (pos m) (pos n) ∙ grind (arith, nat_tests)

all_below : (e : KeptEntry) (last : ℕ) (rows : List Row) → last < e.seq → AllByRecursion IsEntry rows
    → AllByRecursion (λ r. (entry_of r).seq ≤ last) rows
    → AllByRecursion (λ r. value_cmp (rowid r) (rowid (stored_entry e)) ≡ Less) rows
all_below e last [] low each most = tt
all_below e last (r ∷ rows) low each most = (
  subst (λ v. value_cmp v (rowid (stored_entry e)) ≡ Less) (sym (id_is r each.0))
      (below_new _ _ (let top = most.0 in omega (arith, top, low))),
  all_below e last rows low each.1 most.1,
)

pub rows_insert : (old new : Database) (t : KeptTables) (e : KeptEntry) → HasRows old t → Inserts old new e
    → entry_fits e ≡ true → e.seq ≡ last_number t + 1 → HasRows new (tables_with_entry e t)
rows_insert old new t e h made fits next =
    let low : last_number (tables_in_rows form_2 (old.trees 0) (old.trees 5)) < e.seq = omega
    (arith, next, ap last_number h.is) in
    let below = all_below e _ (old.trees 0) low h.told.entries.each
    (all_at_most form_2 (old.trees 0) (old.trees 5) h.told.entries) in
    let ended : new.trees 0 ≡ old.trees 0 ++ stored_entry e ∷ [] = made.entries
    ∙ at_end (stored_entry e) (old.trees 0) below in
    record {
      whole = made.schema;
      sound = made.sound;
      told = record {
        entries = subst AreEntries (sym made.entries) (record {
          rise = IsTable-put_row (stored_entry e) (old.trees 0) h.told.entries.rise;
          each = all-put_row IsEntry (stored_entry e) (old.trees 0) (refl, fits) h.told.entries.each;
        });
        cells = subst (AreCells form_2) (sym made.cells) h.told.cells;
      };
      is = ap (tables_with_entry e) h.is
          ∙ (λ i. record {
            entries =
                (sym (ap (map entry_of) ended ∙ map_snoc entry_of (old.trees 0) (stored_entry e)) i);
            cells =
                from_entries (map (place_and_content form_2) (sym made.cells i));
          });
    }

-- ---- a cell

swap : {X : Type 0} (a b : Bool) (x y z : X) → (a ≡ true → b ≡ true → ⊥)
    → cond a x (cond b y z) ≡ cond b y (cond a x z)
swap true true x y z apart = absurd (apart refl refl)
swap true false x y z apart = refl
swap false b x y z apart = refl

or_left : (a b : Bool) → (a || b) ≡ false → a ≡ false
or_left true b h = absurd (cc)
or_left false b h = refl

or_right : (a b : Bool) → (a || b) ≡ false → b ≡ false
or_right true b h = absurd (cc)
or_right false b h = h

-- no place is that of both
never_both : (q a b : CellPlace) → same_place a b ≡ false → same_place q b ≡ true → same_place q a ≡ true → ⊥
never_both q a b apart p r = true≢false
    (sym (itself a) ∙ (ap (same_place a) (sym (tied q a r) ∙ tied q b p) ∙ apart))

-- what is in a place after a row was put
find_put : (q : CellPlace) (new : Row) (rows : List Row)
    → AllByRecursion (λ s. same_place (place form_2 new) (place form_2 s) ≡ false) rows → is_taken rows new ≡ false
    → find (slice_cmp nat_cmp) q (map (place_and_content form_2) (put_row new rows))
    ≡ cond (same_place q (place form_2 new)) (Some (place_and_content form_2 new).1) (find (slice_cmp nat_cmp) q (map (place_and_content form_2) rows))
find_put q new [] apart free = refl
find_put q new (r ∷ rows) apart free = go (value_cmp (rowid r) (rowid new)) refl (find_put q new rows apart.1)
  where
    go : (o : Ordering) → value_cmp (rowid r) (rowid new) ≡ o
        → (is_taken rows new ≡ false
        → find (slice_cmp nat_cmp) q (map (place_and_content form_2) (put_row new rows))
        ≡ cond (same_place q (place form_2 new)) (Some (place_and_content form_2 new).1)
        (find (slice_cmp nat_cmp) q (map (place_and_content form_2) rows)))
        → find (slice_cmp nat_cmp) q
        (map (place_and_content form_2) (match_ordering o (r ∷ put_row new rows) (new ∷ rows) (new ∷ r ∷ rows)))
        ≡ cond (same_place q (place form_2 new)) (Some (place_and_content form_2 new).1)
        (cond (same_place q (place form_2 r)) (Some (place_and_content form_2 r).1) (find (slice_cmp nat_cmp) q (map (place_and_content form_2) rows)))
    go Less e more =
        ap (cond (same_place q (place form_2 r)) (Some (place_and_content form_2 r).1)) (more (or_right _ _ free))
        ∙ swap (same_place q (place form_2 r)) (same_place q (place form_2 new)) _ _ _
        (never_both q (place form_2 new) (place form_2 r) apart.0)
    go Equal e more = absurd (true≢false (sym (ap is_eq e) ∙ or_left _ _ free))
    go Greater e more = refl

pub same_places : (a b : CellPlace) → slice_cmp nat_cmp a b ≡ Equal → a ≡ b
same_places = slice_cmp-IsAntisymmetric nat_cmp-IsAntisymmetric

one_way : (b : Bool) (x : Option CellContent) (y z : Option CellContent) → (b ≡ false → y ≡ z)
    → cond b x y ≡ cond b x z
one_way true x y z same = refl
one_way false x y z same = same refl

-- The map after the cell was put.
cells_put : (old rest new : List Row) (id : ℤ) (c : KeptCell) → Stay old rest c
    → new ≡ put_row (stored_cell2 id c) rest → is_taken rest (stored_cell2 id c) ≡ false
    → put_cell (from_entries {R = slice_cmp nat_cmp} (map (place_and_content form_2) old)) c
    ≡ from_entries {R = slice_cmp nat_cmp} (map (place_and_content form_2) new)
cells_put old rest new id c stay is free = same_map nat_list_cmp_total same_places _ _ (λ q.
    let row = stored_cell2 id c in
    let again = cell_again id c in
    let apart = subst (λ x. AllByRecursion (λ s. same_place (cell_place x) (place form_2 s) ≡ false) rest) (sym again)
    stay.apart in
    let found : find (slice_cmp nat_cmp) q (map (place_and_content form_2) new)
    ≡ cond (same_place q (cell_place c)) (Some (cell_content c))
    (find (slice_cmp nat_cmp) q (map (place_and_content form_2) rest)) =
    ap (λ xs. find (slice_cmp nat_cmp) q (map (place_and_content form_2) xs)) is
    ∙ (find_put q row rest apart free
    ∙ ap (λ x. cond (same_place q (cell_place x)) (Some (cell_content x))
    (find (slice_cmp nat_cmp) q (map (place_and_content form_2) rest))) again) in
    let were : cond (same_place q (cell_place c)) (Some (cell_content c))
    (find (slice_cmp nat_cmp) q (map (place_and_content form_2) rest))
    ≡ cond (same_place q (cell_place c)) (Some (cell_content c)) (find (slice_cmp nat_cmp) q (map (place_and_content form_2) old)) =
    one_way _ _ _ _ (stay.found q) in
    let given : get (put_cell (from_entries {R = slice_cmp nat_cmp} (map (place_and_content form_2) old)) c) q
    ≡ cond (same_place q (cell_place c)) (Some (cell_content c)) (find (slice_cmp nat_cmp) q (map (place_and_content form_2) old))
    =
    get-insert nat_list_cmp_total (from_entries (map (place_and_content form_2) old)) (cell_place c) (cell_content c) q
    ∙ ap (cond (same_place q (cell_place c)) (Some (cell_content c)))
    (get-from_entries nat_list_cmp_total (map (place_and_content form_2) old) q) in
    given ∙ sym (get-from_entries nat_list_cmp_total (map (place_and_content form_2) new) q ∙ (found ∙ were)))

pub rows_put : (old new : Database) (t : KeptTables) (c : KeptCell) → HasRows old t → Puts old new c
    → cell_fits c ≡ true → HasRows new (tables_with_cell c t)
rows_put old new t c h made fits = record {
  whole = made.schema;
  sound = made.sound;
  told = record {
    entries = subst AreEntries (sym made.entries) h.told.entries;
    cells = subst (AreCells form_2) (sym made.cells) (record {
      rise = IsTable-put_row (stored_cell2 made.id c) made.rest made.stay.are.rise;
      each = all-put_row (IsCell form_2) (stored_cell2 made.id c) made.rest (cell_is_cell made.id c fits)
          made.stay.are.each;
    });
  };
  is = ap (tables_with_cell c) h.is ∙ (λ i. record {
    entries = map entry_of (sym made.entries i);
    cells = cells_put (old.trees 5) made.rest (new.trees 5) made.id c made.stay made.cells made.fresh i;
  });
}
