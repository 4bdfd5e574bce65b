-- The move from form 1 to form 2, part by part.
use Rattle.std.proofs.Common.{◌≡◌, ◌≤◌, inl, inr, ℤ, Bool, true, false, cond, List, [], ◌∷◌, ◌++◌, map, take, drop, option_map, Option, None, Some, IsTrue, refl, sym, ap, subst, ◌∙◌, append-nil, append_assoc, true≢false}
use Rattle.std.specs.List.{AllByRecursion}
use Rattle.std.specs.FinMap.{empty, find, from_entries, get, get-empty, get-from_entries, get-insert, same_map}
use Rattle.std.specs.Cmp.Lexicographic.{slice_cmp}
use Rattle.std.specs.Ordering.{nat_cmp}
use Rattle.std.proofs.lemmas.Cmp.{nat_list_cmp_total}
use Rattle.std.proofs.lemmas.List.{map-append, take-append-drop}
use Rattle.std.proofs.lemmas.List.Sums.{fold-append}
use Rattle.sqlite_value.specs.Order.{Row, column}
use Rattle.sqlite_rules.specs.Edit.{id_in}
use Rattle.sqlite_trees.specs.Tree.{IsTable}
use Rattle.sqlite.specs.Effect.{Database}
use Rattle.sqlite.specs.State.{State}
use Rattle.lei_values.specs.KeptTables.{CellContent, CellPlace, CellsByPlace, KeptTables, cell_content, put_cell, put_cells}
use Rattle.lei_values.specs.declared.cell.KeptCell.{KeptCell}
use Rattle.lei_values.proofs.Places.{tied}
use Rattle.store_tables.specs.Calls.{AreFirst, Carried, Carries, ChangesTables, Clears, Forms, HoldsTables, Moves, MovesPage, ReadsPage, TellsFirst, last_id, with_cells}
use Rattle.store_tables.specs.Stored.{cell_in_row, form_1, form_2}
use Rattle.store_tables.specs.Told.{place_and_content}
use Rattle.store_tables.proofs.EntryReading.{cell_number}
use Rattle.store_tables.proofs.NumberLemmas.{last_of, snoc}
use Rattle.store_tables.proofs.PageLemmas.{all_front}
use Rattle.store_tables.proofs.PlaceLemmas.{Apart, none_found, place, same_place}
use Rattle.store_tables.proofs.RowLemmas.{AreCells, AreTold, IsCell, are_first, first_back, told_as_back, told_as_is}
use Rattle.store_tables.proofs.StepLemmas.{first_apart, same_places}

-- ---- cells that are put one by one

abbrev or_else : Option CellContent → Option CellContent → Option CellContent
or_else (Some v) o = Some v
or_else None o = o

-- what is in a place after cells of rows with different places were put
found_put : (q : CellPlace) (rows : List Row) (m : CellsByPlace) → Apart form_1 rows
    → get (put_cells m (map cell_in_row rows)) q
    ≡ or_else (find (slice_cmp nat_cmp) q (map (place_and_content form_1) rows)) (get m q)
found_put q [] m apart = refl
found_put q (r ∷ rows) m apart =
    found_put q rows (put_cell m (cell_in_row r)) apart.1
    ∙ (ap (or_else (find (slice_cmp nat_cmp) q (map (place_and_content form_1) rows)))
    (get-insert nat_list_cmp_total m (place form_1 r) (cell_content (cell_in_row r)) q)
    ∙ go (same_place q (place form_1 r)) refl)
  where
    go : (b : Bool) → same_place q (place form_1 r) ≡ b
        → or_else (find (slice_cmp nat_cmp) q (map (place_and_content form_1) rows))
        (cond b (Some (cell_content (cell_in_row r))) (get m q))
        ≡ or_else (cond b (Some (cell_content (cell_in_row r)))
        (find (slice_cmp nat_cmp) q (map (place_and_content form_1) rows))) (get m q)
    go true e =
        let none : find (slice_cmp nat_cmp) q (map (place_and_content form_1) rows) ≡ None =
        none_found form_1 q rows (subst
        (λ p. AllByRecursion (λ s. same_place p (place form_1 s) ≡ false) rows)
        (sym (tied q (place form_1 r) e)) apart.0) in
        ap (λ o. or_else o (Some (cell_content (cell_in_row r)))) none
    go false e = refl

or_none : (o : Option CellContent) → or_else o None ≡ o
or_none None = refl
or_none (Some v) = refl

-- All cells of rows with different places make their map.
all_put : (rows : List Row) → Apart form_1 rows
    → put_cells empty (map cell_in_row rows) ≡ from_entries {R = slice_cmp nat_cmp} (map (place_and_content form_1) rows)
all_put rows apart = same_map nat_list_cmp_total same_places _ _ (λ q.
    found_put q rows empty apart
    ∙ (ap (or_else (find (slice_cmp nat_cmp) q (map (place_and_content form_1) rows))) (get-empty (slice_cmp nat_cmp) q)
    ∙ or_none _ ∙ sym (get-from_entries nat_list_cmp_total (map (place_and_content form_1) rows) q)))

-- ---- the beginning and the end

pub begins : (s : State) (t : KeptTables) → TellsFirst s.now.schema s.now.trees t
    → Carried s.now.trees s.now t
begins s t tells =
    let it = told_as_is form_1 (s.now.trees 0) (s.now.trees 1) t tells.told in
    let none : AreTold form_2 (s.now.trees 0) (s.now.trees 5) = record {
      entries = it.0.entries;
      cells = subst (AreCells form_2) (sym tells.none) (record { rise = tt; each = tt });
    } in
    record {
      are = first_back (s.now.trees 1) it.0.cells;
      front = [];
      rest = s.now.trees 1;
      rows = refl;
      left = refl;
      form = tells.form;
      holds = record {
        whole = tells.whole;
        sound = tells.sound;
        told = told_as_back form_2 (s.now.trees 0) (s.now.trees 5) none
            ∙ (λ i. Some (record {
              entries = (ap (λ (x : KeptTables). x.entries) (sym it.1) i);
              cells = from_entries (map (place_and_content form_2) (tells.none i));
            }));
      };
    }

pub ends_moved : (before : State) (now : Database) (t : KeptTables)
    → TellsFirst before.now.schema before.now.trees t → Carried before.now.trees now t → now.trees 1 ≡ []
    → HoldsTables now.schema now.trees t
ends_moved before now t tells carried none =
    let it = told_as_is form_1 (before.now.trees 0) (before.now.trees 1) t tells.told in
    let all : before.now.trees 1 ≡ carried.front = carried.rows
    ∙ (ap (λ xs. carried.front ++ xs) (sym carried.left ∙ none) ∙ append-nil carried.front) in
    let apart = first_apart before.now tells.whole tells.sound it.0.cells in
    let cells : put_cells empty (map cell_in_row carried.front) ≡ t.cells =
    ap (λ rows. put_cells empty (map cell_in_row rows)) (sym all)
    ∙ (all_put (before.now.trees 1) apart ∙ ap (λ (x : KeptTables). x.cells) (sym it.1)) in
    subst (λ x. HoldsTables now.schema now.trees (record { entries = t.entries; cells = x })) cells carried.holds

-- ---- a page

rise_rest : (xs ys : List Row) → IsTable (xs ++ ys) → IsTable ys
rise_rest [] ys up = up
rise_rest (x ∷ xs) ys up = rise_rest xs ys up.1

rest_are : (rows front rest : List Row) → rows ≡ front ++ rest → AreFirst rows → AreCells form_1 rest
rest_are rows front rest is first =
    let are = are_first rows first in
    record {
      rise = rise_rest front rest (subst IsTable is are.rise);
      each = (all_front (IsCell form_1) front rest (subst (AllByRecursion (IsCell form_1)) is are.each)).1;
    }

all_numbered : (rows : List Row) → AllByRecursion (IsCell form_1) rows
    → AllByRecursion (λ (c : KeptCell). 1 ≤ c.touched) (map cell_in_row rows)
all_numbered [] each = tt
all_numbered (r ∷ rows) each = ((cell_number (cell_in_row r) each.0.1).0, all_numbered rows each.1)

abbrev AreNumbered : List KeptCell → KeptTables → Type 0
AreNumbered cells t = AllByRecursion (λ cell. 1 ≤ cell.touched) cells

-- The cells of a page are put, and then its rows are removed.
pub copies_page : (page : List Row) (last : ℤ) (cells : List KeptCell) (a b c : State)
    → cells ≡ map cell_in_row page → ChangesTables (with_cells cells) (AreNumbered cells) a b → Clears last b c
    → MovesPage page last a c
copies_page page last cells a b c is puts clears = record {
  inside = record {
    was_open = puts.inside.was_open;
    is_open = clears.inside.is_open;
    committed = clears.inside.committed ∙ puts.inside.committed;
    mode = clears.inside.mode;
  };
  carried = λ before t carried page_is last_is.
      let split : page ++ drop 100 carried.rest ≡ carried.rest =
      ap (λ xs. xs ++ drop 100 carried.rest) (page_is ∙ ap (take 100) carried.left)
      ∙ take-append-drop 100 carried.rest in
      let rest = rest_are (before 1) carried.front carried.rest carried.rows carried.are in
      let first : AreFirst (page ++ drop 100 carried.rest) = subst AreFirst (sym split)
      (first_back carried.rest rest) in
      let numbered = all_numbered page (all_front (IsCell form_1) page (drop 100 carried.rest)
      (subst (AllByRecursion (IsCell form_1)) (sym split) rest.each)).0 in
      let put = puts.holds _ (subst (AllByRecursion (λ (x : KeptCell). 1 ≤ x.touched)) (sym is) numbered)
      carried.holds in
      let left = clears.left page (drop 100 carried.rest) put.0.whole first
      (put.1.0 ∙ (carried.left ∙ sym split)) last_is in
      record {
        are = carried.are;
        front = carried.front ++ page;
        rest = drop 100 carried.rest;
        rows = carried.rows ∙ (ap (λ xs. carried.front ++ xs) (sym split) ∙ sym (append_assoc carried.front page (drop 100 carried.rest)));
        left = left.0;
        form = left.1 ∙ (put.1.1 ∙ carried.form);
        holds = subst (λ x. HoldsTables c.now.schema c.now.trees (record { entries = t.entries; cells = x }))
            (ap (put_cells (put_cells empty (map cell_in_row carried.front))) is
            ∙ (sym (fold-append put_cell empty (map cell_in_row carried.front) (map cell_in_row page))
            ∙ ap (put_cells empty) (sym (map-append cell_in_row carried.front page))))
            (clears.holds _ put.0);
      };
}

no_page : (rows : List Row) → [] ≡ take 100 rows → rows ≡ []
no_page [] e = refl
no_page (r ∷ rows) e = absurd (cc)

-- if no row is the last, there is none
pub no_last : (rows : List Row) → last_id rows ≡ None → rows ≡ []
no_last rows none = elim (snoc rows) [
  | inl empty ↦ empty
  | inr it ↦ absurd (let e : ◌≡◌ {A = Option ℤ} None (Some (id_in (column it.last 0))) = sym none
      ∙ (ap last_id it.is ∙ ap (option_map (λ r. id_in (column r 0))) (last_of it.front it.last)) in cc)
]

-- A page without a row says that none is left.
pub carries_none : (a b : State) (page : List Row) → ReadsPage a b page → page ≡ []
    → Carries a b false
carries_none a b page reads none = record {
  inside = reads.inside;
  carried = λ before t carried. subst (λ d. Carried before d t) (sym (reads.now carried.holds.whole)) carried;
  done = λ before t carried never.
      let rest = rest_are (before 1) carried.front carried.rest carried.rows carried.are in
      let left = reads.page carried.holds.whole
      (subst AreFirst (sym carried.left) (first_back carried.rest rest)) in
      ap (λ (d : Database). d.trees 1) (reads.now carried.holds.whole)
      ∙ no_page (a.now.trees 1) (sym none ∙ left);
}

pub carries_page : (a b c : State) (page : List Row) (last : ℤ) → ReadsPage a b page
    → last_id page ≡ Some last → MovesPage page last b c → Carries a c true
carries_page a b c page last reads is copies = record {
  inside = record {
    was_open = reads.inside.was_open;
    is_open = copies.inside.is_open;
    committed = copies.inside.committed ∙ reads.inside.committed;
    mode = copies.inside.mode;
  };
  carried = λ before t carried.
      let now = reads.now carried.holds.whole in
      let rest = rest_are (before 1) carried.front carried.rest carried.rows carried.are in
      let read = reads.page carried.holds.whole
      (subst AreFirst (sym carried.left) (first_back carried.rest rest)) in
      copies.carried before t (subst (λ d. Carried before d t) (sym now) carried)
      (read ∙ ap (λ (d : Database). take 100 (d.trees 1)) (sym now)) is;
  done = λ before t carried never. absurd (true≢false never);
}

-- ---- all pages

pub carries_nothing : (s : State) → IsTrue s.is_open → IsTrue s.in_transaction → Carries s s true
carries_nothing s live mode = record {
  inside = record { was_open = live; is_open = live; committed = refl; mode = mode };
  carried = λ before t carried. carried;
  done = λ before t carried never. absurd (true≢false never);
}

pub carries_then : (a b c : State) (more : Bool) → Carries a b true → Carries b c more → Carries a c more
carries_then a b c more one two = record {
  inside = record {
    was_open = one.inside.was_open;
    is_open = two.inside.is_open;
    committed = two.inside.committed ∙ one.inside.committed;
    mode = two.inside.mode;
  };
  carried = λ before t carried. two.carried before t (one.carried before t carried);
  done = λ before t carried. two.done before t (one.carried before t carried);
}

-- All cells are moved, and then the form is written.
pub moves_by : (a b c : State) → Carries a b false → Forms b c → Moves a c
moves_by a b c carries forms = record {
  inside = record {
    was_open = carries.inside.was_open;
    is_open = forms.inside.is_open;
    committed = forms.inside.committed ∙ carries.inside.committed;
    mode = forms.inside.mode;
  };
  told = λ t tells.
      let first = begins a t tells in
      let none = carries.done a.now.trees t first refl in
      let carried = carries.carried a.now.trees t first in
      forms.told t (ends_moved a b.now t tells carried none) carried.form none;
}
