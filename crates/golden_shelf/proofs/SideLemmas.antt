-- Sides: what holds for the lines and notes of a sheet, and changes that are taken back.
use Rattle.std.proofs.Common.{◌≡◌, ℕ, suc, ◌+◌, ◌≤◌, Bool, true, false, ◌&&◌, ◌||◌, cond, Option, None, Some, List, [], ◌∷◌, ◌++◌, T, length, take, drop, refl, sym, ap, subst, ◌∙◌, arith}
use Rattle.std.specs.Prelude.{not}
use Rattle.std.specs.FinMap.Entries.{below_all, find, find-put, find-where_key, is_sorted, same_entries}
use Rattle.std.specs.Cmp.{alike_right, eq_by_cmp_equiv}
use Rattle.std.specs.Ordering.{eq_by_cmp, is_eq, is_lt}
use Rattle.std.specs.declared.cmp.Ordering.{Ordering}
use Rattle.std.proofs.lemmas.Bool.{false≢true}
use Rattle.std.proofs.lemmas.List.{append-nil, drop_all, take_all}
use Rattle.lei_records.specs.Tables.{KeyTexts, key_cmp}
use Rattle.copy_csv.specs.declared.rows.RowTexts.{RowTexts}
use Rattle.copy_csv.proofs.RowLemmas.{key_total}
use Rattle.golden_shelf.specs.Beside.{LinesState}
use Rattle.golden_shelf.specs.Lines.{AreSorted, KeyedLine, LineChange, lines_under, with_changed_line, with_lines}
use Rattle.golden_shelf.specs.declared.lines.Note.{Note}
use Rattle.golden_shelf.specs.Sides.{AreRisingChanges, AreSide, IsChanged, SideState, notes_of}
use Rattle.golden_shelf.proofs.Woven.{key_same, sorted_with_lines}

pub more_room : (rows rest newer later : LinesState) (notes : List LineChange) → newer.lines ≡ rows.lines → later.lines ≡ rest.lines
    → rest.room ≤ later.room → later.room ≤ newer.room → AreSide rows rest notes → AreSide newer later notes
more_room rows rest newer later notes same alike more rooms are =
    let room = are.room in
    let n = ap length same in
    record {
      none_waits = alike ∙ are.none_waits;
      sorted = subst AreSorted (sym same) are.sorted;
      rising = are.rising;
      room = omega (arith, room, n, more);
      rooms = rooms;
    }

-- ---- what is found after changes

-- what is found under a key after changes, computed from what was found before
abbrev pub after : {X : Type 0} → List (KeyTexts × Option X) → KeyTexts → Option X → Option X
after [] k found = found
after (p ∷ ps) k found = after ps k (cond (eq_by_cmp key_cmp k p.0) p.1 found)

turned_cond : {A : Type 0} (b : Bool) (x y : A) → cond (not b) x y ≡ cond b y x
turned_cond true x y = refl
turned_cond false x y = refl

swapped : (j k : KeyTexts) → eq_by_cmp key_cmp j k ≡ eq_by_cmp key_cmp k j
swapped j k = (eq_by_cmp_equiv key_total).symm j k

pub find_with_line : (lines : List KeyedLine) (c : LineChange) (k : KeyTexts)
    → find key_cmp k (with_changed_line lines c) ≡ cond (eq_by_cmp key_cmp k c.0) c.1 (find key_cmp k lines)
find_with_line lines (j, Some texts) k = find-put key_cmp key_total k j texts lines
find_with_line lines (j, None) k =
    find-where_key key_cmp (λ other. not (eq_by_cmp key_cmp j other)) k
    (λ x e. ap (λ r. not (is_eq r)) (sym (alike_right key_total k x j e))) lines
    ∙ turned_cond (eq_by_cmp key_cmp j k) (find key_cmp k lines) None
    ∙ ap (λ b. cond b None (find key_cmp k lines)) (swapped j k)

pub find_with_lines : (lines : List KeyedLine) (cs : List LineChange) (k : KeyTexts)
    → find key_cmp k (with_lines lines cs) ≡ after cs k (find key_cmp k lines)
find_with_lines lines [] k = refl
find_with_lines lines (c ∷ cs) k = find_with_lines (with_changed_line lines c) cs k ∙ ap (after cs k) (find_with_line lines c k)

-- ---- changes that are taken back

equal : (o : Ordering) → is_eq o ≡ true → o ≡ Ordering.Equal
equal Ordering.Less e = absurd (false≢true e)
equal Ordering.Equal e = refl
equal Ordering.Greater e = absurd (false≢true e)

pub tied : (j k : KeyTexts) → eq_by_cmp key_cmp j k ≡ true → j ≡ k
tied j k e = key_same j k (equal (key_cmp j k) e)

-- whether a key is among those of changes
abbrev pub is_changed : {X : Type 0} → KeyTexts → List (KeyTexts × Option X) → Bool
is_changed k [] = false
is_changed k (p ∷ ps) = eq_by_cmp key_cmp k p.0 || is_changed k ps

pub after_none : {X : Type 0} (ps : List (KeyTexts × Option X)) (k : KeyTexts) (found : Option X) → is_changed k ps ≡ false → after ps k found ≡ found
after_none [] k found e = refl
after_none (p ∷ ps) k found e = by (eq_by_cmp key_cmp k p.0) (after_none ps k) e
  where
    by : (b : Bool) → ((found : Option _) → is_changed k ps ≡ false → after ps k found ≡ found) → (b || is_changed k ps) ≡ false
        → after ps k (cond b p.1 found) ≡ found
    by true later e = absurd (false≢true (sym e))
    by false later e = later found e

after_replaced : (lines : List KeyedLine) (cs : List LineChange) (k : KeyTexts) (found : Option RowTexts)
    → after (lines_under lines cs) k found ≡ cond (is_changed k cs) (find key_cmp k lines) found
after_replaced lines [] k found = refl
after_replaced lines (c ∷ cs) k found =
    after_replaced lines cs k (cond (eq_by_cmp key_cmp k c.0) (find key_cmp c.0 lines) found)
    ∙ by (eq_by_cmp key_cmp k c.0) (is_changed k cs) refl
  where
    by : (b t : Bool) → eq_by_cmp key_cmp k c.0 ≡ b
        → cond t (find key_cmp k lines) (cond b (find key_cmp c.0 lines) found) ≡ cond (b || t) (find key_cmp k lines) found
    by true true e = refl
    by true false e = ap (λ j. find key_cmp j lines) (sym (tied k c.0 e))
    by false t e = refl

pub taken_back : (lines : List KeyedLine) (cs : List LineChange) → AreSorted lines → with_lines (with_lines lines cs) (lines_under lines cs) ≡ lines
taken_back lines cs sorted =
    same_entries key_cmp key_total key_same (with_lines (with_lines lines cs) (lines_under lines cs)) lines
    (subst T (sym (sorted_with_lines (with_lines lines cs) (lines_under lines cs) (sorted_with_lines lines cs sorted))) tt) (subst T (sym sorted) tt)
    (λ k. find_with_lines (with_lines lines cs) (lines_under lines cs) k
    ∙ after_replaced lines cs k (find key_cmp k (with_lines lines cs))
    ∙ by k (is_changed k cs) refl)
  where
    by : (k : KeyTexts) (b : Bool) → is_changed k cs ≡ b
        → cond b (find key_cmp k lines) (find key_cmp k (with_lines lines cs)) ≡ find key_cmp k lines
    by k true e = refl
    by k false e = find_with_lines lines cs k ∙ after_none cs k (find key_cmp k lines) e

-- what is replaced has the same keys
below_replaced : (k : KeyTexts) (lines : List KeyedLine) (cs : List LineChange) → below_all key_cmp k (lines_under lines cs) ≡ below_all key_cmp k cs
below_replaced k lines [] = refl
below_replaced k lines (c ∷ cs) = ap (λ b. is_lt (key_cmp k c.0) && b) (below_replaced k lines cs)

pub rising_replaced : (lines : List KeyedLine) (cs : List LineChange) → AreRisingChanges cs → AreRisingChanges (lines_under lines cs)
rising_replaced lines cs rising = same lines cs ∙ rising
  where
    same : (lines : List KeyedLine) (cs : List LineChange) → is_sorted key_cmp (lines_under lines cs) ≡ is_sorted key_cmp cs
    same lines [] = refl
    same lines (c ∷ cs) = ap (λ b. b && is_sorted key_cmp (lines_under lines cs)) (below_replaced c.0 lines cs) ∙ ap (λ b. below_all key_cmp c.0 cs && b) (same lines cs)

-- ---- a side after changes

-- a list that is overwritten completely
filled : (items new : List Note) (k : ℕ) → k ≡ length items → length new ≡ length items → take k (new ++ drop (length new) items) ≡ new
filled items new k is same =
    ap (λ l. take k (new ++ l)) (drop_all (length new) items (omega (arith, same)))
    ∙ ap (take k) (append-nil new) ∙ take_all k new (omega (arith, is, same))

length_replaced : (lines : List KeyedLine) (items : List Note) → length (lines_under lines (notes_of items)) ≡ length items
length_replaced lines [] = refl
length_replaced lines (x ∷ items) = ap suc (length_replaced lines items)

-- the walk results in a side
pub put_side : (rows rest newer later : LinesState) (handed new items : List Note) (k : ℕ) → handed ≡ items → k ≡ length items
    → newer.lines ≡ with_lines rows.lines (notes_of handed) → later.lines ≡ [] → notes_of new ≡ lines_under rows.lines (notes_of handed)
    → length new ≡ length handed → length newer.lines ≤ length rows.lines + length handed → newer.room ≡ rows.room → later.room ≡ rest.room
    → rest.room ≤ rows.room → AreSorted rows.lines → AreRisingChanges (notes_of items)
    → length rows.lines + length items + length items ≤ rest.room
    → AreSide newer later (notes_of (take k (new ++ drop (length new) items)))
put_side rows rest newer later handed new items k same is lines none notes len few room later_room rooms sorted rising enough =
    let count : length new ≡ length items = len ∙ ap length same in
    let noted : notes_of (take k (new ++ drop (length new) items)) ≡ lines_under rows.lines (notes_of items) =
    ap notes_of (filled items new k is count) ∙ notes ∙ ap (λ l. lines_under rows.lines (notes_of l)) same in
    let n = length_replaced rows.lines items in
    let m = ap length noted in
    let h = ap length same in
    record {
      none_waits = none;
      sorted = subst AreSorted (sym lines) (sorted_with_lines rows.lines (notes_of handed) sorted);
      rising = subst AreRisingChanges (sym noted) (rising_replaced rows.lines (notes_of items) rising);
      room = omega (arith, few, n, m, h, enough, later_room);
      rooms = omega (arith, room, later_room, rooms);
    }

-- its lines are changed, and its notes undo that
pub put_changed : (now : SideState) (rows newer : LinesState) (handed new items : List Note) (k room : ℕ) → rows.lines ≡ now.lines
    → handed ≡ items → k ≡ length items → newer.lines ≡ with_lines rows.lines (notes_of handed)
    → notes_of new ≡ lines_under rows.lines (notes_of handed) → length new ≡ length handed → AreSorted rows.lines
    → IsChanged now (record { lines = newer.lines; notes = notes_of (take k (new ++ drop (length new) items)); room = room }) items
put_changed now rows newer handed new items k room same_rows same is lines notes len sorted =
    let count : length new ≡ length items = len ∙ ap length same in
    let noted : notes_of (take k (new ++ drop (length new) items)) ≡ lines_under rows.lines (notes_of items) =
    ap notes_of (filled items new k is count) ∙ notes ∙ ap (λ l. lines_under rows.lines (notes_of l)) same in
    let changed : newer.lines ≡ with_lines rows.lines (notes_of items) = lines ∙ ap (λ l. with_lines rows.lines (notes_of l)) same in
    record {
      lines_are = changed ∙ ap (λ l. with_lines l (notes_of items)) same_rows;
      back = ap (λ l. with_lines newer.lines l) noted ∙ ap (λ l. with_lines l (lines_under rows.lines (notes_of items))) changed
          ∙ taken_back rows.lines (notes_of items) sorted ∙ same_rows;
    }

-- the walk back results in a side without notes
pub back_side : (rows rest newer later : LinesState) (notes : List LineChange) (handed : List Note) → notes_of handed ≡ notes
    → newer.lines ≡ with_lines rows.lines (notes_of handed) → later.lines ≡ [] → length newer.lines ≤ length rows.lines + length handed
    → newer.room ≡ rows.room → later.room ≡ rest.room → AreSide rows rest notes → AreSide newer later []
back_side rows rest newer later notes handed same lines none few room later_room are =
    let enough = are.room in
    let rooms = are.rooms in
    let n = counted handed in
    let m = ap length same in
    record {
      none_waits = none;
      sorted = subst AreSorted (sym lines) (sorted_with_lines rows.lines (notes_of handed) are.sorted);
      rising = refl;
      room = omega (arith, few, n, m, enough, later_room);
      rooms = omega (arith, room, later_room, rooms);
    }
  where
    counted : (items : List Note) → length (notes_of items) ≡ length items
    counted [] = refl
    counted (x ∷ items) = ap suc (counted items)
