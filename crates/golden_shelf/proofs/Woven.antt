-- Lines and their changes, gone through together.
use Rattle.std.proofs.Common.{◌≡◌, Bool, true, false, ◌&&◌, cond, None, Some, List, [], ◌∷◌, ◌++◌, T, refl, sym, ap, subst, ◌∙◌}
use Rattle.std.specs.Prelude.{not}
use Rattle.std.specs.FinMap.Entries.{below_all, by_order, find, is_sorted, put, where_key, is_sorted-put, is_sorted-where_key}
use Rattle.std.specs.List.{AllByRecursion}
use Rattle.std.specs.Ordering.{eq_by_cmp, is_eq, is_lt, ordering_reverse}
use Rattle.std.specs.FinMap.{IsAntisymmetric, nat_cmp-IsAntisymmetric, slice_cmp-IsAntisymmetric}
use Rattle.std.specs.declared.cmp.Ordering.{Ordering}
use Rattle.std.proofs.lemmas.Bool.{false≢true}
use Rattle.lei_records.specs.Tables.{KeyTexts, key_cmp}
use Rattle.copy_csv.specs.declared.rows.RowTexts.{RowTexts}
use Rattle.copy_csv.proofs.RowLemmas.{key_total}
use Rattle.golden_shelf.specs.Lines.{AreSorted, KeyedLine, LineChange, lines_under, with_changed_line, with_lines}
use Rattle.golden_shelf.specs.Sides.{AreRisingChanges}
use Rattle.golden_shelf.specs.Walks.{below, changes_back, interleave, line_for, lines_from, past, texts_under}

-- ---- orders

pub key_same : IsAntisymmetric key_cmp
key_same = slice_cmp-IsAntisymmetric (slice_cmp-IsAntisymmetric nat_cmp-IsAntisymmetric)

pub both : (a b : Bool) → (a && b) ≡ true → (a ≡ true) × (b ≡ true)
both true b e = (refl, e)
both false b e = absurd (false≢true e)

pub less : (o : Ordering) → is_lt o ≡ true → o ≡ Ordering.Less
less Ordering.Less e = refl
less Ordering.Equal e = absurd (false≢true e)
less Ordering.Greater e = absurd (false≢true e)

turned : (j k : KeyTexts) → key_cmp j k ≡ Ordering.Greater → key_cmp k j ≡ Ordering.Less
turned j k e = key_total.antisymm k j ∙ ap ordering_reverse e

pub back : (j k : KeyTexts) → key_cmp j k ≡ Ordering.Less → key_cmp k j ≡ Ordering.Greater
back j k e = key_total.antisymm k j ∙ ap ordering_reverse e

-- a key above another one is above those below that one
pub higher : (m k j : KeyTexts) → key_cmp m k ≡ Ordering.Greater → key_cmp k j ≡ Ordering.Greater → key_cmp m j ≡ Ordering.Greater
higher m k j a b = back j m (key_total.trans j k m (turned k j b) (turned m k a))

module _ {X : Type 0} where
  pub below_trans : (k j : KeyTexts) (es : List (KeyTexts × X)) → key_cmp k j ≡ Ordering.Less → below_all key_cmp j es ≡ true → below_all key_cmp k es ≡ true
  below_trans k j [] lt e = refl
  below_trans k j (x ∷ es) lt e =
      let parts = both (is_lt (key_cmp j x.0)) (below_all key_cmp j es) e in
      let one : is_lt (key_cmp k x.0) ≡ true = ap is_lt (key_total.trans k j x.0 lt (less (key_cmp j x.0) parts.0)) in
      ap (λ b. b && below_all key_cmp k es) one ∙ below_trans k j es lt parts.1

  pub find_none : (k : KeyTexts) (es : List (KeyTexts × X)) → below_all key_cmp k es ≡ true → find key_cmp k es ≡ None
  find_none k [] e = refl
  find_none k (x ∷ es) e =
      let parts = both (is_lt (key_cmp k x.0)) (below_all key_cmp k es) e in
      ap (λ o. cond (is_eq o) (Some x.1) (find key_cmp k es)) (less (key_cmp k x.0) parts.0) ∙ find_none k es parts.1

  keep_all : (k : KeyTexts) (es : List (KeyTexts × X)) → below_all key_cmp k es ≡ true
      → where_key key_cmp (λ other. not (eq_by_cmp key_cmp k other)) es ≡ es
  keep_all k [] e = refl
  keep_all k (x ∷ es) e =
      let parts = both (is_lt (key_cmp k x.0)) (below_all key_cmp k es) e in
      let rest : List (KeyTexts × X) = where_key key_cmp (λ other. not (eq_by_cmp key_cmp k other)) es in
      ap (λ o. cond (not (is_eq o)) (x ∷ rest) rest) (less (key_cmp k x.0) parts.0) ∙ ap (λ l. x ∷ l) (keep_all k es parts.1)

-- ---- a change of sorted lines

put_parts : (k : KeyTexts) (texts : RowTexts) (lines : List KeyedLine)
    → put key_cmp k texts lines ≡ below k lines ++ ((k, texts) ∷ past k (lines_from k lines))
put_parts k texts [] = refl
put_parts k texts (e ∷ es) = by (put_parts k texts es) (key_cmp k e.0) refl
  where
    by : put key_cmp k texts es ≡ below k es ++ ((k, texts) ∷ past k (lines_from k es)) → (o : Ordering) → key_cmp k e.0 ≡ o
        → by_order o ((k, texts) ∷ e ∷ es) ((e.0, texts) ∷ es) (e ∷ put key_cmp k texts es)
        ≡ by_order o [] [] (e ∷ below k es) ++ ((k, texts) ∷ past k (by_order o (e ∷ es) (e ∷ es) (lines_from k es)))
    by later Ordering.Less is = ap (λ o. (k, texts) ∷ by_order o (e ∷ es) es (e ∷ es)) (sym is)
    by later Ordering.Equal is = ap (λ j. (j, texts) ∷ es) (sym (key_same k e.0 is))
        ∙ ap (λ o. (k, texts) ∷ by_order o (e ∷ es) es (e ∷ es)) (sym is)
    by later Ordering.Greater is = ap (λ l. e ∷ l) later

out_parts : (k : KeyTexts) (lines : List KeyedLine) → AreSorted lines
    → where_key key_cmp (λ other. not (eq_by_cmp key_cmp k other)) lines ≡ below k lines ++ past k (lines_from k lines)
out_parts k [] sorted = refl
out_parts k (e ∷ es) sorted = by (out_parts k es (both (below_all key_cmp e.0 es) (is_sorted key_cmp es) sorted).1) (key_cmp k e.0) refl
  where
    rest : List KeyedLine
    rest = where_key key_cmp (λ other. not (eq_by_cmp key_cmp k other)) es

    by : rest ≡ below k es ++ past k (lines_from k es) → (o : Ordering) → key_cmp k e.0 ≡ o
        → cond (not (is_eq o)) (e ∷ rest) rest
        ≡ by_order o [] [] (e ∷ below k es) ++ past k (by_order o (e ∷ es) (e ∷ es) (lines_from k es))
    by later Ordering.Less is =
        let parts = both (below_all key_cmp e.0 es) (is_sorted key_cmp es) sorted in
        ap (λ l. e ∷ l) (keep_all k es (below_trans k e.0 es is parts.0)) ∙ ap (λ o. by_order o (e ∷ es) es (e ∷ es)) (sym is)
    by later Ordering.Equal is =
        let parts = both (below_all key_cmp e.0 es) (is_sorted key_cmp es) sorted in
        keep_all k es (subst (λ j. below_all key_cmp j es ≡ true) (sym (key_same k e.0 is)) parts.0)
        ∙ ap (λ o. by_order o (e ∷ es) es (e ∷ es)) (sym is)
    by later Ordering.Greater is = ap (λ l. e ∷ l) later

with_line_parts : (lines : List KeyedLine) (c : LineChange) → AreSorted lines
    → with_changed_line lines c ≡ below c.0 lines ++ (line_for c ++ past c.0 (lines_from c.0 lines))
with_line_parts lines (k, None) sorted = out_parts k lines sorted
with_line_parts lines (k, Some texts) sorted = put_parts k texts lines

tells : (b : Bool) → T b → b ≡ true
tells true t = refl
tells false t = absurd t

pub sorted_with_line : (lines : List KeyedLine) (c : LineChange) → AreSorted lines → AreSorted (with_changed_line lines c)
sorted_with_line lines (k, None) sorted =
    tells _ (is_sorted-where_key key_cmp (λ other. not (eq_by_cmp key_cmp k other)) lines (subst T (sym sorted) tt))
sorted_with_line lines (k, Some texts) sorted = tells _ (is_sorted-put key_cmp key_total k texts lines (subst T (sym sorted) tt))

pub sorted_with_lines : (lines : List KeyedLine) (cs : List LineChange) → AreSorted lines → AreSorted (with_lines lines cs)
sorted_with_lines lines [] sorted = sorted
sorted_with_lines lines (c ∷ cs) sorted = sorted_with_lines (with_changed_line lines c) cs (sorted_with_line lines c sorted)

-- ---- the walk results in the changed lines

-- each line is before a key
abbrev pub AreBelow : KeyTexts → List KeyedLine → Type 0
AreBelow k lines = AllByRecursion (λ line. key_cmp k line.0 ≡ Ordering.Greater) lines

below_is : (m k : KeyTexts) (lines : List KeyedLine) → key_cmp m k ≡ Ordering.Greater → AreBelow m (below k lines)
below_is m k [] above = tt
below_is m k (e ∷ es) above = by (below_is m k es above) (key_cmp k e.0) refl
  where
    by : AreBelow m (below k es) → (o : Ordering) → key_cmp k e.0 ≡ o → AreBelow m (by_order o [] [] (e ∷ below k es))
    by later Ordering.Less is = tt
    by later Ordering.Equal is = tt
    by later Ordering.Greater is = (higher m k e.0 above is, later)

for_is : (m : KeyTexts) (c : LineChange) → key_cmp m c.0 ≡ Ordering.Greater → AreBelow m (line_for c)
for_is m (k, None) above = tt
for_is m (k, Some texts) above = (above, tt)

below_passes : (k : KeyTexts) (front rest : List KeyedLine) → AreBelow k front → below k (front ++ rest) ≡ front ++ below k rest
below_passes k [] rest are = refl
below_passes k (e ∷ front) rest are =
    ap (λ o. by_order o [] [] (e ∷ below k (front ++ rest))) are.0 ∙ ap (λ l. e ∷ l) (below_passes k front rest are.1)

onward_passes : (k : KeyTexts) (front rest : List KeyedLine) → AreBelow k front → lines_from k (front ++ rest) ≡ lines_from k rest
onward_passes k [] rest are = refl
onward_passes k (e ∷ front) rest are =
    ap (λ o. by_order o (e ∷ front ++ rest) (e ∷ front ++ rest) (lines_from k (front ++ rest))) are.0 ∙ onward_passes k front rest are.1

joined : {X : Type 0} (xs ys zs : List X) → (xs ++ ys) ++ zs ≡ xs ++ (ys ++ zs)
joined [] ys zs = refl
joined (x ∷ xs) ys zs = ap (λ l. x ∷ l) (joined xs ys zs)

-- each line is before the keys of all changes
abbrev AreBeforeAll : List KeyedLine → List LineChange → Type 0
AreBeforeAll front cs = AllByRecursion (λ c. AreBelow c.0 front) cs

woven_passes : (front rest : List KeyedLine) (cs : List LineChange) → AreBeforeAll front cs → interleave (front ++ rest) cs ≡ front ++ interleave rest cs
woven_passes front rest [] are = refl
woven_passes front rest (c ∷ cs) are =
    ap (λ l. l ++ (line_for c ++ interleave (past c.0 (lines_from c.0 (front ++ rest))) cs)) (below_passes c.0 front rest are.0)
    ∙ ap (λ l. (front ++ below c.0 rest) ++ (line_for c ++ interleave (past c.0 l) cs)) (onward_passes c.0 front rest are.0)
    ∙ joined front (below c.0 rest) (line_for c ++ interleave (past c.0 (lines_from c.0 rest)) cs)

before_below : (c : LineChange) (lines : List KeyedLine) (cs : List LineChange) → below_all key_cmp c.0 cs ≡ true → AreBeforeAll (below c.0 lines) cs
before_below c lines [] e = tt
before_below c lines (d ∷ cs) e =
    let parts = both (is_lt (key_cmp c.0 d.0)) (below_all key_cmp c.0 cs) e in
    (below_is d.0 c.0 lines (back c.0 d.0 (less (key_cmp c.0 d.0) parts.0)), before_below c lines cs parts.1)

before_for : (c : LineChange) (cs : List LineChange) → below_all key_cmp c.0 cs ≡ true → AreBeforeAll (line_for c) cs
before_for c [] e = tt
before_for c (d ∷ cs) e =
    let parts = both (is_lt (key_cmp c.0 d.0)) (below_all key_cmp c.0 cs) e in
    (for_is d.0 c (back c.0 d.0 (less (key_cmp c.0 d.0) parts.0)), before_for c cs parts.1)

pub woven_is : (lines : List KeyedLine) (cs : List LineChange) → AreSorted lines → AreRisingChanges cs → interleave lines cs ≡ with_lines lines cs
woven_is lines [] sorted rising = refl
woven_is lines (c ∷ cs) sorted rising =
    let parts = both (below_all key_cmp c.0 cs) (is_sorted key_cmp cs) rising in
    let rest : List KeyedLine = past c.0 (lines_from c.0 lines) in
    sym (ap (λ l. interleave l cs) (with_line_parts lines c sorted)
    ∙ woven_passes (below c.0 lines) (line_for c ++ rest) cs (before_below c lines cs parts.0)
    ∙ ap (λ l. below c.0 lines ++ l) (woven_passes (line_for c) rest cs (before_for c cs parts.0)))
    ∙ woven_is (with_changed_line lines c) cs (sorted_with_line lines c sorted) parts.1

-- ---- and replaces what was there

find_at : (k : KeyTexts) (lines : List KeyedLine) → AreSorted lines → find key_cmp k lines ≡ texts_under k (lines_from k lines)
find_at k [] sorted = refl
find_at k (e ∷ es) sorted = by (find_at k es (both (below_all key_cmp e.0 es) (is_sorted key_cmp es) sorted).1) (key_cmp k e.0) refl
  where
    by : find key_cmp k es ≡ texts_under k (lines_from k es) → (o : Ordering) → key_cmp k e.0 ≡ o
        → cond (is_eq o) (Some e.1) (find key_cmp k es) ≡ texts_under k (by_order o (e ∷ es) (e ∷ es) (lines_from k es))
    by later Ordering.Less is =
        let parts = both (below_all key_cmp e.0 es) (is_sorted key_cmp es) sorted in
        find_none k es (below_trans k e.0 es is parts.0) ∙ ap (λ o. by_order o None (Some e.1) None) (sym is)
    by later Ordering.Equal is = ap (λ o. by_order o None (Some e.1) None) (sym is)
    by later Ordering.Greater is = later

find_past : (m k : KeyTexts) (lines : List KeyedLine) → key_cmp m k ≡ Ordering.Greater
    → find key_cmp m (past k (lines_from k lines)) ≡ find key_cmp m lines
find_past m k [] above = refl
find_past m k (e ∷ es) above = by (find_past m k es above) (key_cmp k e.0) refl
  where
    by : find key_cmp m (past k (lines_from k es)) ≡ find key_cmp m es → (o : Ordering) → key_cmp k e.0 ≡ o
        → find key_cmp m (past k (by_order o (e ∷ es) (e ∷ es) (lines_from k es))) ≡ find key_cmp m (e ∷ es)
    by later Ordering.Less is = ap (λ o. find key_cmp m (by_order o (e ∷ es) es (e ∷ es))) is
    by later Ordering.Equal is = ap (λ o. find key_cmp m (by_order o (e ∷ es) es (e ∷ es))) is
        ∙ ap (λ o. cond (is_eq o) (Some e.1) (find key_cmp m es)) (sym (ap (key_cmp m) (sym (key_same k e.0 is)) ∙ above))
    by later Ordering.Greater is = later
        ∙ ap (λ o. cond (is_eq o) (Some e.1) (find key_cmp m es)) (sym (higher m k e.0 above is))

sorted_past : (k : KeyTexts) (lines : List KeyedLine) → AreSorted lines → AreSorted (past k (lines_from k lines))
sorted_past k [] sorted = refl
sorted_past k (e ∷ es) sorted = by (sorted_past k es (both (below_all key_cmp e.0 es) (is_sorted key_cmp es) sorted).1) (key_cmp k e.0) refl
  where
    by : AreSorted (past k (lines_from k es)) → (o : Ordering) → key_cmp k e.0 ≡ o → AreSorted (past k (by_order o (e ∷ es) (e ∷ es) (lines_from k es)))
    by later Ordering.Less is = subst (λ o. AreSorted (by_order o (e ∷ es) es (e ∷ es))) (sym is) sorted
    by later Ordering.Equal is = subst (λ o. AreSorted (by_order o (e ∷ es) es (e ∷ es))) (sym is) (both (below_all key_cmp e.0 es) (is_sorted key_cmp es) sorted).1
    by later Ordering.Greater is = later

replaced_past : (k : KeyTexts) (lines : List KeyedLine) (cs : List LineChange) → below_all key_cmp k cs ≡ true
    → lines_under (past k (lines_from k lines)) cs ≡ lines_under lines cs
replaced_past k lines [] e = refl
replaced_past k lines (d ∷ cs) e =
    let parts = both (is_lt (key_cmp k d.0)) (below_all key_cmp k cs) e in
    ap (λ o. (d.0, o) ∷ lines_under (past k (lines_from k lines)) cs) (find_past d.0 k lines (back k d.0 (less (key_cmp k d.0) parts.0)))
    ∙ ap (λ l. (d.0, find key_cmp d.0 lines) ∷ l) (replaced_past k lines cs parts.1)

pub taken_is : (lines : List KeyedLine) (cs : List LineChange) → AreSorted lines → AreRisingChanges cs → changes_back lines cs ≡ lines_under lines cs
taken_is lines [] sorted rising = refl
taken_is lines (c ∷ cs) sorted rising =
    let parts = both (below_all key_cmp c.0 cs) (is_sorted key_cmp cs) rising in
    ap (λ o. (c.0, o) ∷ changes_back (past c.0 (lines_from c.0 lines)) cs) (sym (find_at c.0 lines sorted))
    ∙ ap (λ l. (c.0, find key_cmp c.0 lines) ∷ l)
    (taken_is (past c.0 (lines_from c.0 lines)) cs (sorted_past c.0 lines sorted) parts.1 ∙ replaced_past c.0 lines cs parts.0)
