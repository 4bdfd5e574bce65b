-- The steps over notes whose texts are swapped with those of lines.
use Rattle.std.proofs.Common.{◌≡◌, ℕ, zero, suc, ◌+◌, ◌<◌, ◌≤◌, Bool, true, false, ◌&&◌, cond, Option, None, Some, List, [], ◌∷◌, ◌++◌, length, map, take, drop, refl, sym, ap, ◌∙◌, arith}
use Rattle.std.specs.Prelude.{is_some}
use Rattle.std.specs.FinMap.Entries.{below_all, find, is_sorted}
use Rattle.std.specs.List.{list_all, slice_index_or, slice_set}
use Rattle.std.specs.Ordering.{is_eq, is_lt}
use Rattle.std.proofs.lemmas.Bool.{false≢true}
use Rattle.std.proofs.lemmas.List.{append-nil, append_assoc, drop_all, drop_more, take_all, take_more_set}
use Rattle.lei_records.specs.Tables.{KeyTexts, key_cmp}
use Rattle.copy_csv.specs.declared.rows.RowTexts.{RowTexts}
use Rattle.golden_shelf.specs.declared.lines.Note.{Note}
use Rattle.golden_shelf.specs.Keys.{key_texts}
use Rattle.golden_shelf.specs.Lines.{AreSorted, KeyedLine, LineChange, lines_under, with_changed_line, with_lines}
use Rattle.golden_shelf.specs.Places.{IsLinePlace, is_there, line_texts_at, with_texts_at}
use Rattle.golden_shelf.specs.Sides.{AreRisingChanges, note_change, notes_of}
use Rattle.golden_shelf.proofs.PlaceLemmas.{find_at_place, put_there}
use Rattle.golden_shelf.proofs.SideLemmas.{find_with_line}
use Rattle.golden_shelf.proofs.WeaveSteps.{push_map, take_map}
use Rattle.golden_shelf.proofs.Woven.{back, both, less}

-- ---- whether each key has a line

pub there_next : (p : LineChange → Bool) (notes : List Note) (i : ℕ) (x : Note) → i < length notes → x ≡ slice_index_or notes i x
    → list_all p (notes_of (drop i notes)) ≡ (p (note_change x) && list_all p (notes_of (drop (i + 1) notes)))
there_next p notes i x lt is =
    ap (λ l. list_all p (notes_of l)) (drop_more notes i x lt ∙ ap (λ y. y ∷ drop (i + 1) notes) (sym is))

pub there_more : (p : LineChange → Bool) (notes : List Note) (i : ℕ) (x : Note) (all : Bool) → i < length notes → x ≡ slice_index_or notes i x
    → p (note_change x) ≡ true → list_all p (notes_of (drop i notes)) ≡ all → list_all p (notes_of (drop (i + 1) notes)) ≡ all
there_more p notes i x all lt is passes before =
    sym (there_next p notes i x lt is ∙ ap (λ b. b && list_all p (notes_of (drop (i + 1) notes))) passes) ∙ before

pub there_not : (p : LineChange → Bool) (notes : List Note) (i : ℕ) (x : Note) (all : Bool) → i < length notes → x ≡ slice_index_or notes i x
    → p (note_change x) ≡ false → list_all p (notes_of (drop i notes)) ≡ all → false ≡ all
there_not p notes i x all lt is fails before =
    sym (there_next p notes i x lt is ∙ ap (λ b. b && list_all p (notes_of (drop (i + 1) notes))) fails) ∙ before

pub there_end : (p : LineChange → Bool) (notes : List Note) (i : ℕ) (all : Bool) → length notes ≤ i → list_all p (notes_of (drop i notes)) ≡ all → true ≡ all
there_end p notes i all end before = sym (ap (λ l. list_all p (notes_of l)) (drop_all i notes end)) ∙ before

-- ---- one note

pub not_there : (lines : List KeyedLine) (note : Note) → is_there lines (note_change note) ≡ true → find key_cmp (key_texts note.key) lines ≡ None → ⊥
not_there lines note there none =
    false≢true (sym (ap is_some none) ∙ (both (is_some note.texts) (is_some (find key_cmp (key_texts note.key) lines)) there).1)

pub no_texts : (lines : List KeyedLine) (note : Note) → is_there lines (note_change note) ≡ true → note.texts ≡ None → ⊥
no_texts lines note there none =
    false≢true (sym (ap is_some none) ∙ (both (is_some note.texts) (is_some (find key_cmp (key_texts note.key) lines)) there).0)

pub line_put : (lines new : List KeyedLine) (note : Note) (n : ℕ) (texts : RowTexts) → AreSorted lines → IsLinePlace (key_texts note.key) lines (Some n)
    → note.texts ≡ Some texts → new ≡ with_texts_at lines n texts → new ≡ with_changed_line lines (note_change note)
line_put lines new note n texts sorted place is put =
    put ∙ put_there (key_texts note.key) lines n texts sorted place.1 ∙ ap (λ o. with_changed_line lines (key_texts note.key, o)) (sym is)

pub texts_found : (lines : List KeyedLine) (k : KeyTexts) (n : ℕ) (texts : RowTexts) → AreSorted lines → IsLinePlace k lines (Some n)
    → Some texts ≡ line_texts_at lines n → Some texts ≡ find key_cmp k lines
texts_found lines k n texts sorted place is = is ∙ sym (find_at_place k lines n sorted place.1)

-- ---- all notes

-- a change doesn't affect what is found under another key
find_other : (lines : List KeyedLine) (c d : LineChange) → is_lt (key_cmp c.0 d.0) ≡ true → find key_cmp d.0 (with_changed_line lines c) ≡ find key_cmp d.0 lines
find_other lines c d lt =
    find_with_line lines c d.0 ∙ ap (λ o. cond (is_eq o) c.1 (find key_cmp d.0 lines)) (back c.0 d.0 (less (key_cmp c.0 d.0) lt))

replaced_other : (lines : List KeyedLine) (c : LineChange) (cs : List LineChange) → below_all key_cmp c.0 cs ≡ true
    → lines_under (with_changed_line lines c) cs ≡ lines_under lines cs
replaced_other lines c [] e = refl
replaced_other lines c (d ∷ cs) e =
    let parts = both (is_lt (key_cmp c.0 d.0)) (below_all key_cmp c.0 cs) e in
    ap (λ o. (d.0, o) ∷ lines_under (with_changed_line lines c) cs) (find_other lines c d parts.0)
    ∙ ap (λ l. (d.0, find key_cmp d.0 lines) ∷ l) (replaced_other lines c cs parts.1)

there_other : (lines : List KeyedLine) (c : LineChange) (cs : List LineChange) → below_all key_cmp c.0 cs ≡ true
    → list_all (is_there (with_changed_line lines c)) cs ≡ list_all (is_there lines) cs
there_other lines c [] e = refl
there_other lines c (d ∷ cs) e =
    let parts = both (is_lt (key_cmp c.0 d.0)) (below_all key_cmp c.0 cs) e in
    ap (λ o. (is_some d.1 && is_some o) && list_all (is_there (with_changed_line lines c)) cs) (find_other lines c d parts.0)
    ∙ ap (λ b. is_there lines d && b) (there_other lines c cs parts.1)

pub first_there : (lines : List KeyedLine) (changes later : List LineChange) (x : LineChange) → changes ≡ x ∷ later
    → list_all (is_there lines) changes ≡ true → is_there lines x ≡ true
first_there lines changes later x next there =
    (both (is_there lines x) (list_all (is_there lines) later) (ap (list_all (is_there lines)) (sym next) ∙ there)).0

pub still_there : (lines new : List KeyedLine) (changes later : List LineChange) (x : LineChange) → changes ≡ x ∷ later → AreRisingChanges changes
    → new ≡ with_changed_line lines x → list_all (is_there lines) changes ≡ true → list_all (is_there new) later ≡ true
still_there lines new changes later x next rising put there =
    let parts = both (below_all key_cmp x.0 later) (is_sorted key_cmp later) (ap (is_sorted key_cmp) (sym next) ∙ rising) in
    ap (λ l. list_all (is_there l) later) put ∙ there_other lines x later parts.0
    ∙ (both (is_there lines x) (list_all (is_there lines) later) (ap (list_all (is_there lines)) (sym next) ∙ there)).1

pub still_rising : (changes later : List LineChange) (x : LineChange) → changes ≡ x ∷ later → AreRisingChanges changes → AreRisingChanges later
still_rising changes later x next rising =
    (both (below_all key_cmp x.0 later) (is_sorted key_cmp later) (ap (is_sorted key_cmp) (sym next) ∙ rising)).1

pub lines_step : (old lines new : List KeyedLine) (all changes later : List LineChange) (x : LineChange) → changes ≡ x ∷ later
    → new ≡ with_changed_line lines x → with_lines lines changes ≡ with_lines old all → with_lines new later ≡ with_lines old all
lines_step old lines new all changes later x next put walk = ap (λ l. with_lines l later) put ∙ ap (with_lines lines) (sym next) ∙ walk

pub notes_step : (old lines new : List KeyedLine) (notes : List Note) (all changes later : List LineChange) (i : ℕ) (x y : Note) → i < length notes
    → take i (notes_of notes) ++ lines_under lines changes ≡ lines_under old all → changes ≡ note_change x ∷ later → AreRisingChanges changes
    → new ≡ with_changed_line lines (note_change x) → y.key ≡ x.key → y.texts ≡ find key_cmp (key_texts x.key) lines
    → take (i + 1) (notes_of (slice_set notes i y)) ++ lines_under new later ≡ lines_under old all
notes_step old lines new notes all changes later i x y lt takes next rising put key texts =
    let k = key_texts x.key in
    let parts = both (below_all key_cmp k later) (is_sorted key_cmp later) (ap (is_sorted key_cmp) (sym next) ∙ rising) in
    let one : note_change y ≡ (k, find key_cmp k lines) = ap (λ j. (key_texts j, y.texts)) key ∙ ap (λ t. (k, t)) texts in
    ap (λ l. l ++ lines_under new later) (take_map note_change (i + 1) (slice_set notes i y) ∙ ap (map note_change) (take_more_set notes i y lt)
    ∙ push_map note_change (take i notes) y ∙ ap (λ l. l ++ note_change y ∷ []) (sym (take_map note_change i notes)))
    ∙ append_assoc (take i (notes_of notes)) (note_change y ∷ []) (lines_under new later)
    ∙ ap (λ l. take i (notes_of notes) ++ (l ∷ lines_under new later)) one
    ∙ ap (λ l. take i (notes_of notes) ++ ((k, find key_cmp k lines) ∷ l)) (ap (λ l. lines_under l later) put ∙ replaced_other lines (note_change x) later parts.0)
    ∙ ap (λ l. take i (notes_of notes) ++ lines_under lines l) (sym next) ∙ takes

-- at the end the lines are those after all changes
pub lines_done : (old lines : List KeyedLine) (all : List LineChange) (n : ℕ) → length all ≤ n → with_lines lines (drop n all) ≡ with_lines old all
    → lines ≡ with_lines old all
lines_done old lines all n end walk = ap (with_lines lines) (sym (drop_all n all end)) ∙ walk

pub notes_done : (old lines : List KeyedLine) (notes : List Note) (all : List LineChange) (n : ℕ) → length all ≤ n → length notes ≤ n
    → take n (notes_of notes) ++ lines_under lines (drop n all) ≡ lines_under old all → notes_of notes ≡ lines_under old all
notes_done old lines notes all n end within takes =
    sym (append-nil (notes_of notes))
    ∙ ap (λ l. l ++ []) (sym (take_map note_change n notes ∙ ap (map note_change) (take_all n notes within)))
    ∙ ap (λ l. take n (notes_of notes) ++ lines_under lines l) (sym (drop_all n all end)) ∙ takes

-- each place of the lines has texts
texts_some : (lines : List KeyedLine) (n : ℕ) → n < length lines → is_some (line_texts_at lines n) ≡ true
texts_some [] n lt = absurd (omega (arith, lt))
texts_some (x ∷ lines) zero lt = refl
texts_some (x ∷ lines) (suc n) lt = texts_some lines n (omega (arith, lt))

none_after : (b : Bool) → false ≡ (b && false)
none_after true = refl
none_after false = refl

pub there_told : (lines : List KeyedLine) (note : Note) (place : Option ℕ) → AreSorted lines → is_some note.texts ≡ true
    → IsLinePlace (key_texts note.key) lines place → is_some place ≡ is_there lines (note_change note)
there_told lines note None sorted some at =
    none_after (is_some note.texts) ∙ ap (λ o. is_some note.texts && is_some o) (sym at)
there_told lines note (Some n) sorted some at =
    sym (texts_some lines n at.0) ∙ ap is_some (sym (find_at_place (key_texts note.key) lines n sorted at.1))
    ∙ ap (λ b. b && is_some (find key_cmp (key_texts note.key) lines)) (sym some)
