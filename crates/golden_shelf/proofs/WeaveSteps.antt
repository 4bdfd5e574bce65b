-- The steps of the walk over the lines and notes of a sheet.
use Rattle.std.proofs.Common.{◌≡◌, ℕ, zero, suc, ◌+◌, ◌≤◌, ◌<◌, List, [], ◌∷◌, ◌++◌, length, map, take, drop, refl, sym, ap, ◌∙◌, arith}
use Rattle.std.specs.List.{slice_index_or, slice_set}
use Rattle.std.proofs.lemmas.List.{drop_all, drop_more, drop-set-lt, take_all, take_more_set, append_assoc, append-nil}
use Rattle.golden_shelf.specs.declared.lines.Note.{Note}
use Rattle.golden_shelf.specs.Keys.{key_texts}
use Rattle.golden_shelf.specs.Lines.{AreSorted, KeyedLine, LineChange, lines_under, with_lines}
use Rattle.golden_shelf.specs.Sides.{AreRisingChanges, note_change, notes_of}
use Rattle.golden_shelf.specs.Walks.{below, changes_back, interleave, line_for, lines_from, past, texts_under}
use Rattle.golden_shelf.proofs.Woven.{taken_is, woven_is}

pub take_map : {X Y : Type 0} (f : X → Y) (n : ℕ) (xs : List X) → take n (map f xs) ≡ map f (take n xs)
take_map f zero xs = refl
take_map f (suc n) [] = refl
take_map f (suc n) (x ∷ xs) = ap (λ l. f x ∷ l) (take_map f n xs)

drop_map : {X Y : Type 0} (f : X → Y) (n : ℕ) (xs : List X) → drop n (map f xs) ≡ map f (drop n xs)
drop_map f zero xs = refl
drop_map f (suc n) [] = refl
drop_map f (suc n) (x ∷ xs) = drop_map f n xs

pub push_map : {X Y : Type 0} (f : X → Y) (xs : List X) (x : X) → map f (xs ++ x ∷ []) ≡ map f xs ++ f x ∷ []
push_map f [] x = refl
push_map f (y ∷ xs) x = ap (λ l. f y ∷ l) (push_map f xs x)

-- the change of the next note is the first of those that are left
pub next_note : (notes : List Note) (i : ℕ) (x : Note) → i < length notes → x ≡ slice_index_or notes i x
    → drop i (notes_of notes) ≡ note_change x ∷ drop (i + 1) (notes_of notes)
next_note notes i x lt is =
    drop_map note_change i notes ∙ ap (map note_change) (drop_more notes i x lt ∙ ap (λ y. y ∷ drop (i + 1) notes) (sym is))
    ∙ ap (λ l. note_change x ∷ l) (sym (drop_map note_change (i + 1) notes))

-- and it is the first of those that are left of all changes
pub next_left : (notes : List Note) (all : List LineChange) (i : ℕ) (x : Note) → i < length notes → x ≡ slice_index_or notes i x
    → drop i (notes_of notes) ≡ drop i all → i < length all → drop i all ≡ note_change x ∷ drop (i + 1) all
next_left notes all i x lt is left within =
    let a : drop i all ≡ note_change x ∷ drop (i + 1) (notes_of notes) = sym left ∙ next_note notes i x lt is in
    let b : drop (i + 1) (notes_of notes) ≡ drop (i + 1) all = tails (notes_of notes) all i left in
    a ∙ ap (λ l. note_change x ∷ l) b
  where
    tail_of : {X : Type 0} → List X → List X
    tail_of [] = []
    tail_of (x ∷ xs) = xs

    tail_drop : {X : Type 0} (xs : List X) (n : ℕ) → tail_of (drop n xs) ≡ drop (suc n) xs
    tail_drop [] zero = refl
    tail_drop [] (suc n) = refl
    tail_drop (x ∷ xs) zero = refl
    tail_drop (x ∷ xs) (suc n) = tail_drop xs n

    tails : (xs ys : List LineChange) (n : ℕ) → drop n xs ≡ drop n ys → drop (n + 1) xs ≡ drop (n + 1) ys
    tails xs ys n e = let one : n + 1 ≡ suc n = omega arith in
        ap (λ m. drop m xs) one ∙ sym (tail_drop xs n) ∙ ap tail_of e ∙ tail_drop ys n ∙ ap (λ m. drop m ys) (sym one)

pub walk_step : (lines rows rest onto after : List KeyedLine) (all changes later : List LineChange) (x : LineChange)
    → rows ++ interleave rest changes ≡ interleave lines all → changes ≡ x ∷ later
    → onto ≡ rows ++ (below x.0 rest ++ line_for x) → after ≡ past x.0 (lines_from x.0 rest)
    → onto ++ interleave after later ≡ interleave lines all
walk_step lines rows rest onto after all changes later x walk is put behind =
    ap (λ l. l ++ interleave after later) put ∙ append_assoc rows (below x.0 rest ++ line_for x) (interleave after later)
    ∙ ap (λ l. rows ++ l) (append_assoc (below x.0 rest) (line_for x) (interleave after later))
    ∙ ap (λ l. rows ++ (below x.0 rest ++ (line_for x ++ interleave l later))) behind
    ∙ ap (λ l. rows ++ interleave rest l) (sym is) ∙ walk

pub take_step : (lines rest after : List KeyedLine) (notes : List Note) (all changes later : List LineChange) (i : ℕ) (x y : Note)
    → i < length notes → take i (notes_of notes) ++ changes_back rest changes ≡ changes_back lines all → changes ≡ note_change x ∷ later
    → after ≡ past (key_texts x.key) (lines_from (key_texts x.key) rest)
    → y.key ≡ x.key → y.texts ≡ texts_under (key_texts x.key) (lines_from (key_texts x.key) rest)
    → take (i + 1) (notes_of (slice_set notes i y)) ++ changes_back after later ≡ changes_back lines all
take_step lines rest after notes all changes later i x y lt takes is behind key texts =
    let k = key_texts x.key in
    let one : note_change y ≡ (k, texts_under k (lines_from k rest)) = ap (λ j. (key_texts j, y.texts)) key ∙ ap (λ t. (k, t)) texts in
    ap (λ l. l ++ changes_back after later) (take_map note_change (i + 1) (slice_set notes i y) ∙ ap (map note_change) (take_more_set notes i y lt)
    ∙ push_map note_change (take i notes) y ∙ ap (λ l. l ++ note_change y ∷ []) (sym (take_map note_change i notes)))
    ∙ append_assoc (take i (notes_of notes)) (note_change y ∷ []) (changes_back after later)
    ∙ ap (λ l. take i (notes_of notes) ++ (l ∷ changes_back after later)) one
    ∙ ap (λ l. take i (notes_of notes) ++ ((k, texts_under k (lines_from k rest)) ∷ changes_back l later)) behind
    ∙ ap (λ l. take i (notes_of notes) ++ changes_back rest l) (sym is) ∙ takes

pub left_step : (notes : List Note) (all : List LineChange) (i : ℕ) (x y : Note) → i < length notes → x ≡ slice_index_or notes i x
    → drop i (notes_of notes) ≡ drop i all → i < length all
    → drop (i + 1) (notes_of (slice_set notes i y)) ≡ drop (i + 1) all
left_step notes all i x y lt is left within =
    drop_map note_change (i + 1) (slice_set notes i y) ∙ ap (map note_change) (drop-set-lt (i + 1) notes i y (omega arith))
    ∙ sym (drop_map note_change (i + 1) notes) ∙ ap tail_of (sym (next_note notes i x lt is) ∙ left ∙ next_left notes all i x lt is left within)
  where
    tail_of : {X : Type 0} → List X → List X
    tail_of [] = []
    tail_of (x ∷ xs) = xs

-- at the end of the walk the lines are those after all changes
pub walked : (lines rows rest raised : List KeyedLine) (all : List LineChange) (n : ℕ) → length all ≤ n
    → rows ++ interleave rest (drop n all) ≡ interleave lines all → raised ≡ rows ++ rest → AreSorted lines → AreRisingChanges all
    → raised ≡ with_lines lines all
walked lines rows rest raised all n end walk up sorted rising =
    up ∙ ap (λ l. rows ++ interleave rest l) (sym (drop_all n all end)) ∙ walk ∙ woven_is lines all sorted rising

pub took : (lines rest : List KeyedLine) (notes : List Note) (all : List LineChange) (n : ℕ) → length all ≤ n → length notes ≤ n
    → take n (notes_of notes) ++ changes_back rest (drop n all) ≡ changes_back lines all → AreSorted lines → AreRisingChanges all
    → notes_of notes ≡ lines_under lines all
took lines rest notes all n end within takes sorted rising =
    sym (append-nil (notes_of notes) ∙ refl)
    ∙ ap (λ l. l ++ []) (sym (take_map note_change n notes ∙ ap (map note_change) (take_all n notes within)))
    ∙ ap (λ l. take n (notes_of notes) ++ changes_back rest l) (sym (drop_all n all end)) ∙ takes ∙ taken_is lines all sorted rising

pub length_notes : (notes : List Note) → length (notes_of notes) ≡ length notes
length_notes [] = refl
length_notes (x ∷ notes) = ap suc (length_notes notes)
