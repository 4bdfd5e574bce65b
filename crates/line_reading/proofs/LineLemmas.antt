-- The lines of bytes that come in pieces.
use Rattle.std.proofs.Common.{◌≡◌, ◌≢◌, ℕ, suc, ◌+◌, ◌-◌, ◌<◌, ◌≤◌, ◌⊎◌, inl, inr, ◌==◌, ◌||◌, Bool, true, false, cond, Some, None, List, [], ◌∷◌, ◌++◌, length, take, drop, get_or, refl, sym, ap, ◌∙◌, subst, arith, append_assoc, length-append, drop-cons, add-one, take-append-drop, eq-eqb}
use Rattle.std.specs.List.{All, flat_map, slice_split}
use Rattle.std.specs.Str.Lines.{lines, lines_of_parts}
use Rattle.std.proofs.lemmas.Bool.{cases_lt}
use Rattle.std.proofs.lemmas.Bool.Decides.{eqb_tells}
use Rattle.std.proofs.lemmas.List.{append-nil, take-append-le, length-take-le, get_or-take}
use Rattle.std.proofs.lemmas.List.Elements.{All-nil, All-cons, All-head, All-tail, All-push, All-append, All-take, All-weaker, All-from_get_or}
use Rattle.std.proofs.lemmas.List.Splits.{slice_split_none, slice_split_at, length-slice_split}
use Rattle.std.proofs.Math.Seq.{take-append-add}
use Rattle.memchr.specs.Find.{IsFirstByte, is_byte}
use Rattle.line_reading.specs.Lines.{HasNoEnd, IsClosed, line_of, has_end, whole_part, last_part}

abbrev is_end : ℕ → Bool
is_end byte = byte == 10

abbrev IsOther : ℕ → Type 0
IsOther byte = byte ≢ 10

is_end-other : (byte : ℕ) → byte ≢ 10 → is_end byte ≡ false
is_end-other byte other = elim (eqb_tells byte 10) [ inl is ↦ absurd (other is.1) | inr is ↦ is.0 ]

is_end-true : (byte : ℕ) → is_end byte ≡ true → byte ≡ 10
is_end-true byte h = elim (eqb_tells byte 10) [ inl is ↦ is.1 | inr is ↦ cc ]

is_end-false : (byte : ℕ) → is_end byte ≡ false → byte ≢ 10
is_end-false byte h = elim (eqb_tells byte 10) [ inl is ↦ cc | inr is ↦ is.1 ]

no_test : (part : List ℕ) → HasNoEnd part → All (λ byte. is_end byte ≡ false) part
no_test part none = All-weaker IsOther (λ byte. is_end byte ≡ false) is_end-other part none

-- bytes without a line's end

pub HasNoEnd-nil : HasNoEnd []
HasNoEnd-nil = All-nil IsOther

pub HasNoEnd-append : (xs ys : List ℕ) → HasNoEnd xs → HasNoEnd ys → HasNoEnd (xs ++ ys)
HasNoEnd-append xs ys a b = All-append IsOther xs ys a b

pub HasNoEnd-take : (n : ℕ) (xs : List ℕ) → HasNoEnd xs → HasNoEnd (take n xs)
HasNoEnd-take n xs none = All-take IsOther n xs none

-- if a search for LF found none, no byte ends a line
pub HasNoEnd-unfound : (bytes : List ℕ) → IsFirstByte (is_byte 10) bytes None → HasNoEnd bytes
HasNoEnd-unfound bytes nowhere =
    All-from_get_or IsOther bytes 0 (λ k within is. nowhere k (omega arith) within (eq-eqb (get_or bytes k 0) 10 is))

-- if a search for LF found the first one, there is none before it
pub HasNoEnd-before : (bytes : List ℕ) (at : ℕ) → IsFirstByte (is_byte 10) bytes (Some at) → HasNoEnd (take at bytes)
HasNoEnd-before bytes at found =
    let within : at < length bytes = found.0.high in
    let long : length (take at bytes) ≡ at = length-take-le at bytes (omega arith) in
    All-from_get_or IsOther (take at bytes) 0 (λ k before is.
    let lower : k < at = omega arith in
    found.0.before k (omega arith) lower (eq-eqb (get_or bytes k 0) 10 (sym (get_or-take at bytes k 0 lower) ∙ is)))

-- the bytes are cut at that LF
pub cut_at_end : (bytes : List ℕ) (at : ℕ) → IsFirstByte (is_byte 10) bytes (Some at)
    → bytes ≡ (take at bytes ++ 10 ∷ []) ++ drop (at + 1) bytes
cut_at_end bytes at found =
    let within : at < length bytes = found.0.high in
    let is : get_or bytes at 0 ≡ 10 = is_end-true (get_or bytes at 0) found.1 in
    let rest : drop at bytes ≡ 10 ∷ drop (at + 1) bytes = drop-cons bytes at 0 within
    ∙ ap (λ byte. byte ∷ drop (suc at) bytes) is ∙ ap (λ n. 10 ∷ drop n bytes) (sym (add-one at)) in
    sym (take-append-drop at bytes) ∙ ap (λ l. take at bytes ++ l) rest
    ∙ sym (append_assoc (take at bytes) (10 ∷ []) (drop (at + 1) bytes))

-- the lines of bytes

lines-cons : (part : List ℕ) (parts : List (List ℕ)) → 0 < length parts
    → lines_of_parts (part ∷ parts) ≡ line_of part ∷ lines_of_parts parts
lines-cons part [] some = absurd (omega arith)
lines-cons part (next ∷ more) some = refl

-- the first line ends at the first LF
pub lines-first : (part rest : List ℕ) → HasNoEnd part → lines (part ++ 10 ∷ rest) ≡ line_of part ∷ lines rest
lines-first part rest none =
    ap lines_of_parts (slice_split_at is_end part 10 rest (no_test part none) refl)
    ∙ lines-cons part (slice_split is_end rest) (omega (arith, length-slice_split is_end rest))

-- an LF after bytes without LF ends one line
pub lines-one : (part : List ℕ) → HasNoEnd part → lines (part ++ 10 ∷ []) ≡ line_of part ∷ []
lines-one part none = lines-first part [] none

-- bytes without an LF are one line, or no line if there is no byte
pub lines-last : (part : List ℕ) → HasNoEnd part → lines part ≡ cond (length part == 0) [] (part ∷ [])
lines-last part none = ap lines_of_parts (slice_split_none is_end part (no_test part none))

lines-behind : (before part rest : List ℕ) → HasNoEnd part
    → lines (part ++ (before ++ 10 ∷ rest)) ≡ lines (part ++ (before ++ 10 ∷ [])) ++ lines rest
lines-behind [] part rest none =
    lines-first part rest none ∙ ap (λ ls. ls ++ lines rest) (sym (lines-first part [] none))
lines-behind (byte ∷ bytes) part rest none =
    let P : ℕ → Type 0 = λ x. lines (part ++ (x ∷ (bytes ++ 10 ∷ rest))) ≡ lines
    (part ++ (x ∷ (bytes ++ 10 ∷ []))) ++ lines rest in
    elim (eqb_tells byte 10) [
      | inl is ↦ subst P (sym is.1)
          (lines-first part (bytes ++ 10 ∷ rest) none
          ∙ ap (λ ls. line_of part ∷ ls) (lines-behind bytes [] rest HasNoEnd-nil)
          ∙ ap (λ ls. ls ++ lines rest) (sym (lines-first part (bytes ++ 10 ∷ []) none)))
      | inr is ↦ ap lines (sym (append_assoc part (byte ∷ []) (bytes ++ 10 ∷ rest)))
          ∙ lines-behind bytes (part ++ byte ∷ []) rest (All-push IsOther part byte none is.1)
          ∙ ap (λ l. lines l ++ lines rest) (append_assoc part (byte ∷ []) (bytes ++ 10 ∷ []))
    ]

-- the lines of whole lines come first, whatever follows them
pub lines-closed : (front rest : List ℕ) → IsClosed front → lines (front ++ rest) ≡ lines front ++ lines rest
lines-closed front rest (inl none) = ap (λ l. lines (l ++ rest)) none ∙ sym (ap (λ l. lines l ++ lines rest) none)
lines-closed front rest (inr ends) =
    let before = ends.0 in
    ap (λ l. lines (l ++ rest)) ends.1 ∙ ap lines (append_assoc before (10 ∷ []) rest)
    ∙ lines-behind before [] rest HasNoEnd-nil ∙ sym (ap (λ l. lines l ++ lines rest) ends.1)

pub IsClosed-nil : IsClosed []
IsClosed-nil = inl refl

pub IsClosed-more : (front part : List ℕ) → IsClosed ((front ++ part) ++ 10 ∷ [])
IsClosed-more front part = inr (front ++ part, refl)

pub IsClosed-append : (front more : List ℕ) → IsClosed front → IsClosed more → IsClosed (front ++ more)
IsClosed-append front more closed (inl none) =
    let P : List ℕ → Type 0 = λ l. IsClosed l in subst P (sym (append-nil front) ∙ ap (λ l. front ++ l) (sym none))
    closed
IsClosed-append front more closed (inr ends) =
    inr (front ++ ends.0, ap (λ l. front ++ l) ends.1 ∙ sym (append_assoc front ends.0 (10 ∷ [])))

-- an LF makes one more line from what follows whole lines
pub lines-more : (front part : List ℕ) → IsClosed front → HasNoEnd part
    → lines ((front ++ part) ++ 10 ∷ []) ≡ lines front ++ line_of part ∷ []
lines-more front part closed none =
    ap lines (append_assoc front part (10 ∷ [])) ∙ lines-closed front (part ++ 10 ∷ []) closed
    ∙ ap (λ ls. lines front ++ ls) (lines-one part none)

-- what follows whole lines is the last line, if there is a byte
pub lines-end : (front part : List ℕ) → IsClosed front → HasNoEnd part
    → lines (front ++ part) ≡ lines front ++ cond (length part == 0) [] (part ∷ [])
lines-end front part closed none =
    lines-closed front part closed ∙ ap (λ ls. lines front ++ ls) (lines-last part none)

-- a line lacks at most one of the bytes before its LF
pub length-line_of : (part : List ℕ) → length part ≤ length (line_of part) + 1
length-line_of part =
    let short : length (take (length part - 1) part) ≡ length part - 1 = length-take-le (length part - 1) part
    (omega arith) in
    elim (get_or part (length part - 1) 0 == 13)
    as (λ test. length part ≤ length (cond test (take (length part - 1) part) part) + 1)
    [ true ↦ omega arith | false ↦ omega arith ]

-- whole lines, and what follows them

or_false : (a b : Bool) → (a || b) ≡ false → (a ≡ false) × (b ≡ false)
or_false true b h = cc
or_false false b h = (refl, h)

or_true : (a : Bool) → (a || true) ≡ true
or_true true = refl
or_true false = refl

HasNoEnd-untested : (bytes : List ℕ) → has_end bytes ≡ false → HasNoEnd bytes
HasNoEnd-untested [] h = HasNoEnd-nil
HasNoEnd-untested (byte ∷ bytes) h =
    let parts = or_false (is_end byte) (has_end bytes) h in
    All-cons IsOther byte bytes (is_end-false byte parts.0) (HasNoEnd-untested bytes parts.1)

has_end-none : (bytes : List ℕ) → HasNoEnd bytes → has_end bytes ≡ false
has_end-none [] none = refl
has_end-none (byte ∷ bytes) none =
    ap (λ test. test || has_end bytes) (is_end-other byte (All-head IsOther byte bytes none))
    ∙ has_end-none bytes (All-tail IsOther byte bytes none)

has_end-mid : (before part : List ℕ) → has_end (before ++ 10 ∷ part) ≡ true
has_end-mid [] part = refl
has_end-mid (byte ∷ bytes) part = ap (λ test. is_end byte || test) (has_end-mid bytes part) ∙ or_true (is_end byte)

whole_part-some : (byte : ℕ) (bytes : List ℕ) → has_end (byte ∷ bytes) ≡ true
    → whole_part (byte ∷ bytes) ≡ byte ∷ whole_part bytes
unfolding whole_part
whole_part-some byte bytes h = ap (λ test. cond test (byte ∷ whole_part bytes) []) h

whole_part-none : (bytes : List ℕ) → has_end bytes ≡ false → whole_part bytes ≡ []
unfolding whole_part
whole_part-none [] h = refl
whole_part-none (byte ∷ bytes) h = ap (λ test. cond test (byte ∷ whole_part bytes) []) h

last_part-some : (byte : ℕ) (bytes : List ℕ) → has_end (byte ∷ bytes) ≡ true
    → last_part (byte ∷ bytes) ≡ last_part bytes
unfolding last_part
last_part-some byte bytes h = ap (λ test. cond test (last_part bytes) (byte ∷ bytes)) h

last_part-none : (bytes : List ℕ) → has_end bytes ≡ false → last_part bytes ≡ bytes
unfolding last_part
last_part-none [] h = refl
last_part-none (byte ∷ bytes) h = ap (λ test. cond test (last_part bytes) (byte ∷ bytes)) h

abbrev Tells : Bool → Type 0
Tells test = (test ≡ true) ⊎ (test ≡ false)

tells : (test : Bool) → Tells test
tells true = inl refl
tells false = inr refl

-- every list of bytes is its whole lines and what follows them
pub parts_of : (bytes : List ℕ) → whole_part bytes ++ last_part bytes ≡ bytes
parts_of [] = ap (λ l. l ++ last_part []) (whole_part-none [] refl) ∙ last_part-none [] refl
parts_of (byte ∷ bytes) =
    elim (tells (has_end (byte ∷ bytes))) [
      | inl h ↦ ap (λ l. l ++ last_part (byte ∷ bytes)) (whole_part-some byte bytes h)
          ∙ ap (λ l. byte ∷ (whole_part bytes ++ l)) (last_part-some byte bytes h) ∙ ap (λ l. byte ∷ l) (parts_of bytes)
      | inr h ↦ ap (λ l. l ++ last_part (byte ∷ bytes)) (whole_part-none (byte ∷ bytes) h)
          ∙ last_part-none (byte ∷ bytes) h
    ]

whole_part-ends : (bytes : List ℕ) → has_end bytes ≡ true → (before : List ℕ) × (whole_part bytes ≡ before ++ 10 ∷ [])
whole_part-ends [] h = cc
whole_part-ends (byte ∷ bytes) h =
    let whole = whole_part-some byte bytes h in
    elim (tells (has_end bytes)) [
      | inl more ↦ (
          let later = whole_part-ends bytes more in
          (byte ∷ later.0, whole ∙ ap (λ l. byte ∷ l) later.1)
          )
      | inr last ↦ (
          let is : byte ≡ 10 = elim (eqb_tells byte 10) [
            | inl e ↦ e.1
            | inr e ↦ absurd
                (let bad : true ≡ false = sym h ∙ ap (λ test. test || has_end bytes) e.0 ∙ last in cc)
          ] in
          ([], whole ∙ ap (λ l. byte ∷ l) (whole_part-none bytes last) ∙ ap (λ x. x ∷ []) is)
          )
    ]

pub IsClosed-whole_part : (bytes : List ℕ) → IsClosed (whole_part bytes)
IsClosed-whole_part bytes =
    elim (tells (has_end bytes)) [ inl h ↦ inr (whole_part-ends bytes h) | inr h ↦ inl (whole_part-none bytes h) ]

pub HasNoEnd-last_part : (bytes : List ℕ) → HasNoEnd (last_part bytes)
HasNoEnd-last_part [] = let P : List ℕ → Type 0 = λ l. HasNoEnd l in subst P (sym (last_part-none [] refl)) HasNoEnd-nil
HasNoEnd-last_part (byte ∷ bytes) =
    let P : List ℕ → Type 0 = λ l. HasNoEnd l in
    elim (tells (has_end (byte ∷ bytes))) [
      | inl h ↦ subst P (sym (last_part-some byte bytes h)) (HasNoEnd-last_part bytes)
      | inr h ↦ subst P (sym (last_part-none (byte ∷ bytes) h)) (HasNoEnd-untested (byte ∷ bytes) h)
    ]

whole_part-mid : (before part : List ℕ) → HasNoEnd part → whole_part (before ++ 10 ∷ part) ≡ before ++ 10 ∷ []
whole_part-mid [] part none =
    whole_part-some 10 part (has_end-mid [] part) ∙ ap (λ l. 10 ∷ l) (whole_part-none part (has_end-none part none))
whole_part-mid (byte ∷ bytes) part none =
    whole_part-some byte (bytes ++ 10 ∷ part) (has_end-mid (byte ∷ bytes) part)
    ∙ ap (λ l. byte ∷ l) (whole_part-mid bytes part none)

last_part-mid : (before part : List ℕ) → HasNoEnd part → last_part (before ++ 10 ∷ part) ≡ part
last_part-mid [] part none =
    last_part-some 10 part (has_end-mid [] part) ∙ last_part-none part (has_end-none part none)
last_part-mid (byte ∷ bytes) part none =
    last_part-some byte (bytes ++ 10 ∷ part) (has_end-mid (byte ∷ bytes) part) ∙ last_part-mid bytes part none

-- whole lines, followed by bytes without a line's end, are the `whole_part` of the two together
pub whole_part-is : (front part : List ℕ) → IsClosed front → HasNoEnd part → whole_part (front ++ part) ≡ front
whole_part-is front part (inl is) none =
    ap (λ l. whole_part (l ++ part)) is ∙ whole_part-none part (has_end-none part none) ∙ sym is
whole_part-is front part (inr ends) none =
    ap (λ l. whole_part (l ++ part)) ends.1 ∙ ap whole_part (append_assoc ends.0 (10 ∷ []) part)
    ∙ whole_part-mid ends.0 part none ∙ sym ends.1

pub last_part-is : (front part : List ℕ) → IsClosed front → HasNoEnd part → last_part (front ++ part) ≡ part
last_part-is front part (inl is) none =
    ap (λ l. last_part (l ++ part)) is ∙ last_part-none part (has_end-none part none)
last_part-is front part (inr ends) none =
    ap (λ l. last_part (l ++ part)) ends.1 ∙ ap last_part (append_assoc ends.0 (10 ∷ []) part)
    ∙ last_part-mid ends.0 part none

-- the texts of items, cut anywhere before their end

-- the first n elements are the texts of the items before this one, followed by a proper prefix of this item's text
pub record CutsAt {X Y : Type 0} (text : X → List Y) (items : List X) (n : ℕ) : Type 0 where
  pub before : List X
  pub item : X
  pub after : List X
  pub some : ℕ
  pub split : items ≡ before ++ item ∷ after
  pub within : some < length (text item)
  pub front : take n (flat_map text items) ≡ flat_map text before ++ take some (text item)

cuts_later : {X Y : Type 0} (text : X → List Y) (item : X) (items : List X) (left : ℕ) → CutsAt text items left
    → CutsAt text (item ∷ items) (length (text item) + left)
cuts_later text item items left later =
    record {
      before = item ∷ later.before;
      item = later.item;
      after = later.after;
      some = later.some;
      split = ap (λ l. item ∷ l) later.split;
      within = later.within;
      front = take-append-add (text item) (flat_map text items) left ∙ ap (λ l. text item ++ l) later.front
          ∙ sym (append_assoc (text item) (flat_map text later.before) (take later.some (text later.item)));
    }

pub cuts_at : {X Y : Type 0} (text : X → List Y) (items : List X) (n : ℕ) → n < length (flat_map text items)
    → CutsAt text items n
cuts_at text [] n h = absurd (omega arith)
cuts_at text (item ∷ items) n h =
    elim (cases_lt n (length (text item))) [
      | inl here ↦ record {
        before = [];
        item = item;
        after = items;
        some = n;
        split = refl;
        within = here;
        front = take-append-le n (text item) (flat_map text items) (omega arith);
      }
      | inr past ↦ (
          let left = n - length (text item) in
          let whole : length (text item) + left ≡ n = omega arith in
          subst (λ (k : ℕ). CutsAt text (item ∷ items) k) whole
          (cuts_later text item items left
          (cuts_at text items left (omega (arith, length-append (text item) (flat_map text items)))))
          )
    ]
