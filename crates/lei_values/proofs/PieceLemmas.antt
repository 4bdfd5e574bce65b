-- Pieces of a text that follow one another: how many there are, which one is at an index, and one more piece.
use Rattle.std.proofs.Common.{◌≡◌, ◌≢◌, ◌==◌, ◌&&◌, Bool, true, false, ℕ, zero, suc, ◌+◌, ◌-◌, ◌<◌, ◌≤◌, List, [], ◌∷◌, ◌++◌, length, take, drop, inl, inr, refl, sym, ap, ◌∙◌, arith}
use Rattle.std.specs.Prelude.{get_or}
use Rattle.std.specs.Cmp.Lexicographic.{pointwise, unequal}
use Rattle.std.specs.Str.{IsCharBoundary, IsUtf8}
use Rattle.std.proofs.Math.Bool.{and_assoc}
use Rattle.std.proofs.lemmas.Bool.{eq-eqb}
use Rattle.std.proofs.lemmas.Bool.Decides.{eqb_tells, leb_tells}
use Rattle.std.proofs.lemmas.List.{length-append, length-drop, take-append-le, drop-append-le, drop-drop, drop_all, drop_at, length-take-le, take_all, get_or_append_left}
use Rattle.std.proofs.lemmas.Str.{IsCharBoundary-at_seam, IsCharBoundary-end}
use Rattle.lei_values.specs.Pieces.{AreEnds, piece, pieces}

pub length_pieces : (start : ℕ) (ends bytes : List ℕ) → length (pieces start ends bytes) ≡ length ends
length_pieces start [] bytes = refl
length_pieces start (end ∷ ends) bytes = ap suc (length_pieces end ends bytes)

-- the piece at an index starts where the previous one ends
pub pieces-at : (start : ℕ) (ends bytes : List ℕ) (index : ℕ) (d : List ℕ) → index < length ends
    → get_or (pieces start ends bytes) index d ≡ piece (get_or (start ∷ ends) index 0) (get_or ends index 0) bytes
pieces-at start [] bytes index d within = (let none : ⊥ = omega (arith, within) in absurd none)
pieces-at start (end ∷ ends) bytes zero d within = refl
pieces-at start (end ∷ ends) bytes (suc index) d within = pieces-at end ends bytes index d (omega (arith, within))

pub AreEnds-rise : (start : ℕ) (ends bytes : List ℕ) (index : ℕ) → AreEnds start ends bytes → index < length ends
    → get_or (start ∷ ends) index 0 ≤ get_or ends index 0
AreEnds-rise start [] bytes index are within = (let none : ⊥ = omega (arith, within) in absurd none)
AreEnds-rise start (end ∷ ends) bytes zero are within = are.0
AreEnds-rise start (end ∷ ends) bytes (suc index) are within = AreEnds-rise end ends bytes index are.2 (omega (arith, within))

pub AreEnds-boundary : (start : ℕ) (ends bytes : List ℕ) (index : ℕ) → AreEnds start ends bytes → index < length ends
    → IsCharBoundary bytes (get_or ends index 0)
AreEnds-boundary start [] bytes index are within = (let none : ⊥ = omega (arith, within) in absurd none)
AreEnds-boundary start (end ∷ ends) bytes zero are within = are.1
AreEnds-boundary start (end ∷ ends) bytes (suc index) are within = AreEnds-boundary end ends bytes index are.2 (omega (arith, within))

-- the start of a piece is a position between characters, too
pub AreEnds-start : (start : ℕ) (ends bytes : List ℕ) (index : ℕ) → IsCharBoundary bytes start → AreEnds start ends bytes
    → index < length ends → IsCharBoundary bytes (get_or (start ∷ ends) index 0)
AreEnds-start start [] bytes index first are within = (let none : ⊥ = omega (arith, within) in absurd none)
AreEnds-start start (end ∷ ends) bytes zero first are within = first
AreEnds-start start (end ∷ ends) bytes (suc index) first are within =
    AreEnds-start end ends bytes index are.1 are.2 (omega (arith, within))

-- ---- one more text

boundary_of_front : (bytes text : List ℕ) (i : ℕ) → IsUtf8 text → IsCharBoundary bytes i → IsCharBoundary (bytes ++ text) i
boundary_of_front bytes text i utf8 is = elim (leb_tells (length bytes) i) [
  | inl past ↦ (let same : i ≡ length bytes = omega (arith, past.1, is.0) in rw same (IsCharBoundary-at_seam (bytes ++ text) bytes text refl utf8))
  | inr within ↦ (let before : i < length bytes = omega (arith, within.1) in
      (rw (length-append bytes text) (omega (arith, is.0)), λ _. rw (get_or_append_left bytes text 0 i before) (is.1 before)))
]

piece_of_front : (bytes text : List ℕ) (start end : ℕ) → start ≤ end → end ≤ length bytes
    → piece start end (bytes ++ text) ≡ piece start end bytes
piece_of_front bytes text start end rise within =
    ap (take (end - start)) (drop-append-le start bytes text (omega (arith, rise, within)))
    ∙ take-append-le (end - start) (drop start bytes) text (rw (length-drop start bytes) (omega (arith, rise, within)))

pub AreEnds_push : (start : ℕ) (ends bytes text : List ℕ) → IsUtf8 text → AreEnds start ends bytes
    → AreEnds start (ends ++ length (bytes ++ text) ∷ []) (bytes ++ text)
AreEnds_push start [] bytes text utf8 are =
    (rw (length-append bytes text, are) (omega arith), IsCharBoundary-end (bytes ++ text), refl)
AreEnds_push start (end ∷ ends) bytes text utf8 are =
    (are.0, boundary_of_front bytes text end utf8 are.1, AreEnds_push end ends bytes text utf8 are.2)

pub pieces_push : (start : ℕ) (ends bytes text : List ℕ) → AreEnds start ends bytes
    → pieces start (ends ++ length (bytes ++ text) ∷ []) (bytes ++ text) ≡ pieces start ends bytes ++ text ∷ []
pieces_push start [] bytes text are =
    ap (λ l. l ∷ []) (ap (take (length (bytes ++ text) - start)) (drop_at bytes text start (sym are))
    ∙ take_all (length (bytes ++ text) - start) text (rw (length-append bytes text) (omega (arith, are))))
pieces_push start (end ∷ ends) bytes text are =
    rw (piece_of_front bytes text start end are.0 (are.1).0) (ap (λ l. piece start end bytes ∷ l) (pieces_push end ends bytes text are.2))

-- the same for a text and ends that have grown by it
pub ends_grow : (ends bytes text ends' bytes' : List ℕ) → IsUtf8 text → AreEnds 0 ends bytes
    → bytes' ≡ bytes ++ text → ends' ≡ ends ++ length bytes' ∷ [] → AreEnds 0 ends' bytes'
ends_grow ends bytes text ends' bytes' utf8 are grown more =
    rw (more, grown) (AreEnds_push 0 ends bytes text utf8 are)

pub pieces_grow : (ends bytes text ends' bytes' : List ℕ) → AreEnds 0 ends bytes
    → bytes' ≡ bytes ++ text → ends' ≡ ends ++ length bytes' ∷ [] → pieces 0 ends' bytes' ≡ pieces 0 ends bytes ++ text ∷ []
pieces_grow ends bytes text ends' bytes' are grown more =
    rw (more, grown) (pieces_push 0 ends bytes text are)

-- ---- equal texts

-- how one list compares with another: by its front and then by what follows
compared_by_parts : (n : ℕ) (xs ys : List ℕ) → n ≤ length xs → n ≤ length ys
    → pointwise ◌==◌ xs ys ≡ (pointwise ◌==◌ (take n xs) (take n ys) && pointwise ◌==◌ (drop n xs) (drop n ys))
compared_by_parts zero xs ys first second = refl
compared_by_parts (suc n) [] ys first second = (let none : ⊥ = omega (arith, first) in absurd none)
compared_by_parts (suc n) (x ∷ xs) [] first second = (let none : ⊥ = omega (arith, second) in absurd none)
compared_by_parts (suc n) (x ∷ xs) (y ∷ ys) first second =
    ap (λ b. x == y && b) (compared_by_parts n xs ys (omega (arith, first)) (omega (arith, second)))
    ∙ sym (and_assoc (x == y) (pointwise ◌==◌ (take n xs) (take n ys)) (pointwise ◌==◌ (drop n xs) (drop n ys)))

and_swap : (p q r : Bool) → (p && (q && r)) ≡ (q && (p && r))
and_swap true q r = refl
and_swap false true r = refl
and_swap false false r = refl

-- the first pieces end at the same position
compared_at : (start end : ℕ) (bytes bytes' : List ℕ) (q r : Bool) → start ≤ end → end ≤ length bytes → end ≤ length bytes'
    → r ≡ (q && pointwise ◌==◌ (drop end bytes) (drop end bytes'))
    → (pointwise ◌==◌ (piece start end bytes) (piece start end bytes') && r)
    ≡ (q && pointwise ◌==◌ (drop start bytes) (drop start bytes'))
compared_at start end bytes bytes' q r rise within within' rest =
    let at : start + (end - start) ≡ end = omega (arith, rise) in
    let parts = compared_by_parts (end - start) (drop start bytes) (drop start bytes')
    (rw (length-drop start bytes) (omega (arith, rise, within))) (rw (length-drop start bytes') (omega (arith, rise, within'))) in
    let first : drop (end - start) (drop start bytes) ≡ drop end bytes = drop-drop (end - start) start bytes ∙ ap (λ n. drop n bytes) at in
    let second : drop (end - start) (drop start bytes') ≡ drop end bytes' = drop-drop (end - start) start bytes' ∙ ap (λ n. drop n bytes') at in
    rw (rest, parts, first, second)
    (and_swap (pointwise ◌==◌ (piece start end bytes) (piece start end bytes')) q (pointwise ◌==◌ (drop end bytes) (drop end bytes')))

length-piece : (start end : ℕ) (bytes : List ℕ) → end ≤ length bytes → length (piece start end bytes) ≡ end - start
length-piece start end bytes within =
    length-take-le (end - start) (drop start bytes) (rw (length-drop start bytes) (omega (arith, within)))

compared_same : (start end end' : ℕ) (ends ends' bytes bytes' : List ℕ) → end ≡ end'
    → AreEnds start (end ∷ ends) bytes → AreEnds start (end' ∷ ends') bytes'
    → (AreEnds end ends' bytes' → pointwise (pointwise ◌==◌) (pieces end ends bytes) (pieces end ends' bytes')
    ≡ (pointwise ◌==◌ ends ends' && pointwise ◌==◌ (drop end bytes) (drop end bytes')))
    → pointwise (pointwise ◌==◌) (pieces start (end ∷ ends) bytes) (pieces start (end' ∷ ends') bytes')
    ≡ (pointwise ◌==◌ (end ∷ ends) (end' ∷ ends') && pointwise ◌==◌ (drop start bytes) (drop start bytes'))
compared_same start end end' ends ends' bytes bytes' same are are' rest =
    let within' : end ≤ length bytes' = omega (arith, same, (are'.1).0) in
    let from : AreEnds end ends' bytes' = rw same are'.2 in
    rw (sym same, eq-eqb end end refl)
    (compared_at start end bytes bytes' (pointwise ◌==◌ ends ends')
    (pointwise (pointwise ◌==◌) (pieces end ends bytes) (pieces end ends' bytes')) are.0 (are.1).0 within' (rest from))

-- texts are equal if their ends are equal and the pieces of memory are
pub pieces_compare : (start : ℕ) (ends ends' bytes bytes' : List ℕ) → AreEnds start ends bytes → AreEnds start ends' bytes'
    → pointwise (pointwise ◌==◌) (pieces start ends bytes) (pieces start ends' bytes')
    ≡ (pointwise ◌==◌ ends ends' && pointwise ◌==◌ (drop start bytes) (drop start bytes'))
pieces_compare start [] [] bytes bytes' are are' =
    let first : drop start bytes ≡ [] = drop_all start bytes (omega (arith, are)) in
    let second : drop start bytes' ≡ [] = drop_all start bytes' (omega (arith, are')) in
    rw (first, second) refl
pieces_compare start [] (end' ∷ ends') bytes bytes' are are' = refl
pieces_compare start (end ∷ ends) [] bytes bytes' are are' = refl
pieces_compare start (end ∷ ends) (end' ∷ ends') bytes bytes' are are' = elim (eqb_tells end end') [
  | inl is ↦ compared_same start end end' ends ends' bytes bytes' is.1 are are'
      (λ same. pieces_compare end ends ends' bytes bytes' are.2 same)
  | inr not ↦
      (let rise : start ≤ end = are.0 in let rise' : start ≤ end' = are'.0 in
      let other : length (piece start end bytes) ≢ length (piece start end' bytes') =
      (λ same. not.1 (omega (arith, rise, rise', sym (length-piece start end bytes (are.1).0) ∙ same ∙ length-piece start end' bytes' (are'.1).0))) in
      rw (unequal ◌==◌ (piece start end bytes) (piece start end' bytes') other, not.0) refl)
]

-- the same for what the texts are seen as
pub texts_compare : (ends ends' bytes bytes' : List ℕ) (xs ys : List (List ℕ)) → AreEnds 0 ends bytes → AreEnds 0 ends' bytes'
    → pieces 0 ends bytes ≡ xs → pieces 0 ends' bytes' ≡ ys
    → pointwise (pointwise ◌==◌) xs ys ≡ (pointwise ◌==◌ ends ends' && pointwise ◌==◌ bytes bytes')
texts_compare ends ends' bytes bytes' xs ys are are' is is' =
    rw (sym is, sym is') (pieces_compare 0 ends ends' bytes bytes' are are')
