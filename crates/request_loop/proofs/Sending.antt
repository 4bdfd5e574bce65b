-- Sending in pieces.
use Rattle.std.proofs.Common.{◌≡◌, ℕ, ◌+◌, ◌<◌, List, [], ◌∷◌, ◌++◌, length, take, drop, get_or, flat_map, Bor, Option, Result, Ok, Err, sym, ap, ◌∙◌, subst, arith, length-append}
use Rattle.std.proofs.lemmas.List.{append-nil, take-append-le, take-append-drop, take_more}
use Rattle.std.proofs.lemmas.List.Concat.{flat_map-append}
use Rattle.std.proofs.Math.Seq.{take-append-add}
use Rattle.lei_outside.specs.Told.{Grows, WritesFront}
use Rattle.lei_outside.proofs.Told.{Grows-join}
use Rattle.request_loop.specs.Wires.{IsSent}

-- a piece was written, and then a proper prefix of another one
pub Grows-front : (a b c : Option (List ℕ)) (xs ys : List ℕ) → Grows a b xs → WritesFront b c ys
    → WritesFront a c (xs ++ ys)
Grows-front a b c xs ys first front =
    let n = front.0 in
    let within : length xs + n < length (xs ++ ys) = omega (arith, length-append xs ys, front.1) in
    let P : List ℕ → Type 0 = λ zs. Grows a c zs in
    (length xs + n, within, subst P (sym (take-append-add xs ys n)) (Grows-join a b c xs (take n ys) first front.2))

-- a proper prefix of a list is a proper prefix of a longer list
pub WritesFront-longer : (a c : Option (List ℕ)) (xs ys : List ℕ) → WritesFront a c xs → WritesFront a c (xs ++ ys)
WritesFront-longer a c xs ys front =
    let n = front.0 in
    let P : List ℕ → Type 0 = λ zs. Grows a c zs in (
      n,
      omega (arith, length-append xs ys, front.1),
      subst P (sym (take-append-le n xs ys (omega (arith, front.1))))
          front.2,
    )

-- a piece was written, and then another one or a prefix of it
pub sent_then : {T E : Type 0} (a b c : Option (List ℕ)) (xs ys : List ℕ) (result : Result T E) → Grows a b xs
    → IsSent b c ys result → IsSent a c (xs ++ ys) result
sent_then a b c xs ys (Ok done) first second = Grows-join a b c xs ys first second
sent_then a b c xs ys (Err fault) first front = Grows-front a b c xs ys first front

-- ---- pieces one after another

pub pieces_more : (pieces : List (Bor (List ℕ))) (i : ℕ) (d : Bor (List ℕ)) → i < length pieces
    → flat_map (λ piece. piece.now) (take (i + 1) pieces) ≡ flat_map (λ piece. piece.now)
    (take i pieces) ++ (get_or pieces i d).now
pieces_more pieces i d within =
    ap (flat_map (λ piece. piece.now)) (take_more pieces i d within)
    ∙ (flat_map-append (λ (piece : Bor (List ℕ)). piece.now) (take i pieces) (get_or pieces i d ∷ [])
    ∙ ap (λ xs. flat_map (λ piece. piece.now) (take i pieces) ++ xs) (append-nil (get_or pieces i d).now))

pub pieces_rest : (pieces : List (Bor (List ℕ))) (i : ℕ)
    → flat_map (λ piece. piece.now) (take i pieces) ++ flat_map (λ piece. piece.now) (drop i pieces) ≡ flat_map
    (λ piece. piece.now) pieces
pieces_rest pieces i = sym (flat_map-append (λ (piece : Bor (List ℕ)). piece.now) (take i pieces) (drop i pieces))
    ∙ ap (flat_map (λ piece. piece.now)) (take-append-drop i pieces)

-- a piece that wasn't written whole, after those before it
pub pieces_cut : (a b c : Option (List ℕ)) (pieces : List (Bor (List ℕ))) (i : ℕ) (d : Bor (List ℕ)) → i < length pieces
    → Grows a b (flat_map (λ piece. piece.now) (take i pieces)) → WritesFront b c (get_or pieces i d).now
    → WritesFront a c (flat_map (λ piece. piece.now) pieces)
pieces_cut a b c pieces i d within sent front =
    let done = flat_map (λ (piece : Bor (List ℕ)). piece.now) (take i pieces) in
    let here = (get_or pieces i d).now in
    let rest = flat_map (λ (piece : Bor (List ℕ)). piece.now) (drop (i + 1) pieces) in
    let P : List ℕ → Type 0 = λ xs. WritesFront a c xs in
    let whole : (done ++ here) ++ rest ≡ flat_map (λ piece. piece.now) pieces =
    ap (λ xs. xs ++ rest) (sym (pieces_more pieces i d within)) ∙ pieces_rest pieces (i + 1) in
    subst P whole (WritesFront-longer a c (done ++ here) rest (Grows-front a b c done here sent front))
