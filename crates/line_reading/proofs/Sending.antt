-- What a wire took, piece by piece.
use Rattle.std.proofs.Common.{◌≡◌, ℕ, ◌+◌, ◌<◌, List, [], ◌++◌, length, take, drop, get_or, flat_map, Bor, Option, Result, Ok, Err, OnOk, OnErr, refl, sym, ap, ◌∙◌, append_assoc, subst}
use Rattle.std.proofs.lemmas.List.{append-nil}
use Rattle.lei_outside.proofs.Told.{Grows-none, Grows-join}
use Rattle.lei_outside.specs.Told.{Grows, WritesFront}
use Rattle.request_loop.specs.Wires.{IsSent}
use Rattle.request_loop.proofs.Sending.{Grows-front, WritesFront-longer, pieces_more, pieces_rest}
use Rattle.line_reading.specs.WriteBuffer.{Sends}

-- ---- what was sent and what waits, with one more piece

pub Sends-then : (a b c : Option (List ℕ)) (all waits piece more : List ℕ) → Sends a b all waits
    → Sends b c (waits ++ piece) more → Sends a c (all ++ piece) more
Sends-then a b c all waits piece more first second = (
  first.0 ++ second.0,
  Grows-join a b c first.0 second.0 first.1 second.1,
  ap (λ xs. xs ++ piece) first.2
      ∙ (append_assoc first.0 waits piece
      ∙ (ap (λ xs. first.0 ++ xs) second.2 ∙ sym (append_assoc first.0 second.0 more))),
)

pub Sends-front : (a b c : Option (List ℕ)) (all waits piece : List ℕ) → Sends a b all waits
    → WritesFront b c (waits ++ piece) → WritesFront a c (all ++ piece)
Sends-front a b c all waits piece first front =
    let P : List ℕ → Type 0 = λ xs. WritesFront a c xs in
    subst P (sym (append_assoc first.0 waits piece) ∙ ap (λ xs. xs ++ piece) (sym first.2))
    (Grows-front a b c first.0 (waits ++ piece) first.1 front)

-- what waits was sent, or only a prefix of it
pub sends_rest : {E : Type 0} (a b c : Option (List ℕ)) (all waits : List ℕ) (result : Result (Unit {0}) E)
    → Sends a b all waits → IsSent b c waits result → IsSent a c all result
sends_rest a b c all waits (Ok done) first grown =
    let G : List ℕ → Type 0 = λ xs. Grows a c xs in
    subst G (sym first.2) (Grows-join a b c first.0 waits first.1 grown)
sends_rest a b c all waits (Err fault) first front =
    let W : List ℕ → Type 0 = λ xs. WritesFront a c xs in
    subst W (sym first.2) (Grows-front a b c first.0 waits first.1 front)

-- a piece was sent after what waited
pub sent_after : {E : Type 0} (a b c : Option (List ℕ)) (held piece rest : List ℕ) (result : Result (Unit {0}) E)
    → Grows a b held → rest ≡ [] → IsSent b c piece result → OnOk result (Sends a c (held ++ piece) rest)
sent_after a b c held piece rest (Ok done) first none more = (
  held ++ piece,
  Grows-join a b c held piece first more,
  sym (append-nil (held ++ piece)) ∙ ap (λ xs. (held ++ piece) ++ xs) (sym none),
)
sent_after a b c held piece rest (Err fault) first none more = tt

pub refused_after : {E : Type 0} (a b c : Option (List ℕ)) (held piece : List ℕ) (result : Result (Unit {0}) E)
    → Grows a b held → IsSent b c piece result → OnErr result (WritesFront a c (held ++ piece))
refused_after a b c held piece (Ok done) first more = tt
refused_after a b c held piece (Err fault) first more = Grows-front a b c held piece first more

pub Sends-nothing : (a : Option (List ℕ)) (waits : List ℕ) → Sends a a waits waits
Sends-nothing a waits = ([], Grows-none a, refl)

-- a piece that wasn't written whole, and the pieces that were to come after it
pub refused : (a b c : Option (List ℕ)) (pieces : List (Bor (List ℕ))) (i : ℕ) (d : Bor (List ℕ)) (held waits : List ℕ)
    → i < length pieces
    → Sends a b (held ++ flat_map (λ piece. piece.now) (take i pieces)) waits
    → WritesFront b c (waits ++ (get_or pieces i d).now)
    → WritesFront a c (held ++ flat_map (λ piece. piece.now) pieces)
refused a b c pieces i d held waits within sent front =
    let done = flat_map (λ (piece : Bor (List ℕ)). piece.now) (take i pieces) in
    let here = (get_or pieces i d).now in
    let rest = flat_map (λ (piece : Bor (List ℕ)). piece.now) (drop (i + 1) pieces) in
    let P : List ℕ → Type 0 = λ xs. WritesFront a c xs in
    let whole : ((held ++ done) ++ here) ++ rest ≡ held ++ flat_map (λ piece. piece.now) pieces =
    ap (λ xs. xs ++ rest) (append_assoc held done here) ∙ (append_assoc held (done ++ here) rest
    ∙ ap (λ xs. held ++ xs)
    (ap (λ xs. xs ++ rest) (sym (pieces_more pieces i d within)) ∙ pieces_rest pieces (i + 1))) in
    subst P whole (WritesFront-longer a c ((held ++ done) ++ here) rest
    (Sends-front a b c (held ++ done) waits here sent front))
