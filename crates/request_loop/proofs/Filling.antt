-- The bytes at the front of a buffer when more are read.
use Rattle.std.proofs.Common.{◌≡◌, ℕ, ◌+◌, ◌≤◌, List, ◌++◌, length, take, Option, Result, Ok, Err, IfOk, sym, ap, ◌∙◌, arith, append_assoc}
use Rattle.std.proofs.lemmas.List.{take-take, take-append-le, length-take-le}
use Rattle.std.proofs.Math.Seq.{take-append-add}
use Rattle.lei_outside.specs.Told.{Reads}
use Rattle.request_loop.specs.ReadBuffers.{Fills}

-- a block is written after what is held, and n bytes of it are kept
filled : (size held n : ℕ) (items block rest beyond : List ℕ) → held ≤ length items → n ≤ length block
    → held + n ≤ size → take (held + n) (take size ((take held items ++ (block ++ rest)) ++ beyond)) ≡ take held
    items ++ take n block
filled size held n items block rest beyond within some fits =
    let front = take held items in
    let all = block ++ (rest ++ beyond) in
    let long : length front ≡ held = length-take-le held items within in
    let whole : (front ++ (block ++ rest)) ++ beyond ≡ front ++ all = append_assoc front (block ++ rest) beyond
    ∙ ap (λ l. front ++ l) (append_assoc block rest beyond) in
    take-take (held + n) size ((front ++ (block ++ rest)) ++ beyond) fits ∙ ap (take (held + n)) whole
    ∙ ap (λ k. take (k + n) (front ++ all)) (sym long) ∙ take-append-add front all n
    ∙ ap (λ l. front ++ l) (take-append-le n block (rest ++ beyond) some)

-- so a read that gives n bytes fills the buffer after what is held
pub fills : {E : Type 0} (before after : Option (List ℕ)) (result : Result ℕ E) (size held most : ℕ)
    (start items block rest beyond : List ℕ) → take held items ≡ start
    → held ≤ length items → held + length block ≤ size → length block ≤ most → Reads before after result block
    → IfOk result (λ n. Fills before after start
    (take (held + n) (take size ((take held items ++ (block ++ rest)) ++ beyond))) n most)
fills before after (Ok n) size held most start items block rest beyond same within fits few reads = (
  take n block,
  length-take-le n block reads.0,
  omega (arith, reads.0),
  reads.1,
  filled size held n items block rest beyond within reads.0 (omega (arith, reads.0)) ∙ ap (λ l. l ++ take n block) same,
  reads.2,
)
fills before after (Err fault) size held most start items block rest beyond same within fits few reads = tt
