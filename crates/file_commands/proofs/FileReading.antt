-- A file that is read block by block.
use Rattle.std.proofs.Common.{◌≡◌, ℕ, ◌+◌, ◌<◌, ◌≤◌, List, [], ◌++◌, length, take, Option, ap, arith, append_assoc, length-append, append-nil, subst, sym, ◌∙◌, Result, Ok, Err, IfOk}
use Rattle.std.proofs.lemmas.List.{take-take, take-append-le, length-take-le}
use Rattle.lei_outside.specs.Told.{IsAtEnd, Loses, Reads}
use Rattle.request_loop.specs.ReadBuffers.{Fills}
use Rattle.lei_outside.proofs.Told.{Loses-join, Loses-none}
use Rattle.std.specs.Result.{IsErrAnd}
use Rattle.std.specs.Prelude.{IfErr}
use Rattle.line_reading.specs.declared.stop.Stop.{Stop}
use Rattle.line_reading.specs.declared.stop.Stop.TheVariants as stops
use Rattle.file_commands.specs.Files.{IsFileStop, IsReadShort, IsReadToLimit, IsReadWhole, file_limit}

-- these bytes were read so far
pub record IsReadSoFar (before after : Option (List ℕ)) (bytes : List ℕ) : Type 0 where
  pub lost : Loses before after bytes
  pub short : length bytes < file_limit

pub read-nothing : (told : Option (List ℕ)) → IsReadSoFar told told []
read-nothing told = record { lost = Loses-none told; short = omega arith }

-- a read that took no bytes leaves what was read short
pub stays-short : (before between after : Option (List ℕ)) (bytes : List ℕ) → IsReadSoFar before between bytes
    → Loses between after [] → IsReadShort before after
stays-short before between after bytes so_far none = record {
  bytes = bytes ++ [];
  lost = Loses-join before between after bytes [] so_far.lost none;
  short = omega (arith, so_far.short, length-append bytes []);
}

pub read-short : (before after : Option (List ℕ)) (bytes : List ℕ) → IsReadSoFar before after bytes → IsReadShort before after
read-short before after bytes so_far = record { bytes = bytes; lost = so_far.lost; short = so_far.short }

-- a read that gives no bytes is at the end
pub reads-whole : (before between after : Option (List ℕ)) (bytes : List ℕ) → IsReadSoFar before between bytes
    → Loses between after [] → IsAtEnd after → IsReadWhole before after bytes
reads-whole before between after bytes so_far none ended =
    let all : Loses before after (bytes ++ []) = Loses-join before between after bytes [] so_far.lost none in
    record { lost = subst (Loses before after) (append-nil bytes) all; ended = ended; short = so_far.short }

-- a read that gives some more bytes
pub reads-more : (before between after : Option (List ℕ)) (bytes more : List ℕ) → IsReadSoFar before between bytes
    → Loses between after more → length bytes + length more < file_limit → IsReadSoFar before after (bytes ++ more)
reads-more before between after bytes more so_far lost below = record {
  lost = Loses-join before between after bytes more so_far.lost lost;
  short = omega (arith, below, length-append bytes more);
}

pub reads-to-limit : (before between after : Option (List ℕ)) (bytes more : List ℕ) → IsReadSoFar before between bytes
    → Loses between after more → length bytes + length more ≡ file_limit → IsReadToLimit before after
reads-to-limit before between after bytes more so_far lost all = record {
  bytes = bytes ++ more;
  lost = Loses-join before between after bytes more so_far.lost lost;
  long = length-append bytes more ∙ all;
}

pub stops-short : {A : Type 0} (before after : Option (List ℕ)) (result : Result A Stop) → IsErrAnd result (λ stop. stop ≡ stops.NoMemory)
    → IsReadShort before after → IfErr result (IsFileStop before after)
stops-short before after (Ok file) is short = tt
stops-short before after (Err stop) is short = (let P : Stop → Type 0 = λ s. IsFileStop before after s in subst P (sym is) short)

-- a read into the front of a block
pub fills_block : {E : Type 0} (before after : Option (List ℕ)) (result : Result ℕ E) (size most : ℕ)
    (piece rest beyond : List ℕ) → length piece ≤ size → length piece ≤ most → Reads before after result piece
    → IfOk result (λ n. Fills before after [] (take n (take size ((piece ++ rest) ++ beyond))) n most)
fills_block before after (Ok n) size most piece rest beyond fits few reads = (
  take n piece,
  length-take-le n piece reads.0,
  omega (arith, reads.0),
  reads.1,
  take-take n size ((piece ++ rest) ++ beyond) (omega (arith, reads.0))
      ∙ ap (take n) (append_assoc piece rest beyond) ∙ take-append-le n piece (rest ++ beyond) reads.0,
  reads.2,
)
fills_block before after (Err fault) size most piece rest beyond fits few reads = tt
