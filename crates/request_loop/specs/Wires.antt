-- What is written to a wire.
use Rattle.std.specs.Prelude.{List, ℕ, Option, Result, MatchResult}
use Rattle.lei_outside.specs.Told.{Grows, WritesFront}

-- These bytes were all written, or only a proper prefix of them.
abbrev pub IsSent : {T E : Type 0} → Option (List ℕ) → Option (List ℕ) → List ℕ → Result T E → Type 0
IsSent before after bytes result =
    MatchResult result (λ _. Grows before after bytes) (λ _. WritesFront before after bytes)
