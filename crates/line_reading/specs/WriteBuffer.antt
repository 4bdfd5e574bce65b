-- What a buffer of waiting bytes does to a wire.
use Rattle.std.specs.Prelude.{◌≡◌, ℕ, List, ◌++◌, Option, Result, MatchResult}
use Rattle.lei_outside.specs.Told.{Grows, WritesFront}

-- A prefix of all these bytes was written, and the rest waits.
abbrev pub Sends : Option (List ℕ) → Option (List ℕ) → List ℕ → List ℕ → Type 0
Sends before after all waits = (sent : List ℕ) × Grows before after sent × (all ≡ sent ++ waits)

-- All these bytes are written or wait. Or the wire failed, and only a proper prefix of them was written.
abbrev pub Puts : {T E : Type 0} → Option (List ℕ) → Option (List ℕ) → List ℕ → Result T E → List ℕ → Type 0
Puts before after all result waits =
    MatchResult result (λ _. Sends before after all waits) (λ _. WritesFront before after all)
