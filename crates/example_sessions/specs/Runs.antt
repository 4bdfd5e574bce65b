-- Runs of the program, as contracts see them.
use Rattle.std.specs.Prelude.{ℕ, List}

-- What a run must come to: the bytes that must come back, and the status that it must end with.
pub record RunState : Type 0 where
  pub expected : List ℕ
  pub status : ℕ
