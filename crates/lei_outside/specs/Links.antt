-- What a link tells of both its directions.
use Rattle.std.specs.Prelude.{ℕ, List, Option}

-- The bytes that are left to be read, and those that were written, each if it is told.
pub record LinkTold : Type 0 where
  pub left : Option (List ℕ)
  pub written : Option (List ℕ)

-- What a link tells, by what it tells of each direction.
abbrev pub link_told : {L : Type 0} → (L → Option (List ℕ)) → (L → Option (List ℕ)) → L → LinkTold
link_told left written link = record { left = left link; written = written link }
