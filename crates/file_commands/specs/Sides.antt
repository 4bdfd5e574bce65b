-- An input of queries, and the output of their replies.
use Rattle.std.specs.Prelude.{◌≡◌, ℕ, List, Option}

-- The queries that are left and the output so far, at one time.
pub record Sides : Type 0 where
  pub left : Option (List ℕ)
  pub written : Option (List ℕ)

-- Both of these devices.
abbrev pub sides : Option (List ℕ) → Option (List ℕ) → Sides
sides left written = record { left = left; written = written }

-- Memory ran out before the first query: nothing is written, and no query is read.
pub record StartsWithoutMemory (before after : Sides) (status : ℕ) : Type 0 where
  pub is : status ≡ 6
  pub unread : after.left ≡ before.left
  pub unwritten : after.written ≡ before.written
