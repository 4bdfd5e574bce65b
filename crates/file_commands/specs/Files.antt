-- Files that are read to their ends. This project's profile.
use Rattle.std.specs.Prelude.{◌≡◌, ◌<◌, ℕ, List, length, Option}
use Rattle.lei_outside.specs.Told.{IsAtEnd, Loses}
use Rattle.line_reading.specs.declared.stop.Stop.{Stop}
use Rattle.line_reading.specs.declared.stop.Stop.TheVariants as stops

-- Reading a file ends at 1,073,741,824 bytes (1 GiB).
abbrev pub file_limit : ℕ
file_limit = 1_073_741_824

-- These bytes were read, and the file ends after them. Their number is below the one at which reading ends.
pub record IsReadWhole (before after : Option (List ℕ)) (bytes : List ℕ) : Type 0 where
  pub lost : Loses before after bytes
  pub ended : IsAtEnd after
  pub short : length bytes < file_limit

-- The number of bytes read is below the one at which reading ends.
pub record IsReadShort (before after : Option (List ℕ)) : Type 0 where
  pub bytes : List ℕ
  pub lost : Loses before after bytes
  pub short : length bytes < file_limit

-- The number of bytes read is the one at which reading ends.
pub record IsReadToLimit (before after : Option (List ℕ)) : Type 0 where
  pub bytes : List ℕ
  pub lost : Loses before after bytes
  pub long : length bytes ≡ file_limit

-- Why a file wasn't read to its end: a read failed, memory ran out, or the file is too long. It is too long exactly if
-- the number of bytes read is the one at which reading ends.
abbrev pub IsFileStop : Option (List ℕ) → Option (List ℕ) → Stop → Type 0
IsFileStop before after stops.Refused = ⊥
IsFileStop before after stops.ReadFault = IsReadShort before after
IsFileStop before after stops.WriteFault = ⊥
IsFileStop before after stops.KeeperFault = ⊥
IsFileStop before after stops.NoMemory = IsReadShort before after
IsFileStop before after stops.StoreDamaged = ⊥
IsFileStop before after stops.InputTooLong = IsReadToLimit before after
