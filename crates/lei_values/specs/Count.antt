-- Counts that a device keeps in 64 bits: they stop at their greatest value.
use Rattle.std.specs.Prelude.{ℕ, ◌+◌, ◌-◌, ◌^◌, ◌≤◌, min}

-- A count plus one; at its greatest value it stays.
abbrev pub count_up : ℕ → ℕ
count_up before = min (before + 1) (2 ^ 64 - 1)

-- The count is greater than before, or is at its greatest value.
abbrev pub Rose : ℕ → ℕ → Type 0
Rose before now = count_up before ≤ now
