-- Touched: the cells that were last touched by the entries in a range of numbers.
use Rattle.std.specs.Prelude.{ℕ, List, Bool, ◌&&◌, nat_lt, nat_le}
use Rattle.std.specs.FinMap.{entries}
use Rattle.std.specs.List.{filter}
use Rattle.lei_records.specs.Tables.{KeyTexts}
use Rattle.register_table.specs.declared.touched.Touched.{Touched}
use Rattle.register_table.specs.Held.{Cell, Held, cell_key}
use Rattle.register_table.specs.Undos.{cell_with}

-- The number of a cell is greater than `after` and at most `upto`.
abbrev pub is_touched : ℕ → ℕ → Cell → Bool
is_touched after upto cell = nat_lt after cell.entry && nat_le cell.entry upto

-- The cells with such numbers, under their keys and in the order of the keys: by kind, and then by the row's key.
abbrev pub touched : ℕ → ℕ → Held → List (KeyTexts × Cell)
touched after upto held = filter (λ cell. is_touched after upto cell.1) (entries held)

-- A key that is listed as touched, as a cell under its key.
abbrev pub cell_under_key : Touched → KeyTexts × Cell
cell_under_key told = (cell_key told.key, cell_with told.entry told.item)
