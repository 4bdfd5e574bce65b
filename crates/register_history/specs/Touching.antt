-- What an entry does to the cells of the register.
use Rattle.std.specs.Prelude.{◌≡◌, ◌⊎◌, ◌-◌, ℕ, List, map, Some}
use Rattle.std.specs.FinMap.{get}
use Rattle.std.specs.List.{AllByRecursion}
use Rattle.lei_values.specs.declared.cell.KeptCell.{KeptCell}
use Rattle.lei_records.specs.Tables.{KeyTexts}
use Rattle.register_table.specs.declared.touched.Touched.{Touched}
use Rattle.register_table.specs.Cells.{IsItemOf}
use Rattle.register_table.specs.Held.{Cell, Held}
use Rattle.register_table.specs.Touched.{cell_under_key, touched}
use Rattle.register_table.specs.Undos.{IsLater}
use Rattle.register_history.specs.Kept.{IsKey, kept_cell}

-- The entry with this number came after all that touched the cells before, and each cell afterwards is unchanged, or
-- has this number.
pub record Touches (number : ℕ) (before after : Held) : Type 0 where
  pub later : IsLater number before
  pub each : (key : KeyTexts)
      → (get after key ≡ get before key)
      ⊎ ((cell : Cell) × (get after key ≡ Some cell) × (cell.entry ≡ number))

-- These are the cells last touched by entries whose numbers are greater than one number and at most another, as they
-- are kept. Each is under a key whose LEIs are valid, and its item is the key's own.
pub record AreCellsTouched (after upto : ℕ) (held : Held) (cells : List KeptCell) : Type 0 where
  pub list : List Touched
  pub are : cells ≡ map kept_cell list
  pub told : map cell_under_key list ≡ touched after upto held
  pub keys : AllByRecursion (λ told. IsKey told.key) list
  pub own : AllByRecursion (λ told. IsItemOf told.key told.item) list

-- These are the cells that the entry with this number touched last, as they are kept.
abbrev pub AreTouchedCells : ℕ → Held → List KeptCell → Type 0
AreTouchedCells number held cells = AreCellsTouched (number - 1) number held cells
