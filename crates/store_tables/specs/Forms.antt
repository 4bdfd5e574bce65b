-- The rows of a store with these entries and cells, in form 1 and in form 2. Each cell has the id of its row.
use Rattle.std.specs.Prelude.{ℤ, pos, List, [], ◌∷◌, map}
use Rattle.sqlite_value.specs.declared.value.Value.TheVariants.{Null, Int}
use Rattle.sqlite_value.specs.Order.{Row}
use Rattle.lei_values.specs.declared.cell.KeptCell.{KeptCell}
use Rattle.store_tables.specs.Stored.{stored_cell, stored_cell2}
use Rattle.store_tables.specs.Told.{StoredRows}

-- In form 1 neither the form nor a cell of form 2 is written.
abbrev pub first_store : List Row → List (ℤ × KeptCell) → StoredRows
first_store entries cells = record {
  entries = entries;
  cells = map (λ c. stored_cell c.0 c.1) cells;
  forms = [];
  cells2 = [];
}

-- In form 2 the form is written, and no cell of form 1 is left.
abbrev pub second_store : List Row → List (ℤ × KeptCell) → StoredRows
second_store entries cells = record {
  entries = entries;
  cells = [];
  forms = (Int (pos 1) ∷ Null ∷ Int (pos 2) ∷ []) ∷ [];
  cells2 = map (λ c. stored_cell2 c.0 c.1) cells;
}
