-- Entries and cells as rows of the tables.
use Rattle.std.specs.Prelude.{◌≡◌, ◌<◌, ◌^◌, pos, [], ◌∷◌}
use Rattle.sqlite_value.specs.declared.value.Value.TheVariants.{Int, Text, Blob}
use Rattle.sqlite_value.specs.Order.{Row}
use Rattle.sqlite.specs.Values.{or_null}
use Rattle.lei_values.specs.declared.entry.KeptEntry.{KeptEntry}
use Rattle.lei_values.specs.declared.cell.KeptCell.{KeptCell}
use Rattle.store_statements.specs.Names.{lei_of, rest_of}

-- The values of an entry in the order of the columns: seq, kind, office, number, moment, rules, body and answer. The
-- office is a text, the body and the answer are blobs, and the others are integers.
abbrev pub entry_row : KeptEntry → Row
entry_row e = Int (pos e.seq) ∷ Int (pos e.kind) ∷ Text e.office ∷ Int (pos e.number) ∷ Int e.moment
    ∷ Int (pos e.rules)
    ∷ Blob e.body ∷ Blob e.answer ∷ []

-- The values of a cell in the order of the columns of form 2: kind, the two parts of the name, touched and row. The row
-- is a blob, or NULL if there is none.
abbrev pub cell_row : KeptCell → Row
cell_row c = Int (pos c.kind) ∷ Text (lei_of c.name) ∷ Text (rest_of c.name) ∷ Int (pos c.touched)
    ∷ or_null Blob c.row ∷ []

-- A row that has the values of an entry, each within the range of its type.
pub record IsEntryRow (row : Row) : Type 0 where
  pub entry : KeptEntry
  pub kind : entry.kind < 2 ^ 8
  pub number : entry.number < 2 ^ 32
  pub rules : entry.rules < 2 ^ 16
  pub is : row ≡ entry_row entry

-- A row that has the values of a cell of form 2, each within the range of its type.
pub record IsCellRow (row : Row) : Type 0 where
  pub cell : KeptCell
  pub kind : cell.kind < 2 ^ 8
  pub is : row ≡ cell_row cell
