-- Entries and cells as rows of the tables, as they are stored: the row's id, and a value for each column.
use Rattle.std.specs.Prelude.{ℕ, ℤ, pos, negsuc, ◌&&◌, ◌++◌, ◌^◌, nat_le, nat_lt, Bool, List, [], ◌∷◌, Option, None, Some}
use Rattle.sqlite_value.specs.declared.value.Value.{Value}
use Rattle.sqlite_value.specs.declared.value.Value.TheVariants.{Null, Int, Text, Blob}
use Rattle.sqlite_value.specs.Order.{Row, bytes, column}
use Rattle.sqlite_rules.specs.Edit.{id_in}
use Rattle.sqlite.specs.Values.{or_null}
use Rattle.lei_values.specs.declared.entry.KeptEntry.{KeptEntry}
use Rattle.lei_values.specs.declared.cell.KeptCell.{KeptCell}
use Rattle.store_statements.specs.Names.{lei_of, rest_of}
use Rattle.store_tables.specs.Same.{same_row}

-- The row of an entry. Its number is the row's id, and the number's own column has NULL.
abbrev pub stored_entry : KeptEntry → Row
stored_entry e = Int (pos e.seq) ∷ Null ∷ Int (pos e.kind) ∷ Text e.office ∷ Int (pos e.number) ∷ Int e.moment
    ∷ Int (pos e.rules)
    ∷ Blob e.body ∷ Blob e.answer ∷ []

-- The row of a cell in form 1, with an id that has no meaning.
abbrev pub stored_cell : ℤ → KeptCell → Row
stored_cell id c = Int id ∷ Int (pos c.kind) ∷ Text c.name ∷ Int (pos c.touched) ∷ or_null Blob c.row ∷ []

-- The row of a cell in form 2, where the name is in two parts.
abbrev pub stored_cell2 : ℤ → KeptCell → Row
stored_cell2 id c = Int id ∷ Int (pos c.kind) ∷ Text (lei_of c.name) ∷ Text (rest_of c.name)
    ∷ Int (pos c.touched)
    ∷ or_null Blob c.row ∷ []

-- ---- what a row is read as, even if it isn't a row of an entry or a cell

abbrev natural : ℤ → ℕ
natural (pos n) = n
natural (negsuc n) = 0

abbrev number_at : Row → ℕ → ℕ
number_at row at = natural (id_in (column row at))

abbrev blob_of : Value → Option (List ℕ)
blob_of (Blob b) = Some b
blob_of _ = None

-- The entry that is read from a row.
abbrev pub entry_of : Row → KeptEntry
entry_of row = record {
  seq = number_at row 0;
  kind = number_at row 2;
  office = bytes (column row 3);
  number = number_at row 4;
  moment = id_in (column row 5);
  rules = number_at row 6;
  body = bytes (column row 7);
  answer = bytes (column row 8);
}

-- The cell that is read from a row in form 1.
abbrev pub cell_in_row : Row → KeptCell
cell_in_row row = record {
  kind = number_at row 1;
  name = bytes (column row 2);
  touched = number_at row 3;
  row = blob_of (column row 4);
}

-- The cell that is read from a row in form 2. Its name is both parts joined.
abbrev pub cell2_of : Row → KeptCell
cell2_of row = record {
  kind = number_at row 1;
  name = bytes (column row 2) ++ bytes (column row 3);
  touched = number_at row 4;
  row = blob_of (column row 5);
}

-- How cells are stored in a table: the row of a cell, and the cell that is read from a row.
pub record CellForm : Type 0 where
  pub stored : ℤ → KeptCell → Row
  pub read : Row → KeptCell

-- The cells of form 1, with whole names.
abbrev pub form_1 : CellForm
form_1 = record { stored = stored_cell; read = cell_in_row }

-- The cells of form 2, with names in two parts.
abbrev pub form_2 : CellForm
form_2 = record { stored = stored_cell2; read = cell2_of }

-- ---- which rows are those of entries and cells

-- A number from 1 to 9,223,372,036,854,775,807, the greatest of 64 bits with a sign.
abbrev pub is_entry_number : ℕ → Bool
is_entry_number number = nat_le 1 number && nat_le number 9223372036854775807

-- Each number is within the range of its type.
abbrev pub entry_fits : KeptEntry → Bool
entry_fits e = is_entry_number e.seq &&
    (nat_lt e.kind (2 ^ 8) && (nat_lt e.number (2 ^ 32) && nat_lt e.rules (2 ^ 16)))

-- The numbers of a cell fit their fields.
abbrev pub cell_fits : KeptCell → Bool
cell_fits c = is_entry_number c.touched && nat_lt c.kind (2 ^ 8)

-- The row is that of the entry that is read from it, and the entry fits.
abbrev pub is_entry : Row → Bool
is_entry row = same_row row (stored_entry (entry_of row)) && entry_fits (entry_of row)

-- The row is that of the cell that is read from it, and the cell fits. So in form 2 no first part is longer than an
-- LEI, and nothing follows a shorter one.
abbrev pub is_cell : CellForm → Row → Bool
is_cell form row =
    same_row row (form.stored (id_in (column row 0)) (form.read row)) && cell_fits (form.read row)

-- ---- the form

-- What a row of the table of the form says: the row's id, and the form.
abbrev pub form_row : Row → Row
form_row row = column row 0 ∷ column row 2 ∷ []

-- What the only row of the form's table says in a store of form 2.
abbrev pub second_row : Row
second_row = Int (pos 1) ∷ Int (pos 2) ∷ []
