-- What a store tells of its tables.
use Rattle.std.specs.Prelude.{◌&&◌, Bool, true, false, not, if◌then◌else◌, List, [], ◌∷◌, map, Option, None, Some, option_and_then}
use Rattle.std.specs.FinMap.{from_entries}
use Rattle.std.specs.List.{list_all}
use Rattle.std.specs.Ordering.{is_lt}
use Rattle.sqlite_value.specs.Order.{Row, value_cmp}
use Rattle.sqlite_trees.specs.Tree.{Trees, rowid}
use Rattle.sqlite_schema.specs.declared.schema.Schema.{Schema}
use Rattle.sqlite.specs.State.{State}
use Rattle.lei_values.specs.KeptTables.{CellContent, CellPlace, KeptTables, cell_content, cell_place}
use Rattle.store_statements.specs.Schemas.{both_schema, entry_schema, no_schema, store_schema, whole_schema}
use Rattle.store_tables.specs.Same.{same_row, same_schema}
use Rattle.store_tables.specs.Stored.{CellForm, entry_of, form_1, form_2, form_row, is_cell, is_entry, second_row}

-- The rows of the four tables: the entries, the cells of form 1, the form, and the cells of form 2.
pub record StoredRows : Type 0 where
  pub entries : List Row
  pub cells : List Row
  pub forms : List Row
  pub cells2 : List Row

-- The rows under the schema. A table that isn't made has none. Under any schema other than the five, the rows aren't
-- defined.
abbrev pub stored_rows_in : Schema → Trees → Option StoredRows
stored_rows_in schema trees =
    if same_schema schema whole_schema
    then Some (record { entries = trees 0; cells = trees 1; forms = trees 4; cells2 = trees 5 })
    else (if same_schema schema store_schema
    then Some (record { entries = trees 0; cells = trees 1; forms = trees 4; cells2 = [] })
    else (if same_schema schema both_schema
    then Some (record { entries = trees 0; cells = trees 1; forms = []; cells2 = [] })
    else (if same_schema schema entry_schema
    then Some (record { entries = trees 0; cells = []; forms = []; cells2 = [] })
    else (if same_schema schema no_schema
    then Some (record { entries = []; cells = []; forms = []; cells2 = [] }) else None))))

-- The ids of the rows rise.
abbrev pub rise : List Row → Bool
rise [] = true
rise (row ∷ rows) = list_all (λ later. is_lt (value_cmp (rowid row) (rowid later))) rows && rise rows

-- All rows are those of entries and of cells in a form, in the order of their ids.
abbrev pub are_told : CellForm → List Row → List Row → Bool
are_told form entries cells = (rise entries && list_all is_entry entries) &&
    (rise cells && list_all (is_cell form) cells)

-- What is kept in a place.
abbrev pub place_and_content : CellForm → Row → CellPlace × CellContent
place_and_content form row = (cell_place (form.read row), cell_content (form.read row))

-- The entries and the cells that the rows have.
abbrev pub tables_in_rows : CellForm → List Row → List Row → KeptTables
tables_in_rows form entries cells =
    record { entries = map entry_of entries; cells = from_entries (map (place_and_content form) cells) }

-- The tables that rows tell by a form, which are field by field what the rows have. There are none if some row doesn't
-- have an entry or a cell.
abbrev pub told_as : CellForm → List Row → List Row → Option KeptTables
told_as form entries cells = if are_told form entries cells then Some (tables_in_rows form entries cells) else None

-- There is no row.
abbrev pub is_none : List Row → Bool
is_none [] = true
is_none (row ∷ rows) = false

-- The table of the form has one row, which says form 2.
abbrev pub says_second : List Row → Bool
says_second (row ∷ []) = same_row (form_row row) second_row
says_second _ = false

-- A store of form 1: neither the form nor a cell of form 2 has been written.
abbrev pub is_first : StoredRows → Bool
is_first rows = is_none rows.forms && is_none rows.cells2

-- A store of form 2: its form is written, and no cell of form 1 is left.
abbrev pub is_second : StoredRows → Bool
is_second rows = says_second rows.forms && is_none rows.cells

-- The tables that the rows tell, by the form of the store. A store of neither form tells nothing.
abbrev pub told_in_rows : StoredRows → Option KeptTables
told_in_rows rows =
    if is_first rows then told_as form_1 rows.entries rows.cells
    else (if is_second rows then told_as form_2 rows.entries rows.cells2 else None)

-- What trees under a schema tell.
abbrev pub told_in_trees : Schema → Trees → Option KeptTables
told_in_trees schema trees = option_and_then told_in_rows (stored_rows_in schema trees)

-- A connection tells its tables between transactions, while it is open and its disk is clean.
abbrev pub is_settled : State → Bool
is_settled s = s.is_clean && (s.is_open && not s.in_transaction)

-- The tables that a connection tells.
abbrev pub told_in : State → Option KeptTables
told_in s = if is_settled s then told_in_trees s.now.schema s.now.trees else None
