-- The names of rows that changes put.
use Rattle.std.specs.Prelude.{List, [], ◌∷◌, flat_map}
use Rattle.copy_csv.specs.declared.rows.Change.{Change}
use Rattle.copy_csv.specs.Sheets.{SheetRow}
use Rattle.copy_forms.specs.Merging.{put_by}
use Rattle.name_search.specs.NameTables.{Name, key_and_name}

-- The name of a row, as a list.
abbrev pub named_alone : SheetRow → List Name
named_alone row = key_and_name row ∷ []

-- The name of the row that a change puts, if it puts one.
abbrev pub put_name : Change → List Name
put_name change = flat_map named_alone (put_by change)

-- The names of the rows that all changes put, in order.
abbrev pub put_names : List Change → List Name
put_names changes = flat_map put_name changes
