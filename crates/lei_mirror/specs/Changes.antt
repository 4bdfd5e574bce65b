-- Changes whose rows are shared.
use Rattle.std.specs.Prelude.{Bool, false, true}
use Rattle.copy_csv.specs.declared.rows.Change.{Change}
use Rattle.copy_csv.specs.Sheets.{SheetRow}

-- The change that puts a row, or the one that drops the row of its key.
abbrev pub change_with : Bool → SheetRow → Change
change_with true row = Change.Put row
change_with false row = Change.Drop row

-- Whether the change puts its row.
abbrev pub is_put : Change → Bool
is_put (Change.Put row) = true
is_put (Change.Drop row) = false
