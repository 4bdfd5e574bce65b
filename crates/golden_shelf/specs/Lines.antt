-- Lines: the texts of rows under their keys, in the order of the keys.
use Rattle.std.specs.Prelude.{◌≡◌, List, [], ◌∷◌, true, not, Option, Some, None, map}
use Rattle.std.specs.FinMap.Entries.{find, is_sorted, put, where_key}
use Rattle.std.specs.Ordering.{eq_by_cmp}
use Rattle.lei_records.specs.Tables.{KeyTexts, key_cmp}
use Rattle.copy_csv.specs.declared.rows.RowTexts.{RowTexts}
use Rattle.copy_csv.specs.Sheets.{SheetRow, key}
use Rattle.copy_forms.specs.Files.{row_renderings}

-- A key with the texts of its row.
abbrev pub KeyedLine : Type 0
KeyedLine = KeyTexts × RowTexts

-- The line of a row.
abbrev pub keyed_line : SheetRow → KeyedLine
keyed_line row = (key row, row_renderings row)

-- A key with the texts that its row gets, or with none if it no longer has a row.
abbrev pub LineChange : Type 0
LineChange = KeyTexts × Option RowTexts

-- The keys of lines rise, so that none occurs twice.
abbrev pub AreSorted : List KeyedLine → Type 0
AreSorted lines = is_sorted key_cmp lines ≡ true

-- Lines after a change. If the change has texts, its line replaces the line of its key or is inserted. Otherwise the
-- line of the key is removed, if there is one.
abbrev pub with_changed_line : List KeyedLine → LineChange → List KeyedLine
with_changed_line lines (k, Some texts) = put key_cmp k texts lines
with_changed_line lines (k, None) = where_key key_cmp (λ other. not (eq_by_cmp key_cmp k other)) lines

-- Lines after changes, applied from the first to the last.
abbrev pub with_lines : List KeyedLine → List LineChange → List KeyedLine
with_lines lines [] = lines
with_lines lines (change ∷ changes) = with_lines (with_changed_line lines change) changes

-- What lines have under the keys of changes. As changes, this restores the lines.
abbrev pub lines_under : List KeyedLine → List LineChange → List LineChange
lines_under lines changes = map (λ change. (change.0, find key_cmp change.0 lines)) changes
