-- Patching a copy by a delta: this project's profile.
use Rattle.std.specs.Prelude.{◌≡◌, Bool, List, true, [], ◌∷◌, map}
use Rattle.std.specs.FinMap.{FinMap, from_entries, insert, remove, values}
use Rattle.lei_code.specs.Texts.{Text}
use Rattle.lei_records.specs.Tables.{key_cmp}
use Rattle.copy_csv.specs.declared.heads.Head.{Head}
use Rattle.copy_csv.specs.declared.rows.Change.{Change}
use Rattle.register_words.specs.declared.sheets.Form.{Form}
use Rattle.register_words.specs.declared.sheets.Sheet.{Sheet}
use Rattle.copy_forms.specs.Files.{IsCopy, IsDelta, copy}
use Rattle.copy_csv.specs.Sheets.{SheetRow, key}

-- Rows under their keys, in the order of the keys.
abbrev pub Keyed : Type 0
Keyed = FinMap key_cmp SheetRow

-- The rows of a list under their keys.
abbrev pub rows_by_key : List SheetRow → Keyed
rows_by_key rows = from_entries (map (λ row. (key row, row)) rows)

-- A change puts its row in the place of the row under its key, or as a new row. Or it removes the row under its key, if
-- there is one.
abbrev pub after_change : Keyed → Change → Keyed
after_change rows (Change.Put row) = insert rows (key row) row
after_change rows (Change.Drop row) = remove rows (key row)

-- The rows after all changes, applied in order.
abbrev pub all_changed : Keyed → List Change → Keyed
all_changed rows [] = rows
all_changed rows (change ∷ changes) = all_changed (after_change rows change) changes

-- The rows of a copy after a delta was applied, in the order of their keys.
abbrev pub patched : List SheetRow → List Change → List SheetRow
patched rows changes = values (all_changed (rows_by_key rows) changes)

-- The head of a copy after a delta was applied: the moment and the number of the delta's publication.
abbrev pub patched_head : Head → Head
patched_head head = record { moment = head.moment; publication = head.publication; from = 0 }

-- The bytes are the copy after the delta was applied: that of the patched rows with the delta's head, in the delta's
-- width. A wide copy has no narrow delta.
pub record IsPatched (base delta bytes : Text) (sheet : Sheet) (form : Form) : Type 0 where
  pub base_head : Head
  pub base_wide : Bool
  pub rows : List SheetRow
  pub base_is : IsCopy base sheet form base_head base_wide rows
  pub head : Head
  pub wide : Bool
  pub changes : List Change
  pub delta_is : IsDelta delta sheet form head wide changes
  pub newer : base_wide ≡ true → wide ≡ true
  pub bytes_are : bytes ≡ copy sheet form wide (patched_head head) (patched rows changes)
