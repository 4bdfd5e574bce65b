-- The text of a golden copy and of a delta in JSON: the compact text of a value (RFC 8259). It is written with no
-- space, with the shortest escapes and with no byte after it. What the value has is this project's profile.
use Rattle.std.specs.Prelude.{ℕ, List, [], ◌∷◌, map, length, codes, if◌then◌else◌}
use Rattle.serde_json.specs.Data.{Data, string, number, unsigned, array, object, Items, no_items, item, Members, no_members, member}
use Rattle.serde_json.specs.Written.{compact_text}
use Rattle.lei_code.specs.Texts.{Text}
use Rattle.lei_records.specs.Rows.{text_at}
use Rattle.lei_records.specs.Spelled.{is_absent}
use Rattle.lei_shapes.specs.Clock.{moment_text}
use Rattle.register_words.specs.declared.sheets.Sheet.{Sheet}
use Rattle.copy_csv.specs.declared.heads.Head.{Head}
use Rattle.copy_csv.specs.declared.rows.Change.{Change}
use Rattle.copy_csv.specs.Rows.{changed_row}
use Rattle.copy_csv.specs.Sheets.{SheetRow, column_names}

-- ---- a record

-- The places of a sheet's fields in byte order of their names: `Entity.EntityCategory` comes first and is the 17th
-- field of a record.
abbrev pub json_places : Sheet → List ℕ
json_places Sheet.Lei =
    17 ∷ 20 ∷ 19 ∷ 30 ∷ 31 ∷ 32 ∷ 29 ∷ 10 ∷ 12 ∷ 9 ∷ 13 ∷ 11 ∷ 5 ∷ 7 ∷ 4 ∷ 8 ∷ 6 ∷ 18 ∷ 16 ∷ 2 ∷ 3 ∷ 15 ∷ 14
    ∷ 21 ∷ 1 ∷ 28 ∷ 22 ∷ 23 ∷ 26 ∷ 25 ∷ 24 ∷ 27 ∷ []
json_places Sheet.Rr = 7 ∷ 8 ∷ 10 ∷ 9 ∷ 11 ∷ 6 ∷ 3 ∷ 4 ∷ 2 ∷ 5 ∷ 1 ∷ []
json_places Sheet.Repex = 2 ∷ 3 ∷ 4 ∷ 1 ∷ []

-- The names of a sheet's fields in this order.
abbrev pub json_names : Sheet → List Text
json_names sheet = map (text_at (column_names sheet)) (json_places sheet)

-- A field: its name and its text.
abbrev pub JsonField : Type 0
JsonField = Text × Text

-- The field of a row at a place.
abbrev pub field_at : SheetRow → ℕ → JsonField
field_at row place = (text_at (column_names row.sheet) place, text_at row.texts place)

-- The fields of a row in byte order of their names.
abbrev pub json_fields : SheetRow → List JsonField
json_fields row = map (field_at row) (json_places row.sheet)

-- The members of an object: those of these fields that are present, each with its name and its text.
abbrev pub members_of : List JsonField → Members
members_of [] = no_members
members_of (field ∷ fields) =
    if is_absent field.1 then members_of fields else member field.0 (string field.1) (members_of fields)

-- A row as a JSON object of the fields that are present.
abbrev pub record_value : SheetRow → Data
record_value row = object (members_of (json_fields row))

-- The text of this object.
unfoldable pub json_record : SheetRow → Text
json_record row = compact_text (record_value row)

-- ---- a copy

-- An array of these values.
abbrev pub array_items : List Data → Items
array_items [] = no_items
array_items (value ∷ values) = item value (array_items values)

-- The last members of a copy and of a delta: the number of the records, and the records.
abbrev pub records_members : List Data → Members
records_members values =
    member (codes "recordCount") (number (unsigned (length values)))
    (member (codes "records") (array (array_items values)) no_members)

-- A copy: the moment and the number of its publication, and its rows in order.
abbrev pub copy_value : Head → List SheetRow → Data
copy_value head rows =
    object
    (member (codes "contentDate") (string (moment_text head.moment))
    (member (codes "publication") (number (unsigned head.publication)) (records_members (map record_value rows))))

-- The text of a copy.
unfoldable pub json_copy : Head → List SheetRow → Text
json_copy head rows = compact_text (copy_value head rows)

-- ---- a delta

-- The action of a change: its row is put, or the row of its key is dropped.
abbrev pub action_of : Change → Text
action_of (Change.Put row) = codes "PUT"
action_of (Change.Drop row) = codes "DROP"

-- A change: its action, and its row. The row of a dropped key has only the key.
abbrev pub change_value : Change → Data
change_value change =
    object
    (member (codes "action") (string (action_of change))
    (member (codes "record") (record_value (changed_row change)) no_members))

-- A delta: the moment and the number of its publication, the number of the publication that it starts from, and its
-- changes in order.
abbrev pub delta_value : Head → List Change → Data
delta_value head changes =
    object
    (member (codes "contentDate") (string (moment_text head.moment))
    (member (codes "fromPublication") (number (unsigned head.from))
    (member (codes "publication") (number (unsigned head.publication)) (records_members (map change_value changes)))))

-- The text of a delta.
unfoldable pub json_delta : Head → List Change → Text
json_delta head changes = compact_text (delta_value head changes)
