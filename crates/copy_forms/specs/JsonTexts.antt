-- The texts of JSON, in the pieces from which they are joined.
use Rattle.std.specs.Prelude.{ℕ, List, [], ◌∷◌, ◌++◌, Bool, true, decimal, codes, if◌then◌else◌}
use Rattle.json.specs.Print.{escape, quoted}
use Rattle.json.specs.Token.{Token, key, string}
use Rattle.serde_json.specs.Written.{comma_if}
use Rattle.lei_code.specs.Texts.{Text}
use Rattle.lei_records.specs.Spelled.{is_absent}
use Rattle.lei_shapes.specs.Clock.{moment_text}
use Rattle.copy_csv.specs.declared.heads.Head.{Head}
use Rattle.copy_csv.specs.declared.rows.TextChange.{TextChange}
use Rattle.copy_csv.specs.Csv.{Rendered, rendered_in}
use Rattle.copy_forms.specs.Json.{JsonField, json_record}

-- What precedes the text of a field: a comma if another field precedes it, its name, a colon, and the quote that opens
-- its text.
abbrev pub lead : Bool → Text → Text
lead later name = comma_if later ++ (quoted name ++ 58 ∷ 34 ∷ [])

-- Those of these fields that are present, and the brace that closes their object.
abbrev pub json_fields_text : Bool → List JsonField → Text
json_fields_text later [] = 125 ∷ []
json_fields_text later (field ∷ fields) =
    if is_absent field.1 then json_fields_text later fields
    else lead later field.0 ++ (escape field.1 ++ 34 ∷ json_fields_text true fields)

-- The tokens of a field, or none if it is absent.
abbrev pub field_tokens : JsonField → List Token
field_tokens field = if is_absent field.1 then [] else key field.0 ∷ string field.1 ∷ []

-- These records with their commas, and the bracket that closes their array.
abbrev pub records_text : Bool → List Text → Text
records_text later [] = 93 ∷ []
records_text later (text ∷ texts) = comma_if later ++ (text ++ records_text true texts)

-- The last members of a file, followed by a text: the number of records, and the bracket that opens their array.
abbrev pub before_records : ℕ → Text → Text
before_records count rest =
    44 ∷ (quoted (codes "recordCount") ++ 58 ∷ (decimal count ++ 44 ∷ (quoted (codes "records") ++ 58 ∷ 91 ∷ rest)))

-- The start of a copy, followed by a text.
abbrev pub before_copy : Head → ℕ → Text → Text
before_copy head count rest =
    123
    ∷ (quoted (codes "contentDate") ++ 58 ∷ (quoted (moment_text head.moment) ++ 44
    ∷ (quoted (codes "publication") ++ 58 ∷ (decimal head.publication ++ before_records count rest))))

-- The start of a delta, followed by a text.
abbrev pub before_delta : Head → ℕ → Text → Text
before_delta head count rest =
    123
    ∷ (quoted (codes "contentDate") ++ 58 ∷ (quoted (moment_text head.moment) ++ 44
    ∷ (quoted (codes "fromPublication") ++ 58 ∷ (decimal head.from ++ 44
    ∷ (quoted (codes "publication") ++ 58 ∷ (decimal head.publication ++ before_records count rest))))))

-- The start of a change with this action, up to its record, followed by a text.
abbrev pub before_record : Text → Text → Text
before_record action rest =
    123 ∷ (quoted (codes "action") ++ 58 ∷ (quoted action ++ 44 ∷ (quoted (codes "record") ++ 58 ∷ rest)))

-- The text of a change that has the texts of its row.
abbrev pub rendered_record : Rendered → Text
rendered_record (Rendered.put texts) = before_record (codes "PUT") (texts.json ++ 125 ∷ [])
rendered_record (Rendered.drop row) = before_record (codes "DROP") (json_record row ++ 125 ∷ [])

-- The text of a change that refers to the texts of its row.
abbrev pub text_change_record : TextChange → Text
text_change_record change = rendered_record (rendered_in change)
