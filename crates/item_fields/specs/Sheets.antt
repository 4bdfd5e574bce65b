-- The texts of an item in order of place, as the checks of its fields read them.
use Rattle.std.specs.Prelude.{ℕ, List, map, codes, Bool, false, not, find, Option, Some, None, option_map}
use Rattle.std.specs.Borrow.{Bor}
use Rattle.std.specs.List.{list_any, zip}
use Rattle.std.specs.Option.{option_or}
use Rattle.std.specs.Str.{bytes_eq}
use Rattle.lei_code.specs.Texts.{Text}
use Rattle.item_fields.specs.declared.fields.Facts.{Facts}
use Rattle.item_fields.specs.declared.fields.Kind.{Kind}
use Rattle.lei_records.specs.declared.item.Readied.{Readied}
use Rattle.item_fields.specs.declared.readying.FieldCheck.{FieldCheck}
use Rattle.lei_records.specs.declared.rules.Rules.{Rules}
use Rattle.lei_records.specs.Checks.{FailedCheck}
use Rattle.item_fields.specs.Fields.{Field, fields_of, row_fields}
use Rattle.item_fields.specs.Items.{failed_field, has_wrong_digits, is_field, is_misshapen, item_of, lacks_field, row_text, text_under}
use Rattle.item_fields.specs.Names.{names_of_fields}
use Rattle.lei_records.specs.Places.{action_place, registration_place, status_place}
use Rattle.lei_records.specs.Rows.{Row, text_at}

-- Borrowed texts as a row.
abbrev pub read_texts : List (Bor Text) → Row
read_texts texts = map (λ text. text.now) texts

-- The texts of an item's fields in order of place, as they were sent.
abbrev pub texts_by_place : Kind → List (Text × Text) → Row
texts_by_place kind pairs = map (λ field. text_under pairs field.0) (fields_of kind)

-- A field of this kind has this name, whether or not the rules have the field.
abbrev pub has_field : Kind → Text → Bool
has_field kind name = list_any (λ field. bytes_eq field.0 name) (fields_of kind)

-- The first name that isn't that of a field of this kind by these rules. If the names rise, it is the least such name.
abbrev pub first_unknown : Rules → Kind → List (Text × Text) → Option Text
first_unknown rules kind pairs = find (λ name. not (is_field rules kind name)) (names_of_fields pairs)

-- The status at this place is PENDING_ARCHIVAL.
abbrev pub archival_at : ℕ → Row → Bool
archival_at place texts = bytes_eq (text_at texts place) (codes "PENDING_ARCHIVAL")

-- The action at its place is WITHDRAW.
abbrev pub withdrawal_at : Row → Bool
withdrawal_at texts = bytes_eq (text_at texts action_place) (codes "WITHDRAW")

-- The item's registration status is PENDING_ARCHIVAL, by place.
abbrev pub archives_at : Kind → Row → Bool
archives_at Kind.Record texts = archival_at status_place texts
archives_at Kind.Relation texts = archival_at registration_place texts
archives_at Kind.Exception texts = false

-- The item is a withdrawal, by place.
abbrev pub withdraws_at : Kind → Row → Bool
withdraws_at Kind.Record texts = false
withdraws_at Kind.Relation texts = false
withdraws_at Kind.Exception texts = withdrawal_at texts

-- What the checks of an item's fields depend on, by place.
abbrev pub facts_at : Rules → Kind → Row → Facts
facts_at rules kind texts =
    record { rules = rules; archival = archives_at kind texts; withdrawal = withdraws_at kind texts }

-- A field with this text fails a check of single fields, in an item with these facts.
abbrev pub field_fails : FieldCheck → Facts → Field → Text → Bool
field_fails FieldCheck.Presence facts field text = lacks_field facts field text
field_fails FieldCheck.Shape facts field text = is_misshapen facts field text
field_fails FieldCheck.Digits facts field text = has_wrong_digits field text

-- The name of the first field by place that fails the check with its text in this list.
unfoldable pub first_at : Rules → FieldCheck → Kind → Row → Option Text
first_at rules check kind texts =
    option_map (λ entry. entry.0.0)
    (find (λ entry. field_fails check (facts_at rules kind texts) entry.0 entry.1) (zip (fields_of kind) texts))

-- The first of C02, C03 and C04 that fails.
unfoldable pub failed_at : Rules → Kind → Row → Option FailedCheck
failed_at rules kind texts = option_or (option_map (failed_field 2) (first_at rules FieldCheck.Presence kind texts))
    (option_or (option_map (failed_field 3) (first_at rules FieldCheck.Shape kind texts))
    (option_map (failed_field 4) (first_at rules FieldCheck.Digits kind texts)))

-- The row with these texts, moments in printed form.
unfoldable pub printed_at : Kind → Row → Row
printed_at kind texts = map (λ entry. row_text entry.0.1 entry.1) (zip (row_fields kind) texts)

-- An item with these texts that failed this check, or that failed none.
abbrev pub readied_by : Kind → Row → Option FailedCheck → Readied
readied_by kind texts (Some check) = Readied.Bad check
readied_by kind texts None = Readied.Good (item_of kind (withdraws_at kind texts) (printed_at kind texts))
