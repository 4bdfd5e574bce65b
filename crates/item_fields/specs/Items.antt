-- Whether an item that was sent is a record, a relationship or an exception. Each check of its fields is a statement
-- about them. Here is also the row that an item has. This project's profile.
use Rattle.std.specs.Prelude.{ℕ, ◌%◌, List, map, filter, codes, Bool, not, ◌&&◌, ◌==◌, if◌then◌else◌, find, Option, Some, None, option_map, unwrap_or}
use Rattle.std.specs.Option.{option_or}
use Rattle.std.specs.List.{list_any}
use Rattle.std.specs.Map.{lookup}
use Rattle.std.specs.Str.{bytes_eq}
use Rattle.lei_code.specs.Number.{number}
use Rattle.lei_code.specs.Texts.{Text}
use Rattle.lei_shapes.specs.declared.shapes.Shape.{Shape}
use Rattle.lei_shapes.specs.Clock.{moment_text}
use Rattle.lei_shapes.specs.Moment.{read_moment}
use Rattle.lei_shapes.specs.Shape.{is_code}
use Rattle.lei_records.specs.declared.check.Detail.{Detail}
use Rattle.item_fields.specs.declared.fields.Content.{Content}
use Rattle.item_fields.specs.declared.fields.Facts.{Facts}
use Rattle.item_fields.specs.declared.fields.Kind.{Kind}
use Rattle.item_fields.specs.declared.item.RawItem.{RawItem}
use Rattle.lei_records.specs.declared.item.Item.{Item}
use Rattle.lei_records.specs.declared.item.Readied.{Readied}
use Rattle.lei_records.specs.declared.rules.Rules.{Rules}
use Rattle.lei_records.specs.Checks.{FailedCheck}
use Rattle.item_fields.specs.Fields.{Field, fields_of, known_fields, row_fields, codes_in, fits_content, is_needed, may_be_present}
use Rattle.item_fields.specs.Names.{least, names_of_fields}
use Rattle.lei_records.specs.Rows.{Row}
use Rattle.lei_records.specs.Spelled.{is_absent}
pub use Rattle.lei_records.specs.Spelled.{IsRecordRow, IsRelationRow, IsExceptionRow}

-- The text that an item has under a name, or the empty text if it has none.
abbrev pub text_under : List (Text × Text) → Text → Text
text_under pairs name = unwrap_or (lookup (bytes_eq name) pairs) (codes "")

-- The item's registration status is PENDING_ARCHIVAL: it is to be transferred to another issuer.
abbrev pub is_archival : List (Text × Text) → Bool
is_archival pairs = bytes_eq (text_under pairs (codes "Registration.RegistrationStatus")) (codes "PENDING_ARCHIVAL")

-- The item is a withdrawal: its action is WITHDRAW. An absent action is PUT.
abbrev pub says_withdraw : List (Text × Text) → Bool
says_withdraw pairs = bytes_eq (text_under pairs (codes "Action")) (codes "WITHDRAW")

-- What the checks of an item's fields depend on.
abbrev pub facts_of : Rules → List (Text × Text) → Facts
facts_of rules pairs = record { rules = rules; archival = is_archival pairs; withdrawal = says_withdraw pairs }

-- The name is that of a field of this kind of item that the rules have.
abbrev pub is_field : Rules → Kind → Text → Bool
is_field rules kind name = list_any (λ field. bytes_eq field.0 name) (known_fields rules kind)

-- ---- what a check tests in a field and its text, in an item with these facts

-- A needed field is absent.
abbrev pub lacks_field : Facts → Field → Text → Bool
lacks_field facts field text = is_needed facts field.2 && is_absent text

-- A field is present, and has another shape or may not be present.
abbrev pub is_misshapen : Facts → Field → Text → Bool
is_misshapen facts field text = not (is_absent text) && not
    (fits_content facts.rules field.1 text && may_be_present facts field.2)

-- A text with the shape of an LEI, as a number, doesn't leave the remainder 1 when divided by 97 (ISO/IEC 7064, MOD
-- 97-10).
abbrev pub has_other_remainder : Text → Bool
has_other_remainder text = is_code text && not (number text % 97 == 1)

-- A field that may hold an LEI, or several, has one with wrong check digits.
abbrev pub has_wrong_digits : Field → Text → Bool
has_wrong_digits field text = list_any has_other_remainder (codes_in field.1 text)

-- ---- the checks, each with the name that it finds

-- C01: the least name in byte order that isn't that of a field of this kind by these rules.
abbrev pub unknown_name : Rules → Kind → List (Text × Text) → Option Text
unknown_name rules kind pairs = least (filter (λ name. not (is_field rules kind name)) (names_of_fields pairs))

-- The name of the first field by place for which the test of its text is true.
abbrev pub first_field : (Field → Text → Bool) → Kind → List (Text × Text) → Option Text
first_field asks kind pairs = option_map (λ field. field.0)
    (find (λ field. asks field (text_under pairs field.0)) (fields_of kind))

-- C02: the first needed field that is absent.
abbrev pub missing_field : Rules → Kind → List (Text × Text) → Option Text
missing_field rules kind pairs = first_field (lacks_field (facts_of rules pairs)) kind pairs

-- C03: the first field that is present and has another shape, or may not be present.
abbrev pub misshapen_field : Rules → Kind → List (Text × Text) → Option Text
misshapen_field rules kind pairs = first_field (is_misshapen (facts_of rules pairs)) kind pairs

-- C04: the first field with an LEI that has wrong check digits.
abbrev pub miscoded_field : Kind → List (Text × Text) → Option Text
miscoded_field kind pairs = first_field has_wrong_digits kind pairs

-- The check of this number failed, and names this field.
abbrev pub failed_field : ℕ → Text → FailedCheck
failed_field check name = record { number = check; detail = Detail.Field name }

-- The first of the checks of its fields, in order of their numbers, that an item fails by these rules.
unfoldable pub failed_check : Rules → Kind → List (Text × Text) → Option FailedCheck
failed_check rules kind pairs = option_or (option_map (failed_field 1) (unknown_name rules kind pairs))
    (option_or (option_map (failed_field 2) (missing_field rules kind pairs))
    (option_or (option_map (failed_field 3) (misshapen_field rules kind pairs))
    (option_map (failed_field 4) (miscoded_field kind pairs))))

-- ---- what an item is

-- A text of a shape in its form for a row. A moment is in printed form, and any other text is as it was sent.
abbrev pub text_in_row : Shape → Text → Text
text_in_row Shape.Moment text = if is_absent text then text else unwrap_or
    (option_map moment_text (read_moment text)) text
text_in_row other text = text

-- The text of a field in its form for a row.
abbrev pub row_text : Content → Text → Text
row_text (Content.Shaped shape) text = text_in_row shape text
row_text Content.Successors text = text
row_text Content.Action text = text

-- The row of an item: the texts of the fields that are in a row, in order of place.
unfoldable pub row_of : Kind → List (Text × Text) → Row
row_of kind pairs = map (λ field. row_text field.1 (text_under pairs field.0)) (row_fields kind)

-- The row is that of an item of this kind.
abbrev pub IsRowOfKind : Kind → Row → Type 0
IsRowOfKind Kind.Record row = IsRecordRow row
IsRowOfKind Kind.Relation row = IsRelationRow row
IsRowOfKind Kind.Exception row = IsExceptionRow row

-- The item of a kind with this row; for an exception, with whether it is a withdrawal.
abbrev pub item_of : Kind → Bool → Row → Item
item_of Kind.Record withdraws row = Item.Record row
item_of Kind.Relation withdraws row = Item.Relation row
item_of Kind.Exception withdraws row = Item.Exception (row, withdraws)

-- An item that failed this check, or that failed none.
abbrev pub readied_as : Kind → List (Text × Text) → Option FailedCheck → Readied
readied_as kind pairs (Some check) = Readied.Bad check
readied_as kind pairs None = Readied.Good (item_of kind (says_withdraw pairs) (row_of kind pairs))

-- The result for the fields of an item of this kind by these rules: the first check that they fail, or else the item.
abbrev pub ready_as : Rules → Kind → List (Text × Text) → Readied
ready_as rules kind pairs = readied_as kind pairs (failed_check rules kind pairs)

-- The result for an item as it was sent, by these rules: the first check that its fields fail, or else the item.
abbrev pub ready : Rules → RawItem → Readied
ready rules (RawItem.Record pairs) = ready_as rules Kind.Record pairs
ready rules (RawItem.Relation pairs) = ready_as rules Kind.Relation pairs
ready rules (RawItem.Exception pairs) = ready_as rules Kind.Exception pairs
