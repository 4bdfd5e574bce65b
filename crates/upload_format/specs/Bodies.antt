-- What an upload's body says, defined over the JSON value of its bytes (RFC 8259).
use Rattle.std.specs.Prelude.{◌≡◌, ℕ, List, [], ◌∷◌, ◌++◌, length, map, codes, Bool, ◌||◌, ◌==◌, nat_lt, if◌then◌else◌, Option, Some, None, option_map, option_and_then, Result, Ok, Err}
use Rattle.std.specs.List.{list_all}
use Rattle.std.specs.Str.{is_utf8, bytes_eq}
use Rattle.serde_json.specs.Data.{Data, Items, no_items, item, Members, no_members, member}
use Rattle.serde_json.specs.Find.{get_member, as_str, as_array, as_object}
use Rattle.serde_json.specs.Read.{read}
use Rattle.lei_code.specs.Texts.{Body, Text}
use Rattle.register_words.specs.declared.malformed.Malformed.{Malformed}
use Rattle.register_words.specs.declared.malformed.Malformed.TheVariants.{NotJson, NotAnUpload, NoItems, TooManyItems}
use Rattle.upload_format.specs.declared.fault.UploadFault.{UploadFault}
use Rattle.upload_format.specs.declared.fault.UploadFault.TheVariants as faults
use Rattle.item_fields.specs.declared.fields.Kind.{Kind}
use Rattle.item_fields.specs.declared.item.RawItem.{RawItem}
use Rattle.lei_records.specs.declared.item.Readied.{Readied}
use Rattle.lei_records.specs.declared.rules.Rules.{Rules}
use Rattle.item_fields.specs.Items.{ready}

-- The value of the bytes, if they are UTF-8 and JSON. If an object repeats a name, the last value counts.
unfoldable pub value_of : Body → Option Data
value_of body = if is_utf8 body then read body else None

-- The members of an object as pairs of a name and a text. There is no reading if a value isn't a text.
abbrev pub text_members : Members → Option (List (Text × Text))
text_members no_members = Some []
text_members (member name value others) =
    option_and_then (λ text. option_map (λ fields. (name, text) ∷ fields) (text_members others)) (as_str value)

-- the item of a kind that has these fields
abbrev pub raw_item : Kind → List (Text × Text) → RawItem
raw_item Kind.Record fields = RawItem.Record fields
raw_item Kind.Relation fields = RawItem.Relation fields
raw_item Kind.Exception fields = RawItem.Exception fields

-- an item as it was sent: an object whose values are texts
abbrev pub raw_item_of : Kind → Data → Option RawItem
raw_item_of kind value = option_map (raw_item kind) (option_and_then text_members (as_object value))

-- the items of a kind that an array lists. There is no reading if one of its values isn't an item
abbrev pub list_of : Kind → Items → Option (List RawItem)
list_of kind no_items = Some []
list_of kind (item value others) =
    option_and_then (λ first. option_map (λ more. first ∷ more) (list_of kind others)) (raw_item_of kind value)

-- the items of a kind that the value of a member lists. An absent member has no items.
abbrev pub items_under : Kind → Option Data → Option (List RawItem)
items_under kind None = Some []
items_under kind (Some value) = option_and_then (list_of kind) (as_array value)

-- the names of an object's members
abbrev pub member_names : Members → List Text
member_names no_members = []
member_names (member name value others) = name ∷ member_names others

-- the name of the member that lists the items of a kind
abbrev pub list_name : Kind → Text
list_name Kind.Record = codes "records"
list_name Kind.Relation = codes "relationships"
list_name Kind.Exception = codes "exceptions"

-- the names that the members of an upload may have
abbrev pub is_list_name : Text → Bool
is_list_name name =
    bytes_eq name (list_name Kind.Record) || bytes_eq name (list_name Kind.Relation)
    || bytes_eq name (list_name Kind.Exception)

-- one list followed by another. There is none if either has no reading.
abbrev pub append_read : {X : Type 0} → Option (List X) → Option (List X) → Option (List X)
append_read None list = None
append_read (Some front) None = None
append_read (Some front) (Some list) = Some (front ++ list)

-- the items of three members: records, then relationships, then exceptions
abbrev pub items_of_lists : Option Data → Option Data → Option Data → Option (List RawItem)
items_of_lists records relationships exceptions =
    append_read (append_read (append_read (Some []) (items_under Kind.Record records)) (items_under Kind.Relation relationships))
    (items_under Kind.Exception exceptions)

-- the items in the lists of an object's members
abbrev pub items_of_members : Members → Option (List RawItem)
items_of_members members =
    items_of_lists (get_member (list_name Kind.Record) members) (get_member (list_name Kind.Relation) members)
    (get_member (list_name Kind.Exception) members)

-- The items that a value lists. The value is an object that has only these members. There is no reading if it isn't an
-- upload.
abbrev pub upload_items : Data → Option (List RawItem)
upload_items value =
    option_and_then (λ members. if list_all is_list_name (member_names members) then items_of_members
    members else None)
    (as_object value)

-- an upload has at most 5,000 items
abbrev pub item_limit : ℕ
item_limit = 5_000

-- the items, if there is at least 1 and at most as many as an upload may have, or else the fault
abbrev pub if_countable : {X : Type 0} → List X → Result (List X) Malformed
if_countable items =
    if length items == 0 then Err NoItems else
    (if nat_lt item_limit (length items) then Err TooManyItems else Ok items)

-- the items if they are an upload's, or else the fault
abbrev pub of_items : Option (List RawItem) → Result (List RawItem) Malformed
of_items None = Err NotAnUpload
of_items (Some items) = if_countable items

-- the items that a value lists, or the fault; if there is no value, the body isn't JSON
abbrev pub of_value : Option Data → Result (List RawItem) Malformed
of_value None = Err NotJson
of_value (Some value) = of_items (upload_items value)

-- The items of a body, or the first of the four faults that it has.
unfoldable pub upload : Body → Result (List RawItem) Malformed
upload body = of_value (value_of body)

-- the items after the checks of their fields by these rules, or the fault
abbrev pub ready_each : Rules → Result (List RawItem) Malformed → Result (List Readied) Malformed
ready_each rules (Ok items) = Ok (map (ready rules) items)
ready_each rules (Err fault) = Err fault

-- The items of a body after the checks of their fields by these rules, or the first of the four faults that the body
-- has.
abbrev pub ready_upload : Rules → Body → Result (List Readied) Malformed
ready_upload rules body = ready_each rules (upload body)

-- ---- what a reader returns: exactly the items or the fault, unless memory ran out

-- a reader's fault is the one in `read`; `NoMemory` may be returned in its place, and in place of items
abbrev pub BodyFails : {Y : Type 0} → UploadFault → Result Y Malformed → Type 0
BodyFails faults.NoMemory read = Unit {0}
BodyFails (faults.Malformed fault) read = read ≡ Err fault

-- a reader returns the value in `read`, as contracts see it, or its fault
abbrev pub BodyGives : {X Y : Type 0} → (X → Y) → Result X UploadFault → Result Y Malformed → Type 0
BodyGives view (Ok x) read = read ≡ Ok (view x)
BodyGives view (Err fault) read = BodyFails fault read

-- the JSON value, or else the fault that the body isn't JSON
abbrev pub or_no_json : {Y : Type 0} → Option Y → Result Y Malformed
or_no_json None = Err NotJson
or_no_json (Some y) = Ok y

-- a part of an upload, or else the fault that the body isn't an upload
abbrev pub or_no_upload : {Y : Type 0} → Option Y → Result Y Malformed
or_no_upload None = Err NotAnUpload
or_no_upload (Some y) = Ok y

-- the items of a value before they are counted; if there is no value, the body isn't JSON
abbrev pub items_in_value : Option Data → Result (List RawItem) Malformed
items_in_value None = Err NotJson
items_in_value (Some value) = or_no_upload (upload_items value)
