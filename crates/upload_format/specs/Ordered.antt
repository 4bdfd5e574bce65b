-- Bodies whose items have their names in byte order, as they are read from the tokens of their text (RFC 8259).
use Rattle.std.specs.Prelude.{◌≡◌, ◌≤◌, List, [], ◌∷◌, ◌++◌, ⊤, true, Option, Some, None, option_map}
use Rattle.std.specs.List.{list_all}
use Rattle.json.specs.Find.{BeginsWith, InItems}
use Rattle.json.specs.Json as json
use Rattle.json.specs.Token.{Token}
use Rattle.json.specs.Tree.{depth, items_depth, members_depth}
use Rattle.serde_json.specs.Data.{Data, Items, Members, array, member, no_members, string}
use Rattle.serde_json.specs.Find.{get_member}
use Rattle.serde_json.specs.Read.{of_items, of_json, of_members}
use Rattle.lei_code.specs.Texts.{Text}
use Rattle.item_fields.specs.Items.{ready}
use Rattle.item_fields.specs.declared.fields.Kind.{Kind}
use Rattle.item_fields.specs.declared.item.RawItem.{RawItem}
use Rattle.lei_records.specs.declared.item.Readied.{Readied}
use Rattle.lei_records.specs.declared.rules.Rules.{Rules}
use Rattle.upload_format.specs.Bodies.{is_list_name, list_name, member_names, raw_item_of}
use Rattle.upload_format.specs.declared.ordered.ItemValue.{ItemValue}
use Rattle.upload_format.specs.declared.ordered.Lists.{Lists}

-- The members of an object that has these names, each with its text.
abbrev pub members_with_texts : List (Text × Text) → Members
members_with_texts [] = no_members
members_with_texts (field ∷ fields) = member field.0 (string field.1) (members_with_texts fields)

-- The value of the members is these fields. No value is nested in another.
pub record AreFields (members : json.Members) (fields : List (Text × Text)) : Type 0 where
  pub value : of_members members no_members ≡ Some (members_with_texts fields)
  pub flat : members_depth members ≤ 0

-- The value is that of this item of a kind. It is an object of texts.
pub record IsItem (kind : Kind) (j : json.Json) (raw : RawItem) : Type 0 where
  pub value : Data
  pub is : of_json j ≡ Some value
  pub read : raw_item_of kind value ≡ Some raw
  pub flat : depth j ≤ 1

-- The value is that of an item, and this is the item after the checks of its fields by these rules.
abbrev pub IsReadAs : Rules → ItemValue → Readied → Type 0
IsReadAs rules value item =
    (j : json.Json) → BeginsWith value.value j → (raw : RawItem) × IsItem value.kind j raw × (item ≡ ready rules raw)

-- ---- the lists of an upload

-- The tokens of the list for items of a kind, if there is one.
abbrev pub list_under : Lists → Kind → Option (List Token)
list_under lists Kind.Record = lists.records
list_under lists Kind.Relation = lists.relationships
list_under lists Kind.Exception = lists.exceptions

-- The list of kind `own` after a list of kind `kind` was read. It is the new one if the kinds are the same, or else the
-- old one.
abbrev pub list_with : {X : Type 0} → Kind → Kind → X → X → X
list_with Kind.Record Kind.Record read old = read
list_with Kind.Relation Kind.Relation read old = read
list_with Kind.Exception Kind.Exception read old = read
list_with own kind read old = old

-- The tokens are those of the list, if there is one.
abbrev pub IsListAt : Option (List Token) → Option json.Items → Type 0
IsListAt None None = ⊤
IsListAt None (Some js) = ⊥
IsListAt (Some tokens) None = ⊥
IsListAt (Some tokens) (Some js) = InItems tokens js

-- The values of the list are these, if there is one. In each of them no value is nested in another.
abbrev pub IsListOf : Option json.Items → Option Items → Type 0
IsListOf None None = ⊤
IsListOf None (Some values) = ⊥
IsListOf (Some js) None = ⊥
IsListOf (Some js) (Some values) = (of_items js ≡ Some values) × (items_depth js ≤ 1)

-- The value of the members is an upload's with these lists.
pub record HasLists (members : json.Members) (lists : Kind → Option Items) : Type 0 where
  pub values : Members
  pub value : of_members members no_members ≡ Some values
  pub known : list_all is_list_name (member_names values) ≡ true
  pub listed : (kind : Kind) → get_member (list_name kind) values ≡ option_map array (lists kind)
  pub flat : members_depth members ≤ 2

-- The lists of an upload's members are at these tokens.
pub record AreLists (members : json.Members) (found : Kind → Option (List Token)) : Type 0 where
  pub lists : Kind → Option json.Items
  pub at : (kind : Kind) → IsListAt (found kind) (lists kind)
  pub has : (values : Kind → Option Items) → ((kind : Kind) → IsListOf (lists kind) (values kind))
      → HasLists members values

-- ---- the values in the lists

-- The values of an array for items of a kind.
abbrev pub AreValues : Kind → json.Items → List ItemValue → Type 0
AreValues kind json.no_items [] = ⊤
AreValues kind json.no_items (value ∷ values) = ⊥
AreValues kind (json.item j js) [] = ⊥
AreValues kind (json.item j js) (value ∷ values) =
    (value.kind ≡ kind) × BeginsWith value.value j × AreValues kind js values

-- The values of a list for items of a kind, and none if there is no list.
abbrev pub AreUnder : Kind → Option (List Token) → List ItemValue → Type 0
AreUnder kind None values = values ≡ []
AreUnder kind (Some tokens) values = (js : json.Items) → InItems tokens js → AreValues kind js values

-- The new values are the old ones, followed by those of the list.
pub record AddsList (kind : Kind) (found : Option (List Token)) (old new : List ItemValue) : Type 0 where
  pub more : List ItemValue
  pub added : new ≡ old ++ more
  pub under : AreUnder kind found more

-- These are the values of the three lists, one list after another.
pub record AreListed (found : Kind → Option (List Token)) (values : List ItemValue) : Type 0 where
  pub records : List ItemValue
  pub relations : List ItemValue
  pub exceptions : List ItemValue
  pub joined : values ≡ (records ++ relations) ++ exceptions
  pub records_are : AreUnder Kind.Record (found Kind.Record) records
  pub relations_are : AreUnder Kind.Relation (found Kind.Relation) relations
  pub exceptions_are : AreUnder Kind.Exception (found Kind.Exception) exceptions
