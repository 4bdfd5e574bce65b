-- The fields of the three kinds of items in order of place: the name of each, what it holds, and when it is needed. Most
-- names are those of the columns of a golden copy (level 1, level 2 and reporting exceptions). The others are
-- Register.TransferTo, those of an event, and Action. What the fields hold and when they are needed is this project's
-- profile.
use Rattle.std.specs.Prelude.{ℕ, ◌-◌, List, [], ◌∷◌, map, take, slice_index_or, Bool, true, false, not, ◌||◌, codes}
use Rattle.std.specs.Borrow.{Bor}
use Rattle.std.specs.Str.{bytes_eq}
use Rattle.lei_code.specs.Texts.{Text}
use Rattle.lei_shapes.specs.declared.shapes.Shape.{Shape}
use Rattle.lei_shapes.specs.Shape.{between_spaces, fits_shape}
use Rattle.item_fields.specs.declared.fields.Kind.{Kind}
use Rattle.item_fields.specs.declared.fields.Content.{Content}
use Rattle.item_fields.specs.declared.fields.Need.{Need}
use Rattle.item_fields.specs.declared.fields.Facts.{Facts}
use Rattle.lei_records.specs.declared.rules.Rules.{Rules}
use Rattle.lei_records.specs.Places.{action_place, authority_id_place, authority_place, category_place, created_place, end_place, ended_place, entity_status_place, event_effective_place, event_recorded_place, event_status_place, event_type_place, exception_category_place, exception_places, initial_place, lei_place, manager_place, places_before_event, reason_place, receiver_place, record_places, registration_place, relation_initial_place, relation_manager_place, relation_places, relation_status_place, relation_updated_place, renewal_place, start_place, started_place, status_place, subject_place, successor_place, type_place, updated_place}

-- A field: its name, what it holds, and when it is needed.
abbrev pub Field : Type 0
Field = Text × Content × Need

-- The same for a field whose name is borrowed.
abbrev pub read_field : Bor Text × Content × Need → Field
read_field field = (field.0.now, field.1, field.2)

-- The 32 fields of a record in order of place.
unfoldable pub fields : List Field
fields =
    (codes "LEI", Content.Shaped Shape.Code, Need.Always)
    ∷ (codes "Entity.LegalName", Content.Shaped Shape.Free, Need.Always)
    ∷ (codes "Entity.LegalName.xmllang", Content.Shaped Shape.Lang, Need.Optional)
    ∷ (codes "Entity.LegalAddress.FirstAddressLine", Content.Shaped Shape.Free, Need.Always)
    ∷ (codes "Entity.LegalAddress.City", Content.Shaped Shape.Free, Need.Always)
    ∷ (codes "Entity.LegalAddress.Region", Content.Shaped Shape.Free, Need.Optional)
    ∷ (codes "Entity.LegalAddress.Country", Content.Shaped Shape.Country, Need.Always)
    ∷ (codes "Entity.LegalAddress.PostalCode", Content.Shaped Shape.Free, Need.Optional)
    ∷ (codes "Entity.HeadquartersAddress.FirstAddressLine", Content.Shaped Shape.Free, Need.Always)
    ∷ (codes "Entity.HeadquartersAddress.City", Content.Shaped Shape.Free, Need.Always)
    ∷ (codes "Entity.HeadquartersAddress.Region", Content.Shaped Shape.Free, Need.Optional)
    ∷ (codes "Entity.HeadquartersAddress.Country", Content.Shaped Shape.Country, Need.Always)
    ∷ (codes "Entity.HeadquartersAddress.PostalCode", Content.Shaped Shape.Free, Need.Optional)
    ∷ (codes "Entity.RegistrationAuthority.RegistrationAuthorityID", Content.Shaped Shape.Authority, Need.Always)
    ∷ (codes "Entity.RegistrationAuthority.RegistrationAuthorityEntityID", Content.Shaped Shape.Free, Need.Optional)
    ∷ (codes "Entity.LegalJurisdiction", Content.Shaped Shape.Jurisdiction, Need.Always)
    ∷ (codes "Entity.EntityCategory", Content.Shaped Shape.Category, Need.Always)
    ∷ (codes "Entity.LegalForm.EntityLegalFormCode", Content.Shaped Shape.Form, Need.Always)
    ∷ (codes "Entity.EntityStatus", Content.Shaped Shape.EntityStatus, Need.Always)
    ∷ (codes "Entity.EntityCreationDate", Content.Shaped Shape.Moment, Need.Optional)
    ∷ (codes "Entity.SuccessorEntity.1.SuccessorLEI", Content.Successors, Need.Optional)
    ∷ (codes "Registration.InitialRegistrationDate", Content.Shaped Shape.Moment, Need.Always)
    ∷ (codes "Registration.LastUpdateDate", Content.Shaped Shape.Moment, Need.Always)
    ∷ (codes "Registration.RegistrationStatus", Content.Shaped Shape.RecordStatus, Need.Always)
    ∷ (codes "Registration.NextRenewalDate", Content.Shaped Shape.Moment, Need.Always)
    ∷ (codes "Registration.ManagingLOU", Content.Shaped Shape.Code, Need.Always)
    ∷ (codes "Registration.ValidationSources", Content.Shaped Shape.Validation, Need.Always)
    ∷ (codes "Register.TransferTo", Content.Shaped Shape.Code, Need.WherePendingArchival)
    ∷ (codes "Entity.Event.1.Type", Content.Shaped Shape.EventType, Need.Optional)
    ∷ (codes "Entity.Event.1.EffectiveDate", Content.Shaped Shape.Moment, Need.Optional)
    ∷ (codes "Entity.Event.1.RecordedDate", Content.Shaped Shape.Moment, Need.Optional)
    ∷ (codes "Entity.Event.1.Status", Content.Shaped Shape.EventStatus, Need.Optional)
    ∷ []

-- The 11 fields of a relationship in order of place.
unfoldable pub relation_fields : List Field
relation_fields =
    (codes "Relationship.StartNode", Content.Shaped Shape.Code, Need.Always)
    ∷ (codes "Relationship.RelationshipType", Content.Shaped Shape.RelationType, Need.Always)
    ∷ (codes "Relationship.EndNode", Content.Shaped Shape.Code, Need.Always)
    ∷ (codes "Relationship.RelationshipStatus", Content.Shaped Shape.RelationStatus, Need.Always)
    ∷ (codes "Relationship.StartDate", Content.Shaped Shape.Moment, Need.Always)
    ∷ (codes "Relationship.EndDate", Content.Shaped Shape.Moment, Need.Optional)
    ∷ (codes "Registration.InitialRegistrationDate", Content.Shaped Shape.Moment, Need.Always)
    ∷ (codes "Registration.LastUpdateDate", Content.Shaped Shape.Moment, Need.Always)
    ∷ (codes "Registration.RegistrationStatus", Content.Shaped Shape.RelationRegistration, Need.Always)
    ∷ (codes "Registration.ManagingLOU", Content.Shaped Shape.Code, Need.Always)
    ∷ (codes "Registration.ValidationSources", Content.Shaped Shape.Validation, Need.Always)
    ∷ []

-- The five fields of an exception: the four of its row in order of place, and Action after them.
unfoldable pub exception_fields : List Field
exception_fields =
    (codes "LEI", Content.Shaped Shape.Code, Need.Always)
    ∷ (codes "ExceptionCategory", Content.Shaped Shape.ExceptionCategory, Need.Always)
    ∷ (codes "ExceptionReason", Content.Shaped Shape.Reason, Need.UnlessWithdrawn)
    ∷ (codes "ExceptionReference", Content.Shaped Shape.Free, Need.Optional)
    ∷ (codes "Action", Content.Action, Need.Optional)
    ∷ []

-- The fields of a kind of item in order of place.
abbrev pub fields_of : Kind → List Field
fields_of Kind.Record = fields
fields_of Kind.Relation = relation_fields
fields_of Kind.Exception = exception_fields

-- The number of fields of a kind of item.
abbrev pub field_count : Kind → ℕ
field_count Kind.Record = record_places
field_count Kind.Relation = relation_places
field_count Kind.Exception = action_place

-- How many of a record's fields, counted from the first, the rules have: those of an event come with the third rules.
abbrev pub record_fields_known : Rules → ℕ
record_fields_known Rules.First = places_before_event
record_fields_known Rules.Second = places_before_event
record_fields_known Rules.Third = record_places

-- How many fields of a kind of item, counted from the first, the rules have.
abbrev pub known_count : Rules → Kind → ℕ
known_count rules Kind.Record = record_fields_known rules
known_count rules Kind.Relation = relation_places
known_count rules Kind.Exception = action_place

-- The fields that the rules have.
abbrev pub known_fields : Rules → Kind → List Field
known_fields rules kind = take (known_count rules kind) (fields_of kind)

-- How many fields, counted from the first, are in a row: all but Action.
abbrev pub row_len : Kind → ℕ
row_len Kind.Record = record_places
row_len Kind.Relation = relation_places
row_len Kind.Exception = exception_places

-- The fields that are in a row.
abbrev pub row_fields : Kind → List Field
row_fields kind = take (row_len kind) (fields_of kind)

-- The names of a record's fields in order of place.
abbrev pub field_names : List Text
field_names = map (λ field. field.0) fields

-- The names of the fields of a kind of item in order of place.
abbrev pub names_of : Kind → List Text
names_of kind = map (λ field. field.0) (fields_of kind)

-- The places that the rules use, each with the name of the field there.
abbrev pub named_places : Kind → List (ℕ × Text)
named_places Kind.Record =
    (lei_place, codes "LEI")
    ∷ (authority_place, codes "Entity.RegistrationAuthority.RegistrationAuthorityID")
    ∷ (authority_id_place, codes "Entity.RegistrationAuthority.RegistrationAuthorityEntityID")
    ∷ (category_place, codes "Entity.EntityCategory")
    ∷ (entity_status_place, codes "Entity.EntityStatus")
    ∷ (created_place, codes "Entity.EntityCreationDate")
    ∷ (successor_place, codes "Entity.SuccessorEntity.1.SuccessorLEI")
    ∷ (initial_place, codes "Registration.InitialRegistrationDate")
    ∷ (updated_place, codes "Registration.LastUpdateDate")
    ∷ (status_place, codes "Registration.RegistrationStatus")
    ∷ (renewal_place, codes "Registration.NextRenewalDate")
    ∷ (manager_place, codes "Registration.ManagingLOU")
    ∷ (receiver_place, codes "Register.TransferTo")
    ∷ (event_type_place, codes "Entity.Event.1.Type")
    ∷ (event_effective_place, codes "Entity.Event.1.EffectiveDate")
    ∷ (event_recorded_place, codes "Entity.Event.1.RecordedDate")
    ∷ (event_status_place, codes "Entity.Event.1.Status") ∷ []
named_places Kind.Relation =
    (start_place, codes "Relationship.StartNode")
    ∷ (type_place, codes "Relationship.RelationshipType")
    ∷ (end_place, codes "Relationship.EndNode")
    ∷ (relation_status_place, codes "Relationship.RelationshipStatus")
    ∷ (started_place, codes "Relationship.StartDate")
    ∷ (ended_place, codes "Relationship.EndDate")
    ∷ (relation_initial_place, codes "Registration.InitialRegistrationDate")
    ∷ (relation_updated_place, codes "Registration.LastUpdateDate")
    ∷ (registration_place, codes "Registration.RegistrationStatus")
    ∷ (relation_manager_place, codes "Registration.ManagingLOU") ∷ []
named_places Kind.Exception =
    (subject_place, codes "LEI")
    ∷ (exception_category_place, codes "ExceptionCategory")
    ∷ (reason_place, codes "ExceptionReason")
    ∷ (action_place, codes "Action") ∷ []

-- The field at this place has this name.
abbrev pub field_has_name : Kind → ℕ × Text → Bool
field_has_name kind named = bytes_eq (slice_index_or (names_of kind) (named.0 - 1) (codes "")) named.1

-- ---- what a field holds

-- What can be done with an exception: it is put, or it is withdrawn.
abbrev pub is_action : Text → Bool
is_action text = bytes_eq text (codes "PUT") || bytes_eq text (codes "WITHDRAW")

-- The shape of the text that names successors: one LEI by the first rules, and up to five by the later ones.
abbrev pub successors_shape : Rules → Shape
successors_shape Rules.First = Shape.Code
successors_shape Rules.Second = Shape.Codes
successors_shape Rules.Third = Shape.Codes

-- The text is one that the field may hold by these rules.
abbrev pub fits_content : Rules → Content → Text → Bool
fits_content rules (Content.Shaped shape) text = fits_shape shape text
fits_content rules Content.Successors text = fits_shape (successors_shape rules) text
fits_content rules Content.Action text = is_action text

-- The LEIs that a text of this shape has, whatever their check digits.
abbrev pub codes_of_shape : Shape → Text → List Text
codes_of_shape Shape.Code text = text ∷ []
codes_of_shape other text = []

-- The LEIs that the text of a field has, whatever their check digits.
abbrev pub codes_in : Content → Text → List Text
codes_in (Content.Shaped shape) text = codes_of_shape shape text
codes_in Content.Successors text = between_spaces text
codes_in Content.Action text = []

-- ---- when a field is needed

-- An item with these facts needs a field with this need.
abbrev pub is_needed : Facts → Need → Bool
is_needed facts Need.Always = true
is_needed facts Need.Optional = false
is_needed facts Need.WherePendingArchival = facts.archival
is_needed facts Need.UnlessWithdrawn = not facts.withdrawal

-- An item with these facts may have a field with this need.
abbrev pub may_be_present : Facts → Need → Bool
may_be_present facts Need.Always = true
may_be_present facts Need.Optional = true
may_be_present facts Need.WherePendingArchival = facts.archival
may_be_present facts Need.UnlessWithdrawn = true
