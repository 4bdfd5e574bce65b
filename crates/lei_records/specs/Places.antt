-- Places: where the fields that the rules use are in a row, counted from 1, and how many fields a row has. In the
-- tables of the fields (`Fields.antt` of `item_fields`) each field is at its place. This project's profile.
use Rattle.std.specs.Prelude.{ℕ}

-- ---- of a record

-- The row of a record has 32 fields.
abbrev pub record_places : ℕ
record_places = 32

-- How many of them come before those of an event, which are the last.
abbrev pub places_before_event : ℕ
places_before_event = 28

-- The place of the field LEI.
abbrev pub lei_place : ℕ
lei_place = 1

-- The place of the field Entity.RegistrationAuthority.RegistrationAuthorityID.
abbrev pub authority_place : ℕ
authority_place = 14

-- The place of the field Entity.RegistrationAuthority.RegistrationAuthorityEntityID.
abbrev pub authority_id_place : ℕ
authority_id_place = 15

-- The place of the field Entity.EntityCategory.
abbrev pub category_place : ℕ
category_place = 17

-- The place of the field Entity.EntityStatus.
abbrev pub entity_status_place : ℕ
entity_status_place = 19

-- The place of the field Entity.EntityCreationDate.
abbrev pub created_place : ℕ
created_place = 20

-- The place of the field Entity.SuccessorEntity.1.SuccessorLEI.
abbrev pub successor_place : ℕ
successor_place = 21

-- The place of the field Registration.InitialRegistrationDate.
abbrev pub initial_place : ℕ
initial_place = 22

-- The place of the field Registration.LastUpdateDate.
abbrev pub updated_place : ℕ
updated_place = 23

-- The place of the field Registration.RegistrationStatus.
abbrev pub status_place : ℕ
status_place = 24

-- The place of the field Registration.NextRenewalDate.
abbrev pub renewal_place : ℕ
renewal_place = 25

-- The place of the field Registration.ManagingLOU.
abbrev pub manager_place : ℕ
manager_place = 26

-- The place of the field Register.TransferTo.
abbrev pub receiver_place : ℕ
receiver_place = 28

-- The place of the field Entity.Event.1.Type.
abbrev pub event_type_place : ℕ
event_type_place = 29

-- The place of the field Entity.Event.1.EffectiveDate.
abbrev pub event_effective_place : ℕ
event_effective_place = 30

-- The place of the field Entity.Event.1.RecordedDate.
abbrev pub event_recorded_place : ℕ
event_recorded_place = 31

-- The place of the field Entity.Event.1.Status.
abbrev pub event_status_place : ℕ
event_status_place = 32

-- ---- of a relationship

-- The row of a relationship has 11 fields.
abbrev pub relation_places : ℕ
relation_places = 11

-- The place of the field Relationship.StartNode.
abbrev pub start_place : ℕ
start_place = 1

-- The place of the field Relationship.RelationshipType.
abbrev pub type_place : ℕ
type_place = 2

-- The place of the field Relationship.EndNode.
abbrev pub end_place : ℕ
end_place = 3

-- The place of the field Relationship.RelationshipStatus.
abbrev pub relation_status_place : ℕ
relation_status_place = 4

-- The place of the field Relationship.StartDate.
abbrev pub started_place : ℕ
started_place = 5

-- The place of the field Relationship.EndDate.
abbrev pub ended_place : ℕ
ended_place = 6

-- The place of the field Registration.InitialRegistrationDate.
abbrev pub relation_initial_place : ℕ
relation_initial_place = 7

-- The place of the field Registration.LastUpdateDate.
abbrev pub relation_updated_place : ℕ
relation_updated_place = 8

-- The place of the field Registration.RegistrationStatus.
abbrev pub registration_place : ℕ
registration_place = 9

-- The place of the field Registration.ManagingLOU.
abbrev pub relation_manager_place : ℕ
relation_manager_place = 10

-- ---- of an exception

-- The row of an exception has 4 fields.
abbrev pub exception_places : ℕ
exception_places = 4

-- The place of the field LEI.
abbrev pub subject_place : ℕ
subject_place = 1

-- The place of the field ExceptionCategory.
abbrev pub exception_category_place : ℕ
exception_category_place = 2

-- The place of the field ExceptionReason.
abbrev pub reason_place : ℕ
reason_place = 3

-- The place of the field Action, which comes after the fields of the row.
abbrev pub action_place : ℕ
action_place = 5
