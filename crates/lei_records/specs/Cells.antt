-- Cells: what the rules need of a table, by key. What a record has by its texts, and what a view answers.
use Rattle.std.specs.Prelude.{ℤ, List, [], Bool, true, false, ◌&&◌, ◌||◌, if◌then◌else◌, Option, Some, None, unwrap_or, option_and_then, codes, drop, slice_get, ⊤}
use Rattle.std.specs.List.{list_all}
use Rattle.std.specs.Option.{option_map_or}
use Rattle.std.specs.Str.{bytes_eq}
use Rattle.lei_code.specs.Texts.{Lei, Text}
use Rattle.lei_shapes.specs.declared.lists.Category.{Category}
use Rattle.lei_shapes.specs.declared.lists.EntityStatus.{EntityStatus}
use Rattle.lei_shapes.specs.declared.lists.EventStatus.{EventStatus}
use Rattle.lei_shapes.specs.declared.lists.EventType.{EventType}
use Rattle.lei_shapes.specs.declared.lists.ExceptionCategory.{ExceptionCategory}
use Rattle.lei_shapes.specs.declared.lists.RecordStatus.{RecordStatus}
use Rattle.lei_shapes.specs.declared.lists.RelationType.{RelationType}
use Rattle.lei_shapes.specs.Lists.{record_status_of, entity_status_of, category_of, event_type_of, event_status_of}
use Rattle.lei_shapes.specs.Moment.{read_moment}
use Rattle.lei_shapes.specs.Shape.{between_spaces}
use Rattle.lei_records.specs.declared.view.RecCell.{RecCell}
use Rattle.lei_records.specs.declared.view.RelCell.{RelCell}
use Rattle.lei_records.specs.declared.view.Seen.{Seen}
use Rattle.lei_records.specs.Places.{authority_id_place, authority_place, category_place, created_place, event_effective_place, entity_status_place, event_status_place, event_type_place, initial_place, lei_place, manager_place, places_before_event, receiver_place, event_recorded_place, renewal_place, status_place, successor_place, updated_place}
use Rattle.lei_records.specs.Rows.{Row, text_at}
use Rattle.lei_records.specs.Spelled.{is_absent, moment_in, present}

-- ---- what the texts of a record read as. Each part of a record's row can be read; for another row the definition
-- gives a default value.

-- The entity's LEI.
abbrev pub lei_in : Row → Lei
lei_in row = text_at row lei_place

-- The status of the registration.
unfoldable pub status_in : Row → RecordStatus
status_in row = unwrap_or (record_status_of (text_at row status_place)) RecordStatus.Annulled

-- Whether the entity is active, as the record says.
unfoldable pub entity_status_in : Row → EntityStatus
entity_status_in row = unwrap_or (entity_status_of (text_at row entity_status_place)) EntityStatus.Null

-- The kind of entity.
unfoldable pub category_in : Row → Category
category_in row = unwrap_or (category_of (text_at row category_place)) Category.General

-- The registration authority.
abbrev pub authority_in : Row → Text
authority_in row = text_at row authority_place

-- The authority's id for the entity.
abbrev pub authority_id_in : Row → Text
authority_id_in row = text_at row authority_id_place

-- When the record was first registered.
abbrev pub initial_in : Row → ℤ
initial_in row = moment_in row initial_place

-- When the record was last changed.
abbrev pub updated_in : Row → ℤ
updated_in row = moment_in row updated_place

-- When the registration is to be renewed.
abbrev pub renewal_in : Row → ℤ
renewal_in row = moment_in row renewal_place

-- When the entity was created, if that is given.
abbrev pub created_in : Row → Option ℤ
created_in row = option_and_then read_moment (present (text_at row created_place))

-- The issuer that manages the record.
abbrev pub manager_in : Row → Lei
manager_in row = text_at row manager_place

-- The entities that succeeded this one, in the order in which the record names them.
unfoldable pub successors_in : Row → List Lei
successors_in row = option_map_or between_spaces (present (text_at row successor_place)) []

-- The first of them, which is the only one by the first rules.
abbrev pub successor_in : Row → Option Lei
successor_in row = slice_get (successors_in row) 0

-- The issuer that the record is to be transferred to.
abbrev pub receiver_in : Row → Option Lei
receiver_in row = present (text_at row receiver_place)

-- What happens to the entity, if that is given.
abbrev pub event_type_in : Row → Option EventType
event_type_in row = option_and_then event_type_of (present (text_at row event_type_place))

-- When that event takes effect, if that is given.
abbrev pub event_effective_in : Row → Option ℤ
event_effective_in row = option_and_then read_moment (present (text_at row event_effective_place))

-- When the event was recorded, if that is given.
abbrev pub event_recorded_in : Row → Option ℤ
event_recorded_in row = option_and_then read_moment (present (text_at row event_recorded_place))

-- How far the event has come, if that is given.
abbrev pub event_status_in : Row → Option EventStatus
event_status_in row = option_and_then event_status_of (present (text_at row event_status_place))

-- The record has no event: the fields of an event, which are the last of a row, are absent.
abbrev pub has_no_event : Row → Bool
has_no_event row = list_all is_absent (drop places_before_event row)

-- What the rules need of a held record.
abbrev pub rec_cell : Row → RecCell
rec_cell row = record {
  status = status_in row;
  manager = manager_in row;
  transfer_to = receiver_in row;
  initial = initial_in row;
  updated = updated_in row;
  category = category_in row;
  successors = successors_in row;
}

-- ---- live records and their authority keys

-- A record with this status is live: ISSUED, LAPSED, PENDING_TRANSFER or PENDING_ARCHIVAL.
abbrev pub is_live_status : RecordStatus → Bool
is_live_status RecordStatus.Issued = true
is_live_status RecordStatus.Lapsed = true
is_live_status RecordStatus.PendingTransfer = true
is_live_status RecordStatus.PendingArchival = true
is_live_status RecordStatus.Retired = false
is_live_status RecordStatus.Duplicate = false
is_live_status RecordStatus.Annulled = false

-- The record is live.
abbrev pub is_live : Row → Bool
is_live row = is_live_status (status_in row)

-- The text is one of the two that are used if there is no registration authority.
abbrev pub is_no_authority : Text → Bool
is_no_authority text = bytes_eq text (codes "RA888888") || bytes_eq text (codes "RA999999")

-- A record's authority key: the registration authority and its id for the entity. It is `None` if the id is absent or
-- there is no authority.
unfoldable pub akey : Row → Option (Text × Text)
akey row = if is_absent (authority_id_in row) || is_no_authority (authority_in row) then None
    else Some (authority_in row, authority_id_in row)

-- There is a key, and it is this one.
abbrev pub is_authority_key : Text → Text → Option (Text × Text) → Bool
is_authority_key authority id None = false
is_authority_key authority id (Some key) = bytes_eq key.0 authority && bytes_eq key.1 id

-- The record is live and has this authority key.
unfoldable pub holds : Text → Text → Row → Bool
holds authority id row = is_live row && is_authority_key authority id (akey row)

-- ---- views

-- What a view answers. For an LEI it is the record. For an authority key it is the LEI of the live record that has it.
-- For a start, a type and an end it is the relationship. For a start and a type it is the end of the active
-- relationship. For an LEI and a category it is whether there is an exception.
pub record Cells : Type 0 where
  pub record_cell : Lei → Seen RecCell
  pub holder : Text → Text → Seen Lei
  pub relation : Lei → RelationType → Lei → Seen RelCell
  pub active : Lei → RelationType → Seen Lei
  pub exception : Lei → ExceptionCategory → Seen ⊤
