-- What the texts of a relationship's row read as. Each part of such a row can be read; for another row the definition
-- gives a default value.
use Rattle.std.specs.Prelude.{ℤ, Bool, true, false, ◌&&◌, Option, unwrap_or, option_and_then}
use Rattle.std.specs.Str.{bytes_eq}
use Rattle.lei_code.specs.Texts.{Lei}
use Rattle.lei_shapes.specs.declared.lists.RelationType.{RelationType}
use Rattle.lei_shapes.specs.declared.lists.RelationStatus.{RelationStatus}
use Rattle.lei_shapes.specs.declared.lists.RelationRegistration.{RelationRegistration}
use Rattle.lei_shapes.specs.Lists.{relation_type_text, relation_type_of, relation_status_of, relation_registration_of}
use Rattle.lei_shapes.specs.Moment.{read_moment}
use Rattle.lei_records.specs.declared.view.RelCell.{RelCell}
use Rattle.lei_records.specs.Places.{end_place, ended_place, registration_place, relation_initial_place, relation_manager_place, relation_status_place, relation_updated_place, start_place, started_place, type_place}
use Rattle.lei_records.specs.Rows.{Row, text_at}
use Rattle.lei_records.specs.Spelled.{moment_in, present}

-- The entity that the relationship starts at.
abbrev pub start_in : Row → Lei
start_in row = text_at row start_place

-- How the start is related to the end.
unfoldable pub kind_in : Row → RelationType
kind_in row = unwrap_or (relation_type_of (text_at row type_place)) RelationType.IsFeederTo

-- The entity that the relationship ends at.
abbrev pub end_in : Row → Lei
end_in row = text_at row end_place

-- Whether the relationship is active, as its row says.
unfoldable pub relation_status_in : Row → RelationStatus
relation_status_in row = unwrap_or (relation_status_of (text_at row relation_status_place))
    RelationStatus.Inactive

-- When the relationship started: its StartDate.
abbrev pub started_in : Row → ℤ
started_in row = moment_in row started_place

-- When it ended, if that is given: its EndDate.
abbrev pub ended_in : Row → Option ℤ
ended_in row = option_and_then read_moment (present (text_at row ended_place))

-- When the relationship was first registered.
abbrev pub relation_initial_in : Row → ℤ
relation_initial_in row = moment_in row relation_initial_place

-- When its registration was last changed.
abbrev pub relation_updated_in : Row → ℤ
relation_updated_in row = moment_in row relation_updated_place

-- The status of its registration.
unfoldable pub registration_in : Row → RelationRegistration
registration_in row = unwrap_or (relation_registration_of (text_at row registration_place))
    RelationRegistration.Annulled

-- The issuer that manages the relationship.
abbrev pub relation_manager_in : Row → Lei
relation_manager_in row = text_at row relation_manager_place

-- What the rules need of a held relationship.
abbrev pub rel_cell : Row → RelCell
rel_cell row = record { status = relation_status_in row; registration = registration_in row }

-- ---- active relationships

-- The status is ACTIVE.
abbrev pub is_active_status : RelationStatus → Bool
is_active_status RelationStatus.Active = true
is_active_status RelationStatus.Inactive = false

-- The relationship is active.
abbrev pub is_active : Row → Bool
is_active row = is_active_status (relation_status_in row)

-- Two types of relationships are the same: they have the same text.
abbrev pub is_same_type : RelationType → RelationType → Bool
is_same_type a b = bytes_eq (relation_type_text a) (relation_type_text b)

-- The relationship is active, and has this start and this type.
unfoldable pub is_active_of : Lei → RelationType → Row → Bool
is_active_of start kind row = is_active row &&
    (bytes_eq (start_in row) start && is_same_type (kind_in row) kind)
