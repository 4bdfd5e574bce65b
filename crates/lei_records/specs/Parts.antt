-- The typed parts of a record, a relationship or an exception are what the texts of its row read as.
use Rattle.std.specs.Prelude.{◌≡◌, ◌<◌, ℕ, ℤ, List, [], length, Option, Some, None, get_or}
use Rattle.std.specs.Arc.{arc_value}
use Rattle.lei_records.specs.declared.exception.ExceptionItem.TheInside.{Inside as ExceptionParts}
use Rattle.lei_records.specs.declared.record.Record.TheInside.{Inside}
use Rattle.lei_records.specs.declared.relation.Relation.TheInside.{Inside as RelationParts}
use Rattle.lei_records.specs.Cells.{category_in, created_in, entity_status_in, initial_in, lei_in, manager_in, receiver_in, renewal_in, status_in, updated_in}
use Rattle.lei_records.specs.Exceptions.{exception_category_in, reason_in, subject_in}
use Rattle.lei_records.specs.Relations.{end_in, ended_in, kind_in, registration_in, relation_initial_in, relation_manager_in, relation_status_in, relation_updated_in, start_in, started_in}
use Rattle.lei_records.specs.Rows.{Row}
use Rattle.lei_records.specs.Spelled.{IsExceptionRow, IsRecordRow, IsRelationRow}
use Rattle.lei_shapes.specs.Moment.{read_moment}

-- The parts are those of a record with these texts as its row.
pub record IsSpelled (parts : Inside) : Type 0 where
  pub row : IsRecordRow (arc_value parts.texts)
  pub lei : parts.lei ≡ lei_in (arc_value parts.texts)
  pub category : parts.category ≡ category_in (arc_value parts.texts)
  pub entity_status : parts.entity_status ≡ entity_status_in (arc_value parts.texts)
  pub created : parts.created ≡ created_in (arc_value parts.texts)
  pub initial : parts.initial ≡ initial_in (arc_value parts.texts)
  pub updated : parts.updated ≡ updated_in (arc_value parts.texts)
  pub status : parts.status ≡ status_in (arc_value parts.texts)
  pub renewal : parts.renewal ≡ renewal_in (arc_value parts.texts)
  pub manager : parts.manager ≡ manager_in (arc_value parts.texts)
  pub transfer_to : parts.transfer_to ≡ receiver_in (arc_value parts.texts)

-- The parts are those of a relationship with these texts as its row.
pub record IsRelationSpelled (parts : RelationParts) : Type 0 where
  pub row : IsRelationRow (arc_value parts.texts)
  pub start : parts.start ≡ start_in (arc_value parts.texts)
  pub kind : parts.kind ≡ kind_in (arc_value parts.texts)
  pub end : parts.end ≡ end_in (arc_value parts.texts)
  pub status : parts.status ≡ relation_status_in (arc_value parts.texts)
  pub started : parts.start_date ≡ started_in (arc_value parts.texts)
  pub ended : parts.end_date ≡ ended_in (arc_value parts.texts)
  pub initial : parts.initial ≡ relation_initial_in (arc_value parts.texts)
  pub updated : parts.updated ≡ relation_updated_in (arc_value parts.texts)
  pub registration : parts.registration ≡ registration_in (arc_value parts.texts)
  pub manager : parts.manager ≡ relation_manager_in (arc_value parts.texts)

-- The parts are those of an exception with these texts as its row.
pub record IsExceptionSpelled (parts : ExceptionParts) : Type 0 where
  pub row : IsExceptionRow (arc_value parts.texts)
  pub lei : parts.lei ≡ subject_in (arc_value parts.texts)
  pub category : parts.category ≡ exception_category_in (arc_value parts.texts)
  pub reason : parts.reason ≡ reason_in (arc_value parts.texts)

-- Each moment is the one that the text at its index reads as. Nothing is said about a text without a moment.
abbrev pub MomentsAreRead : Row → List (Option ℤ) → Type 0
MomentsAreRead row moments = (index : ℕ) (moment : ℤ) → index < length row → get_or moments index None ≡ Some moment
    → read_moment (get_or row index []) ≡ Some moment
