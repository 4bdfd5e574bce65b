-- What the texts of a row read as, and which rows are those of records, of relationships and of exceptions.
use Rattle.std.specs.Prelude.{◌≡◌, ◌≤◌, ℕ, ℤ, pos, length, Bool, ◌==◌, if◌then◌else◌, Option, None, Some, IsSome, IfSome, IsTrue, unwrap_or}
use Rattle.std.specs.List.{All}
use Rattle.lei_code.specs.Code.{IsValid}
use Rattle.lei_code.specs.Texts.{Text}
use Rattle.lei_shapes.specs.Clock.{moment_text}
use Rattle.lei_shapes.specs.Lists.{record_status_of, entity_status_of, category_of, relation_type_of, relation_status_of, relation_registration_of, exception_category_of, reason_of, event_type_of, event_status_of}
use Rattle.lei_shapes.specs.Moment.{read_moment}
use Rattle.lei_shapes.specs.Shape.{are_different, between_spaces}
use Rattle.lei_records.specs.Places.{category_place, created_place, event_effective_place, end_place, ended_place, entity_status_place, event_status_place, event_type_place, exception_category_place, exception_places, initial_place, lei_place, manager_place, reason_place, receiver_place, record_places, event_recorded_place, registration_place, relation_initial_place, relation_manager_place, relation_places, relation_status_place, relation_updated_place, renewal_place, start_place, started_place, status_place, subject_place, successor_place, type_place, updated_place}
use Rattle.lei_records.specs.Rows.{Row, text_at}

-- An empty text counts as absent.
abbrev pub is_absent : Text → Bool
is_absent text = length text == 0

-- The text, or `None` if it is absent.
abbrev pub present : Text → Option Text
present text = if is_absent text then None else Some text

-- The moment that the text at a place reads as, in seconds since 1970-01-01T00:00:00Z. It is 0 if the text reads as no
-- moment; each moment that an item's row must have reads as one.
unfoldable pub moment_in : Row → ℕ → ℤ
moment_in row place = unwrap_or (read_moment (text_at row place)) (pos 0)

-- The text is the printed form of a moment.
abbrev pub IsPrinted : Text → Type 0
IsPrinted text = (seconds : ℤ) × (read_moment text ≡ Some seconds) × (text ≡ moment_text seconds)

-- The text is that of a value of a list.
abbrev pub IsListedText : {V : Type 0} → (Text → Option V) → Text → Type 0
IsListedText {V} value_of text = IsSome (value_of text)

-- The text is one to five LEIs, all different, separated by single spaces.
pub record AreCodes (text : Text) : Type 0 where
  pub few : length (between_spaces text) ≤ 5
  pub valid : All IsValid (between_spaces text)
  pub different : IsTrue (are_different (between_spaces text))

-- The row is that of a record. Each part of it that is more than a text can be read. An LEI is read by its check
-- digits, a value by its list, and a moment by its printed form. A part that isn't needed may be absent.
pub record IsRecordRow (row : Row) : Type 0 where
  pub places : length row ≡ record_places
  pub lei : IsValid (text_at row lei_place)
  pub category : IsSome (category_of (text_at row category_place))
  pub entity_status : IsSome (entity_status_of (text_at row entity_status_place))
  pub created : IfSome (present (text_at row created_place)) IsPrinted
  pub successors : IfSome (present (text_at row successor_place)) AreCodes
  pub initial : IsPrinted (text_at row initial_place)
  pub updated : IsPrinted (text_at row updated_place)
  pub status : IsSome (record_status_of (text_at row status_place))
  pub renewal : IsPrinted (text_at row renewal_place)
  pub manager : IsValid (text_at row manager_place)
  pub transfer_to : IfSome (present (text_at row receiver_place)) IsValid
  pub event_type : IfSome (present (text_at row event_type_place)) (IsListedText event_type_of)
  pub effective : IfSome (present (text_at row event_effective_place)) IsPrinted
  pub recorded : IfSome (present (text_at row event_recorded_place)) IsPrinted
  pub event_status : IfSome (present (text_at row event_status_place)) (IsListedText event_status_of)

-- The row is that of a relationship.
pub record IsRelationRow (row : Row) : Type 0 where
  pub places : length row ≡ relation_places
  pub start : IsValid (text_at row start_place)
  pub kind : IsSome (relation_type_of (text_at row type_place))
  pub end : IsValid (text_at row end_place)
  pub status : IsSome (relation_status_of (text_at row relation_status_place))
  pub started : IsPrinted (text_at row started_place)
  pub ended : IfSome (present (text_at row ended_place)) IsPrinted
  pub initial : IsPrinted (text_at row relation_initial_place)
  pub updated : IsPrinted (text_at row relation_updated_place)
  pub registration : IsSome (relation_registration_of (text_at row registration_place))
  pub manager : IsValid (text_at row relation_manager_place)

-- The row is that of an exception. The reason may be absent, because a withdrawal may lack it.
pub record IsExceptionRow (row : Row) : Type 0 where
  pub places : length row ≡ exception_places
  pub lei : IsValid (text_at row subject_place)
  pub category : IsSome (exception_category_of (text_at row exception_category_place))
  pub reason : IfSome (present (text_at row reason_place)) (IsListedText reason_of)
