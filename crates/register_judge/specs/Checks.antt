-- The checks of a record that an upload brings to a table, C05 to C22. This project's profile.
use Rattle.std.specs.Prelude.{ℕ, ℤ, List, [], ◌∷◌, ◌++◌, codes, find, Bool, true, false, not, ◌&&◌, ◌||◌, if◌then◌else◌, int_lt, Option, Some, None, is_some, is_none, option_map}
use Rattle.std.specs.List.{list_any}
use Rattle.std.specs.Option.{option_map_or}
use Rattle.std.specs.Ordering.{int_eq}
use Rattle.std.specs.Str.{bytes_eq}
use Rattle.lei_code.specs.Texts.{Lei, Text}
use Rattle.lei_shapes.specs.declared.lists.EventStatus.{EventStatus}
use Rattle.lei_shapes.specs.declared.lists.RecordStatus.{RecordStatus}
use Rattle.lei_shapes.specs.Moment.{day_of}
use Rattle.lei_records.specs.declared.check.Detail.{Detail}
use Rattle.lei_records.specs.declared.view.RecCell.{RecCell}
use Rattle.lei_records.specs.Cells.{lei_in, status_in, entity_status_in, initial_in, updated_in, renewal_in, created_in, manager_in, successor_in, successors_in, is_live, event_effective_in, event_recorded_in, event_status_in}
use Rattle.lei_records.specs.Checks.{Finding, fails_if, code_detail, field_detail}
use Rattle.lei_records.specs.Places.{event_effective_place, event_status_place, event_type_place, event_recorded_place}
use Rattle.lei_records.specs.Rows.{Row, text_at}
use Rattle.lei_records.specs.Spelled.{is_absent}
use Rattle.lei_records.specs.Tables.{Table, record_of, record_count, other_holder}
use Rattle.lei_records.specs.Walks.{Next, is_long, is_met, successor_of, successors_of}
use Rattle.successor_rules.specs.Chains.{Nexts}
use Rattle.successor_rules.specs.Levels.{has_wide_levels, is_back}
use Rattle.status_rules.specs.declared.transitions.Party.{Party}
use Rattle.status_rules.specs.Statuses.{entity_fits, renewal_fits, is_issued, is_retired, is_duplicate}
use Rattle.status_rules.specs.Transitions.{party}
use Rattle.lei_records.specs.declared.rules.Rules.{Rules}
use Rattle.register_judge.specs.declared.sitting.Sitting.{Sitting}
use Rattle.register_judge.specs.Sittings.{is_at_limit}

-- ---- the item alone, and the issuer that uploads it

-- C05 fails if the record's status and the entity's status aren't an allowed pair.
abbrev pub c05 : Row → Finding
c05 item = fails_if (not (entity_fits (status_in item) (entity_status_in item))) 5 Detail.None

-- C06 fails if LastUpdateDate or NextRenewalDate is before InitialRegistrationDate.
abbrev pub c06 : Row → Finding
c06 item =
    fails_if (int_lt (updated_in item) (initial_in item) || int_lt (renewal_in item)
    (initial_in item)) 6 Detail.None

-- The moment's day is after today.
abbrev pub is_after : ℤ → ℤ → Bool
is_after today seconds = int_lt today (day_of seconds)

-- C07 fails if the day of LastUpdateDate or of EntityCreationDate is after today.
abbrev pub c07 : ℤ → Row → Finding
c07 today item =
    fails_if (is_after today (updated_in item) || option_map_or (is_after today) (created_in item)
    false) 7 Detail.None

-- A successor is named with a status other than RETIRED and DUPLICATE, or none is named with DUPLICATE.
abbrev pub misfits : RecordStatus → Bool → Bool
misfits status stands = (stands && not (is_retired status || is_duplicate status)) ||
    (not stands && is_duplicate status)

-- C08 fails if the status doesn't allow a successor that is named, or needs one and none is named.
abbrev pub c08 : Row → Finding
c08 item = fails_if (misfits (status_in item) (is_some (successor_in item))) 8 Detail.None

-- C09 fails if the item's ManagingLOU isn't the issuer that uploads it.
abbrev pub c09 : Lei → Row → Finding
c09 issuer item = fails_if (not (bytes_eq (manager_in item) issuer)) 9 Detail.None

-- ---- the record that is held under the item's LEI, if there is one

-- C10 fails if no record is held and the status isn't ISSUED.
abbrev pub c10 : Option RecCell → Row → Finding
c10 None item = fails_if (not (is_issued (status_in item))) 10 Detail.None
c10 (Some held) item = fails_if false 10 Detail.None

-- C11 fails if one is held and the pair of statuses isn't permitted. The detail is the held status.
abbrev pub c11 : Option RecCell → Row → Finding
c11 None item = fails_if false 11 Detail.None
c11 (Some held) item =
    fails_if (is_none (party (Some held.status) (status_in item))) 11 (Detail.Status held.status)

-- The party to a change of the held record, its manager or its receiver, isn't this issuer.
abbrev pub is_another : RecCell → Lei → Option Party → Bool
is_another held issuer None = false
is_another held issuer (Some Party.New) = false
is_another held issuer (Some Party.Manager) = not (bytes_eq held.manager issuer)
is_another held issuer (Some Party.Receiver) = not (option_map_or (bytes_eq issuer) held.transfer_to false)

-- C12 fails if one is held, the pair is permitted to its manager, and its ManagingLOU isn't the issuer that uploads the
-- item. The same goes for its receiver and its TransferTo.
abbrev pub c12 : Option RecCell → Lei → Row → Finding
c12 None issuer item = fails_if false 12 Detail.None
c12 (Some held) issuer item =
    fails_if (is_another held issuer (party (Some held.status) (status_in item))) 12 Detail.None

-- C13 fails if one is held with another InitialRegistrationDate.
abbrev pub c13 : Option RecCell → Row → Finding
c13 None item = fails_if false 13 Detail.None
c13 (Some held) item = fails_if (not (int_eq held.initial (initial_in item))) 13 Detail.None

-- C14 fails if one is held with a later LastUpdateDate.
abbrev pub c14 : Option RecCell → Row → Finding
c14 None item = fails_if false 14 Detail.None
c14 (Some held) item = fails_if (int_lt (updated_in item) held.updated) 14 Detail.None

-- C15 fails if the item breaks the rule on renewal.
abbrev pub c15 : ℤ → Row → Finding
c15 today item = fails_if
    (not (renewal_fits (status_in item) (day_of (renewal_in item)) today)) 15 Detail.None

-- ---- the successor of an item that has one

-- C16 fails if no record of the successor is held.
abbrev pub c16 : Option RecCell → Finding
c16 found = fails_if (is_none found) 16 Detail.None

-- C17 fails if one of the first 200 members of the walk from the successor is the item's own LEI.
abbrev pub c17 : Next → Row → Lei → Finding
c17 next item successor = fails_if (is_met next (lei_in item) successor) 17 Detail.None

-- C18 fails if that walk has a 201st member.
abbrev pub c18 : Next → Lei → Finding
c18 next successor = fails_if (is_long next successor) 18 Detail.None

-- ---- the successors of an item by the later rules

-- C16 fails if one of the successors has no record that is held.
abbrev pub c16_each : Table → List Lei → Finding
c16_each table successors = fails_if (list_any (λ lei. is_none (record_of table lei)) successors) 16 Detail.None

-- C17 fails if levels 1 to 201 from the successors have the item's own LEI and at most 200 different other LEIs.
abbrev pub c17_levels : Nexts → Row → List Lei → Finding
c17_levels nexts item successors =
    fails_if (not (has_wide_levels nexts (lei_in item) successors) && is_back nexts (lei_in item) successors) 17 Detail.None

-- C18 fails if they have more than 200 such LEIs.
abbrev pub c18_levels : Nexts → Row → List Lei → Finding
c18_levels nexts item successors = fails_if (has_wide_levels nexts (lei_in item) successors) 18 Detail.None

-- ---- the other records

-- C19 fails if the item is live and another live record has its authority key. The detail is that record's LEI.
abbrev pub c19 : Option Lei → Row → Finding
c19 other item = fails_if (is_live item && is_some other) 19 (code_detail other)

-- C20 fails if no record is held and the number of records has reached the limit.
abbrev pub c20 : Option RecCell → Bool → Finding
c20 held full = fails_if (is_none held && full) 20 Detail.None

-- ---- the event that a record reports, by the third rules

-- The fields that a record needs if it reports an event, with their places: the event's type, when it was recorded, and
-- its status.
abbrev pub needed_of_event : List (ℕ × Text)
needed_of_event =
    (event_type_place, codes "Entity.Event.1.Type") ∷ (event_recorded_place, codes "Entity.Event.1.RecordedDate")
    ∷ (event_status_place, codes "Entity.Event.1.Status") ∷ []

-- The first of them that is absent.
abbrev pub lacking_field : Row → Option Text
lacking_field item = option_map (λ needed. needed.1)
    (find (λ needed. is_absent (text_at item needed.0)) needed_of_event)

-- The record reports an event: at least one of the event's four fields is present.
abbrev pub tells_of_event : Row → Bool
tells_of_event item = list_any (λ place. not (is_absent (text_at item place)))
    (event_type_place ∷ event_effective_place ∷ event_recorded_place ∷ event_status_place ∷ [])

-- The field that an event lacks, or `None` if the record reports no event.
abbrev pub missing_of_event : Row → Option Text
missing_of_event item = if tells_of_event item then lacking_field item else None

-- C21 fails if a field of an event is present and its type, the date when it was recorded, or its status is absent. The
-- detail is the first of these that is absent.
abbrev pub c21 : Row → Finding
c21 item = fails_if (is_some (missing_of_event item)) 21 (field_detail (missing_of_event item))

-- An event is completed.
abbrev pub is_completed : Option EventStatus → Bool
is_completed None = false
is_completed (Some EventStatus.InProgress) = false
is_completed (Some EventStatus.Completed) = true
is_completed (Some EventStatus.WithdrawnCancelled) = false

-- C22 fails if the day on which an event was recorded is after today. It also fails if the event is completed and its
-- effective date is absent or after today. The effective date of an event that isn't completed may be in the future.
abbrev pub c22 : ℤ → Row → Finding
c22 today item =
    fails_if (option_map_or (is_after today) (event_recorded_in item) false
    || (is_completed (event_status_in item) && option_map_or (is_after today) (event_effective_in item) true)) 22 Detail.None

-- ---- the checks in the order of their numbers

-- The checks of the item alone and of the issuer that uploads it: C05 to C09.
abbrev pub own_checks : Sitting → Row → List Finding
own_checks sitting item = c05 item ∷ c06 item ∷ c07 sitting.today item ∷ c08 item
    ∷ c09 sitting.issuer item ∷ []

-- The checks against the record that is held under the item's LEI, if there is one: C10 to C15.
abbrev pub held_checks : Option RecCell → Sitting → Row → List Finding
held_checks held sitting item =
    c10 held item ∷ c11 held item ∷ c12 held sitting.issuer item ∷ c13 held item ∷ c14 held item
    ∷ c15 sitting.today item ∷ []

-- The checks of the item's one successor by the first rules, C16 to C18: none if it has no successor. The walk follows
-- the records of the table.
abbrev pub first_checks : Table → Row → Option Lei → List Finding
first_checks table item None = []
first_checks table item (Some successor) =
    c16 (record_of table successor) ∷ c17 (successor_of table) item successor
    ∷ c18 (successor_of table) successor ∷ []

-- The checks of the item's successors by the later rules, C16 to C18: none if it has no successor. The levels follow
-- the records of the table.
abbrev pub level_checks : Table → Row → List Lei → List Finding
level_checks table item [] = []
level_checks table item (successor ∷ successors) =
    c16_each table (successor ∷ successors) ∷ c17_levels (successors_of table) item (successor ∷ successors)
    ∷ c18_levels (successors_of table) item (successor ∷ successors) ∷ []

-- The checks of the item's successors by the given rules, C16 to C18.
abbrev pub successor_checks : Rules → Table → Row → List Finding
successor_checks Rules.First table item = first_checks table item (successor_in item)
successor_checks Rules.Second table item = level_checks table item (successors_in item)
successor_checks Rules.Third table item = level_checks table item (successors_in item)

-- All checks of a record on a table before C20, in a sitting.
abbrev pub earlier_checks : Table → Sitting → Row → List Finding
earlier_checks table sitting item =
    own_checks sitting item ++ held_checks (record_of table (lei_in item)) sitting item
    ++ successor_checks sitting.rules table item
    ++ c19 (other_holder table item) item ∷ []

-- The checks of the event that a record reports by the given rules, C21 and C22.
abbrev pub event_checks : Rules → ℤ → Row → List Finding
event_checks Rules.First today item = []
event_checks Rules.Second today item = []
event_checks Rules.Third today item = c21 item ∷ c22 today item ∷ []

-- The checks from C20 on, with the record that is held under the item's LEI. If `full` is true, no further record fits.
abbrev pub late_checks : Sitting → Row → Option RecCell → Bool → List Finding
late_checks sitting item held full = c20 held full ∷ event_checks sitting.rules sitting.today item

-- The checks of a record on a table from C20 on.
abbrev pub last_checks : Table → Sitting → Row → List Finding
last_checks table sitting item = late_checks sitting item (record_of table (lei_in item))
    (is_at_limit sitting (record_count table))

-- All checks of a record on a table, in a sitting.
abbrev pub record_checks : Table → Sitting → Row → List Finding
record_checks table sitting item = earlier_checks table sitting item ++ last_checks table sitting item
