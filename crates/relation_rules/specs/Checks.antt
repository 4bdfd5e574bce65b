-- The checks of a relationship, C30 to C40, and of an exception, C50 to C53, on a table. This project's profile.
use Rattle.std.specs.Prelude.{List, [], ◌∷◌, Bool, true, false, not, ◌&&◌, ◌||◌, int_lt, find, Option, is_some, is_none, option_map}
use Rattle.std.specs.Option.{option_map_or}
use Rattle.std.specs.Str.{bytes_eq}
use Rattle.lei_code.specs.Texts.{Lei}
use Rattle.lei_shapes.specs.declared.lists.Category.{Category}
use Rattle.lei_shapes.specs.declared.lists.RelationType.{RelationType}
use Rattle.lei_records.specs.declared.check.Detail.{Detail}
use Rattle.lei_records.specs.declared.view.RecCell.{RecCell}
use Rattle.lei_records.specs.declared.view.RelCell.{RelCell}
use Rattle.lei_records.specs.Checks.{Finding, code_detail, fails_if}
use Rattle.lei_records.specs.Exceptions.{exception_category_in, subject_in}
use Rattle.lei_records.specs.Parents.{is_direct_type, parent_category, parent_of, parent_type}
use Rattle.lei_records.specs.Relations.{end_in, ended_in, is_active, is_active_of, is_same_type, kind_in, registration_in, relation_initial_in, relation_manager_in, relation_updated_in, start_in, started_in}
use Rattle.lei_records.specs.Rows.{Row}
use Rattle.lei_records.specs.Tables.{Table, active_of, has_exception, record_of, relation_of, relations_of}
use Rattle.lei_records.specs.Walks.{Next, is_long, is_met}
use Rattle.relation_rules.specs.Statuses.{is_over, status_may_follow}

-- ---- a relationship alone

-- C30 fails if start and end are the same LEI.
abbrev pub c30 : Row → Finding
c30 item = fails_if (bytes_eq (start_in item) (end_in item)) 30 Detail.None

-- C31 fails if EndDate is before StartDate, or LastUpdateDate before InitialRegistrationDate.
abbrev pub c31 : Row → Finding
c31 item =
    fails_if (option_map_or (λ ended. int_lt ended (started_in item)) (ended_in item) false
    || int_lt (relation_updated_in item) (relation_initial_in item)) 31 Detail.None

-- ---- the records of its start and its end, if there are any

-- C32 fails if no record of the start is held.
abbrev pub c32 : Option RecCell → Finding
c32 start = fails_if (is_none start) 32 Detail.None

-- C33 fails if no record of the end is held.
abbrev pub c33 : Option RecCell → Finding
c33 end = fails_if (is_none end) 33 Detail.None

-- A record is managed by an issuer other than this one.
abbrev pub is_managed_elsewhere : Lei → RecCell → Bool
is_managed_elsewhere issuer cell = not (bytes_eq cell.manager issuer)

-- C34 fails if the item's ManagingLOU or that of its start's record isn't the issuer that uploads it.
abbrev pub c34 : Option RecCell → Lei → Row → Finding
c34 start issuer item =
    fails_if
    (not (bytes_eq (relation_manager_in item) issuer) || option_map_or
    (is_managed_elsewhere issuer) start false)
    34 Detail.None

-- The category is BRANCH.
abbrev pub is_branch : Category → Bool
is_branch Category.Branch = true
is_branch other = false

-- The category is FUND.
abbrev pub is_fund : Category → Bool
is_fund Category.Fund = true
is_fund other = false

-- A relationship of the type may start at an entity of the category. A branch's may start only at a BRANCH, a fund's
-- only at a FUND, and a parent's at any.
abbrev pub may_start : RelationType → Category → Bool
may_start RelationType.IsDirectlyConsolidatedBy category = true
may_start RelationType.IsUltimatelyConsolidatedBy category = true
may_start RelationType.IsInternationalBranchOf category = is_branch category
may_start RelationType.IsFundManagedBy category = is_fund category
may_start RelationType.IsSubfundOf category = is_fund category
may_start RelationType.IsFeederTo category = is_fund category

-- C35 fails if the type is a branch's and the start isn't a BRANCH. It also fails if the type is a fund's and the start
-- isn't a FUND.
abbrev pub c35 : Option RecCell → Row → Finding
c35 start item =
    fails_if (option_map_or (λ cell. not (may_start (kind_in item) cell.category)) start false) 35 Detail.None

-- ---- the other relationships

-- C36 fails if the item's registration status may not follow the held one, or the item is ACTIVE and RETIRED or
-- ANNULLED.
abbrev pub c36 : Option RelCell → Row → Finding
c36 held item =
    fails_if (not (status_may_follow (option_map (λ cell. cell.registration) held) (registration_in item))
    || is_active item && is_over (registration_in item)) 36 Detail.None

-- The relationship has this start and this type.
abbrev pub is_from : Lei → RelationType → Row → Bool
is_from start kind row = bytes_eq (start_in row) start && is_same_type (kind_in row) kind

-- The other relationship is active, and has the item's start and type but another end.
abbrev pub is_in_the_way : Row → Row → Bool
is_in_the_way item other =
    is_active_of (start_in item) (kind_in item) other && not (bytes_eq (end_in other) (end_in item))

-- The end of a relationship that conflicts with the item: of the first one in the order of keys.
abbrev pub other_end : Table → Row → Option Lei
other_end table item = option_map end_in (find (is_in_the_way item) (relations_of table))

-- C37 fails if the item is ACTIVE, and an ACTIVE relationship of its start and type has another end, which is reported.
abbrev pub c37 : Option Lei → Row → Finding
c37 other item = fails_if (is_active item && is_some other) 37 (code_detail other)

-- ---- the chain of direct parents: the start, the end, and the direct parent of each

-- The item is an active direct parent.
abbrev pub is_direct_parent : Row → Bool
is_direct_parent item = is_active item && is_direct_type (kind_in item)

-- C38 fails if the item is an ACTIVE direct parent, and one of the first 200 members after its start is the start.
abbrev pub c38 : Next → Row → Finding
c38 next item = fails_if (is_direct_parent item && is_met next (start_in item) (end_in item)) 38 Detail.None

-- C39 fails if the item is an ACTIVE direct parent, and there is a 201st member after its start.
abbrev pub c39 : Next → Row → Finding
c39 next item = fails_if (is_direct_parent item && is_long next (end_in item)) 39 Detail.None

-- ---- the exceptions

-- The item's start has the exception of the parents of the item's type.
abbrev pub has_own_exception : Table → Row → Bool
has_own_exception table item = option_map_or (has_exception table (start_in item))
    (parent_category (kind_in item)) false

-- C40 fails if the item is an ACTIVE parent, and the start has the exception of its category.
abbrev pub c40 : Bool → Row → Finding
c40 stands item = fails_if (is_active item && stands) 40 Detail.None

-- All checks of a relationship on a table, for the issuer that uploads it, in the order of their numbers.
abbrev pub relation_checks : Table → Lei → Row → List Finding
relation_checks table issuer item =
    let start = record_of table (start_in item) in
    c30 item ∷ c31 item ∷ c32 start ∷ c33 (record_of table (end_in item)) ∷ c34 start issuer item
    ∷ c35 start item
    ∷ c36 (relation_of table (start_in item) (kind_in item) (end_in item)) item
    ∷ c37 (other_end table item) item
    ∷ c38 (parent_of table) item ∷ c39 (parent_of table) item ∷ c40 (has_own_exception table item) item ∷ []

-- ---- an exception, as its row and whether it is a withdrawal

-- C50 fails if no record of the exception's LEI is held.
abbrev pub c50 : Option RecCell → Finding
c50 held = fails_if (is_none held) 50 Detail.None

-- C51 fails if the ManagingLOU of that record isn't the issuer that uploads the exception.
abbrev pub c51 : Option RecCell → Lei → Finding
c51 held issuer = fails_if (option_map_or (is_managed_elsewhere issuer) held false) 51 Detail.None

-- C52 fails if the action is PUT, and the entity has an ACTIVE parent of the category, which is reported.
abbrev pub c52 : Option Lei → Row × Bool → Finding
c52 parent item = fails_if (not item.1 && is_some parent) 52 (code_detail parent)

-- C53 fails if the action is WITHDRAW, and no such exception is held.
abbrev pub c53 : Bool → Row × Bool → Finding
c53 stands item = fails_if (item.1 && not stands) 53 Detail.None

-- All checks of an exception on a table, for the issuer that uploads it, in the order of their numbers.
abbrev pub exception_checks : Table → Lei → Row × Bool → List Finding
exception_checks table issuer item =
    let lei = subject_in item.0 in
    let category = exception_category_in item.0 in
    c50 (record_of table lei) ∷ c51 (record_of table lei) issuer
    ∷ c52 (active_of table lei (parent_type category)) item ∷ c53 (has_exception table lei category) item ∷ []
