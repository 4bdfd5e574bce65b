-- Which registration status of a relationship may follow which. This project's profile.
use Rattle.std.specs.Prelude.{Bool, true, false, Option, Some, None}
use Rattle.lei_shapes.specs.declared.lists.RelationRegistration.{RelationRegistration}

-- A row of the table of statuses has a column for each status that an item may have: ISSUED, PUBLISHED, LAPSED,
-- RETIRED, ANNULLED.
abbrev pub Columns : Type 0
Columns = Bool × Bool × Bool × Bool × Bool

-- The table has a row for each status that is held, and a first row for the case that no relationship is held.
abbrev pub status_columns : Option RelationRegistration → Columns
status_columns None = (true, true, false, false, false)
status_columns (Some RelationRegistration.Issued) = (true, true, true, true, true)
status_columns (Some RelationRegistration.Published) = (true, true, true, true, true)
status_columns (Some RelationRegistration.Lapsed) = (true, true, true, true, true)
status_columns (Some RelationRegistration.Retired) = (true, true, false, true, true)
status_columns (Some RelationRegistration.Annulled) = (true, true, false, false, false)

-- What a row has in the column of a status.
abbrev pub in_status_column : RelationRegistration → Columns → Bool
in_status_column RelationRegistration.Issued row = row.0
in_status_column RelationRegistration.Published row = row.1
in_status_column RelationRegistration.Lapsed row = row.2
in_status_column RelationRegistration.Retired row = row.3
in_status_column RelationRegistration.Annulled row = row.4

-- The item's status may follow the held one, or may come first if none is held.
abbrev pub status_may_follow : Option RelationRegistration → RelationRegistration → Bool
status_may_follow held new = in_status_column new (status_columns held)

-- The relationship's registration has ended: a relationship with RETIRED or ANNULLED may not be active.
abbrev pub is_over : RelationRegistration → Bool
is_over RelationRegistration.Issued = false
is_over RelationRegistration.Published = false
is_over RelationRegistration.Lapsed = false
is_over RelationRegistration.Retired = true
is_over RelationRegistration.Annulled = true
