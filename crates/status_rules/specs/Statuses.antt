-- What a record's registration status requires of its entity status and of its renewal date. This project's profile.
use Rattle.std.specs.Prelude.{Bool, true, false, not, ◌&&◌, ◌||◌, ℤ, pos, int_lt, ◌+ℤ◌}
use Rattle.lei_shapes.specs.declared.lists.RecordStatus.{RecordStatus}
use Rattle.lei_shapes.specs.declared.lists.EntityStatus.{EntityStatus}

-- The status is ISSUED.
abbrev pub is_issued : RecordStatus → Bool
is_issued RecordStatus.Issued = true
is_issued _ = false

-- The status is LAPSED.
abbrev pub is_lapsed : RecordStatus → Bool
is_lapsed RecordStatus.Lapsed = true
is_lapsed _ = false

-- The status is RETIRED.
abbrev pub is_retired : RecordStatus → Bool
is_retired RecordStatus.Retired = true
is_retired _ = false

-- The status is DUPLICATE.
abbrev pub is_duplicate : RecordStatus → Bool
is_duplicate RecordStatus.Duplicate = true
is_duplicate _ = false

-- The status is ANNULLED.
abbrev pub is_annulled : RecordStatus → Bool
is_annulled RecordStatus.Annulled = true
is_annulled _ = false

-- The entity status is ACTIVE.
abbrev pub is_active_entity : EntityStatus → Bool
is_active_entity EntityStatus.Active = true
is_active_entity _ = false

-- The entity status is INACTIVE.
abbrev pub is_inactive : EntityStatus → Bool
is_inactive EntityStatus.Inactive = true
is_inactive _ = false

-- The entity status is NULL.
abbrev pub is_null : EntityStatus → Bool
is_null EntityStatus.Null = true
is_null _ = false

-- If the first holds, the second holds.
abbrev pub only_with : Bool → Bool → Bool
only_with first second = not first || second

-- A record may have this status together with this status of its entity: ISSUED goes with ACTIVE alone, RETIRED with
-- INACTIVE alone, and NULL with DUPLICATE and ANNULLED alone. Every other pair is allowed.
abbrev pub entity_fits : RecordStatus → EntityStatus → Bool
entity_fits status entity =
    only_with (is_issued status) (is_active_entity entity)
    && only_with (is_retired status) (is_inactive entity)
    && only_with (is_null entity) (is_duplicate status || is_annulled status)

-- The first day is before the second.
abbrev pub is_before : ℤ → ℤ → Bool
is_before day other = int_lt day other

-- The day is today or later, and at most 400 days after today.
abbrev pub is_within_term : ℤ → ℤ → Bool
is_within_term day today =
    not (is_before day today) && not (is_before (today +ℤ pos 400) day)

-- The day of the next renewal fits the status: ISSUED requires a day within the term, and LAPSED one before today. The
-- other statuses require nothing of it.
abbrev pub renewal_fits : RecordStatus → ℤ → ℤ → Bool
renewal_fits status renewal_day today =
    only_with (is_issued status) (is_within_term renewal_day today)
    && only_with (is_lapsed status) (is_before renewal_day today)
