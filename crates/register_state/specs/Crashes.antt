-- What a crash may leave from an office.
use Rattle.std.specs.Prelude.{◌≡◌, ◌⊎◌, Option, None, Some, IsSome}
use Rattle.lei_values.specs.KeptTables.{KeptTables}
use Rattle.lei_values.specs.declared.entry.KeptEntry.{KeptEntry}
use Rattle.register_history.specs.Kept.{AreTablesOf}
use Rattle.register_history.specs.Legal.{Legal}
use Rattle.register_history.specs.State.{OfficeState}
use Rattle.register_state.specs.Books.{office_with_entry}

-- The tables of the office, or those of the office with one more entry and a legal history.
abbrev pub IsLeftOf : OfficeState → Option KeptTables → Type 0
IsLeftOf office None = ⊥
IsLeftOf office (Some tables) = AreTablesOf office tables
    ⊎ ((e : KeptEntry) × Legal (office_with_entry office e) × AreTablesOf (office_with_entry office e) tables)

-- A crash may leave only these.
abbrev pub LeavesOnly : OfficeState → (Option KeptTables → Type 0) → Type 0
LeavesOnly office leaves = (left : Option KeptTables) → leaves left → IsLeftOf office left

-- What a crash may leave is what it could leave before, or tables with the property `P`.
abbrev pub LeavesAlso : (KeptTables → Type 0) → (Option KeptTables → Type 0)
    → (Option KeptTables → Type 0) → Type 0
LeavesAlso P old new =
    (left : Option KeptTables) → new left
    → old left ⊎ ((tables : KeptTables) × (left ≡ Some tables) × P tables)

-- Suppose that before a step a crash could leave only tables of the old office, or of it with one more entry. Then
-- after it a crash can leave only those of the new office, or of it with one more entry. If an entry was added, the
-- keeper has to tell its tables for that.
abbrev pub CrashStays : OfficeState → OfficeState → Option KeptTables → (Option KeptTables → Type 0)
    → (Option KeptTables → Type 0) → Type 0
CrashStays old new told before after =
    LeavesOnly old before → (new ≡ old) ⊎ IsSome told → LeavesOnly new after
