-- Shelving: what the shelf keeps of a history, and how that changes when a request is decided.
use Rattle.std.specs.Prelude.{◌≡◌, Bool, true, false, Option, Some, Result, Ok, Err}
use Rattle.golden_shelf.specs.Shelves.{Kept, ShelfState, KeepsTrail as KeepsTrail}
use Rattle.lei_values.specs.declared.no_memory.NoMemory.{NoMemory}
use Rattle.upload_ledger.specs.History.{is_publication}
use Rattle.register_state.specs.Books.{office_with_entry}
use Rattle.register_state.specs.declared.decision.Decision.{Decision}
use Rattle.register_state.specs.declared.decision.Decision.TheVariants.{Adds, Stays}
use Rattle.register_history.specs.Publications.{trail}
use Rattle.register_history.specs.State.{OfficeState}

-- a shelf keeps the publications of this office's history
abbrev pub IsShelved : OfficeState → Kept → Type 0
IsShelved office kept = KeepsTrail (trail office) kept

-- what a shelf returns to if an entry isn't kept: what it had before a publication, or what it has if the entry is
-- another
abbrev pub back_to : Bool → ShelfState → Option Kept
back_to true shelf = shelf.before
back_to false shelf = Some shelf.now

-- If an entry is to be added, the shelf keeps the publications of the history with it. It returns to what it kept
-- before if the entry isn't kept. If no entry is to be added, it keeps what it kept.
abbrev pub Shelves : OfficeState → ShelfState → Result Decision NoMemory → ShelfState → Type 0
Shelves office old (Ok (Stays reply)) new = new.now ≡ old.now
Shelves office old (Ok (Adds entry list)) new =
    IsShelved (office_with_entry office entry) new.now × (back_to (is_publication entry) new ≡ Some old.now)
Shelves office old (Err wanted) new = new.now ≡ old.now
