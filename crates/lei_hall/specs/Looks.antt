-- Looks of a caller at the office of a hall.
use Rattle.std.specs.Prelude.{◌≡◌, List, Result, IfOk, take}
use Rattle.fetched_cells.specs.Fetching.{HasJust, fetched_keys}
use Rattle.fetched_cells.specs.Maps.{fetched_view}
use Rattle.fetched_cells.specs.declared.fetched.Fetched.{Fetched}
use Rattle.lei_values.specs.declared.no_memory.NoMemory.{NoMemory}
use Rattle.lei_records.specs.Tables.{Table, cells_of}
use Rattle.lei_records.specs.declared.view.CellKey.{CellKey}
use Rattle.register_history.specs.Legal.{Legal}
use Rattle.register_history.specs.Register.{after}
use Rattle.register_history.specs.State.{OfficeState}
use Rattle.turnstile.specs.Lists.{IsPrefix}
use Rattle.turnstile.specs.Passes.{with_seen}
use Rattle.lei_hall.specs.Passes.{HallPass, seen_by}

-- The table of an office.
abbrev pub office_table : OfficeState → Table
office_table office = after office.limits office.history

-- If memory didn't run out, this was fetched from an office for keys. It has the first 50,000 of the cells that are
-- fetched for them, and no others.
abbrev pub Fetches : OfficeState → List CellKey → Result Fetched NoMemory → Type 0
Fetches office keys fetched = IfOk fetched (λ f. HasJust (fetched_view f) (cells_of (office_table office))
    (take 50_000 (fetched_keys (cells_of (office_table office)) keys)))

-- A pass has seen the same history as before, or a longer one that starts with it. Nothing else of the pass has
-- changed.
pub record SeesMore (before after : HallPass) : Type 0 where
  pub seen : IsPrefix before.seen after.seen
  pub same : after ≡ with_seen before after.seen

-- A look of a pass, in which this was fetched for keys: from the office that the pass has seen afterwards, which is
-- legal. The pass was told nothing, and made no entry.
pub record Looks (before : HallPass) (keys : List CellKey) (fetched : Result Fetched NoMemory)
    (after : HallPass) : Type 0 where
  pub sees : SeesMore before after
  pub legal : Legal (seen_by after)
  pub cells : Fetches (seen_by after) keys fetched
