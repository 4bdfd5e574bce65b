-- Counts: how many rows of each kind a table has.
use Rattle.std.specs.Prelude.{◌≡◌, ℕ, ◌+◌, ◌-◌, ◌^◌, ◌<◌, Bool, true, false}
use Rattle.std.specs.FinMap.{len}
use Rattle.lei_records.specs.declared.view.RowKey.{RowKey}
use Rattle.lei_records.specs.Tables.{Table}
use Rattle.register_table.specs.declared.counts.Counts.{Counts}

-- A count after a change under one key, which had a row or not, and now has one or not.
abbrev pub count_step : Bool → Bool → ℕ → ℕ
count_step false true count = count + 1
count_step true false count = count - 1
count_step was is count = count

-- The counts after such a change: only that of the key's kind changes.
abbrev pub AreStepped : RowKey → Bool → Bool → Counts → Counts → Type 0
AreStepped (RowKey.Rec lei) was is old new = (new.records ≡ count_step was is old.records)
    × ((new.relations ≡ old.relations) × (new.exceptions ≡ old.exceptions))
AreStepped (RowKey.Rel start kind end) was is old new = (new.records ≡ old.records)
    × ((new.relations ≡ count_step was is old.relations) × (new.exceptions ≡ old.exceptions))
AreStepped (RowKey.Exc lei category) was is old new = (new.records ≡ old.records)
    × ((new.relations ≡ old.relations) × (new.exceptions ≡ count_step was is old.exceptions))

-- The counts are those of a table.
pub record AreCounts (counts : Counts) (table : Table) : Type 0 where
  pub records : counts.records ≡ len table.records
  pub relations : counts.relations ≡ len table.relations
  pub exceptions : counts.exceptions ≡ len table.exceptions

-- Each count can rise by one without overflow.
pub record CanRise (counts : Counts) : Type 0 where
  pub records : counts.records + 1 < 2 ^ 64
  pub relations : counts.relations + 1 < 2 ^ 64
  pub exceptions : counts.exceptions + 1 < 2 ^ 64
