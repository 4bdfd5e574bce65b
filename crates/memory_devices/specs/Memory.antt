-- Sources, sinks and keepers in memory, as contracts see them.
use Rattle.std.specs.Prelude.{ℕ, List, [], ◌∷◌, ◌++◌, Bool, Contains}
use Rattle.std.specs.FinMap.{empty}
use Rattle.lei_values.specs.Count.{count_up}
use Rattle.std.specs.List.{AllByRecursion}
use Rattle.lei_values.specs.KeptTables.{IsEntryNumber, KeptTables, RiseFrom, put_cells}
use Rattle.lei_values.specs.declared.entry.KeptEntry.{KeptEntry}
use Rattle.lei_values.specs.declared.batch.Batch.{Batch}
use Rattle.lei_values.specs.declared.cell.KeptCell.{KeptCell}

-- A source in memory: the bytes that it has left, and the greatest number of bytes that a read gives. It also has the
-- numbers of the reads that fail, and how many reads there were and have failed.
pub record SourceState : Type 0 where
  pub left : List ℕ
  pub most : ℕ
  pub failing : List ℕ
  pub calls : ℕ
  pub faults : ℕ

-- A sink in memory: the bytes that were written, and the greatest number of bytes that a write takes. It also has the
-- numbers of the writes that fail, and how many writes there were and have failed.
pub record SinkState : Type 0 where
  pub written : List ℕ
  pub most : ℕ
  pub failing : List ℕ
  pub calls : ℕ
  pub faults : ℕ

-- A source in memory that never fails.
pub record SureSourceState : Type 0 where
  pub left : List ℕ
  pub most : ℕ

-- A sink in memory that never fails.
pub record SureSinkState : Type 0 where
  pub written : List ℕ
  pub most : ℕ

-- A link in memory: the source of its bytes, and the sink that they go to.
pub record LinkState : Type 0 where
  pub source : SourceState
  pub sink : SinkState

-- A door in memory: the links to come, those that came back, and whether one is out.
pub record DoorState : Type 0 where
  pub to_come : List LinkState
  pub back : List LinkState
  pub out : Bool

-- A keeper in memory that never fails: the entries, and each cell that was kept, in the order in which they came.
pub record SureKeeperState : Type 0 where
  pub entries : List KeptEntry
  pub cells : List KeptCell

-- Its tables: if several cells have one place, the last one is kept.
abbrev pub tables_of : SureKeeperState → KeptTables
tables_of keeper = record { entries = keeper.entries; cells = put_cells empty keeper.cells }

-- Cells that came, each touched by an entry.
abbrev pub AreOfEntries : List KeptCell → Type 0
AreOfEntries cells = AllByRecursion (λ cell. IsEntryNumber cell.touched) cells

-- Entries and cells that a keeper may have. The numbers of the entries are at least 1 and rise, and each cell was
-- touched by an entry.
abbrev pub MayBeKept : List KeptEntry → List KeptCell → Type 0
MayBeKept entries cells = RiseFrom 0 entries × AreOfEntries cells

-- What it keeps after a batch.
abbrev pub with_kept : Batch → SureKeeperState → SureKeeperState
with_kept batch keeper =
    record { entries = keeper.entries ++ batch.entry ∷ []; cells = keeper.cells ++ batch.cells }

-- A keeper in memory: what it keeps, the numbers of the calls that fail, and how many calls there were and have failed.
pub record MemoryKeeperState : Type 0 where
  pub kept : SureKeeperState
  pub failing : List ℕ
  pub calls : ℕ
  pub faults : ℕ

-- After this many calls, the next one is among those that fail. The first call has the number 1.
abbrev pub FailsNext : List ℕ → ℕ → Type 0
FailsNext failing calls = Contains failing (count_up calls)
