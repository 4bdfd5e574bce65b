-- Successors over a view, and what holds for a register's successors.
use Rattle.std.specs.Prelude.{◌≡◌, List, Option, Some, None, IsSome, slice_get}
use Rattle.std.specs.List.{Contains}
use Rattle.lei_code.specs.Texts.{Lei}
use Rattle.lei_records.specs.declared.view.CellKey.{CellKey}
use Rattle.lei_records.specs.declared.view.RecCell.{RecCell}
use Rattle.lei_records.specs.declared.view.Seen.{Seen}
use Rattle.lei_records.specs.Cells.{Cells, successors_in}
use Rattle.lei_records.specs.Rows.{Row}
use Rattle.lei_records.specs.Tables.{Table, row_at}
use Rattle.lei_records.specs.Walks.{successors_of}
use Rattle.successor_rules.specs.declared.walks.Walked.{Walked}
use Rattle.successor_rules.specs.Chains.{AllEnd}
use Rattle.successor_rules.specs.Levels.{spread_over}
use Rattle.successor_rules.specs.Walks.{walk_over}

-- What a view answers for the successor that a record names.
abbrev pub seen_successor : Option Lei → Seen Lei
seen_successor (Some lei) = Seen.Held lei
seen_successor None = Seen.Empty

-- The same if the view is asked for the record: none is named if no record is held.
abbrev pub successor_seen : Seen RecCell → Seen Lei
successor_seen (Seen.Held cell) = seen_successor (slice_get cell.successors 0)
successor_seen Seen.Empty = Seen.Empty
successor_seen Seen.Missing = Seen.Missing

-- The result of the walk of successors from the LEI `first`, for a record whose own LEI is `start`.
abbrev pub walk : Cells → Lei → Lei → Walked
walk cells start first = walk_over (λ lei. successor_seen (cells.record_cell lei)) CellKey.Rec start first

-- ---- if a record names several

-- What a view answers for the successors that a record names.
abbrev pub successors_seen : Seen RecCell → Seen (List Lei)
successors_seen (Seen.Held cell) = Seen.Held cell.successors
successors_seen Seen.Empty = Seen.Empty
successors_seen Seen.Missing = Seen.Missing

-- The result of the walk by levels from the successors that a record names, whose own LEI is this.
abbrev pub walk_by_levels : Cells → Lei → List Lei → Walked
walk_by_levels cells own first = spread_over (λ lei. successors_seen (cells.record_cell lei)) CellKey.Rec own first

-- ---- what holds for a register's successors

-- Each successor that a record names has a record itself, and each way along successors ends.
pub record SuccessorChainsEnd (table : Table) : Type 0 where
  pub held : (lei : Lei) (row : Row) (next : Lei) → row_at table lei ≡ Some row
      → Contains (successors_in row) next → IsSome (row_at table next)
  pub ends : AllEnd (successors_of table)
