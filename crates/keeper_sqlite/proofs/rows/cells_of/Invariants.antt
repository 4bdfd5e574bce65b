use Rattle.std.proofs.Common.{◌≡◌, map, take}
use Rattle.store_statements.specs.Rows.{cell_row}
use Rattle.keeper_sqlite.proofs.rows.cells_of.Given as goal

-- the rows so far are those of the list
abbrev pub invariant-loop-row : goal.invariant-loop-row
invariant-loop-row l = map cell_row l.list.items ≡ take l.row-index l.rows
