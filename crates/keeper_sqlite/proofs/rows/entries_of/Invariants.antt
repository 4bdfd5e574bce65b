use Rattle.std.proofs.Common.{◌≡◌, map, take}
use Rattle.store_statements.specs.Rows.{entry_row}
use Rattle.keeper_sqlite.proofs.rows.entries_of.Given as goal

-- the rows so far are those of the list
abbrev pub invariant-loop-row : goal.invariant-loop-row
invariant-loop-row l = map entry_row l.list.items ≡ take l.row-index l.rows
