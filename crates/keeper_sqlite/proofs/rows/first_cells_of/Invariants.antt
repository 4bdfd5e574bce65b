use Rattle.std.proofs.Common.{◌≡◌, ◌≤◌, map, take}
use Rattle.std.specs.List.{AllByRecursion}
use Rattle.store_tables.specs.Stored.{form_1}
use Rattle.keeper_sqlite.proofs.rows.first_cells_of.Given as goal

-- the cells so far are those of the rows
abbrev pub invariant-loop-row : goal.invariant-loop-row
invariant-loop-row l = (l.list.items ≡ map form_1.read (take l.row-index l.rows))
    × AllByRecursion (λ c. c.touched ≤ 9223372036854775807) l.list.items
