use Rattle.std.proofs.Common.{◌≡◌, ◌++◌, map}
use Rattle.std.specs.List.{filter}
use Rattle.register_table.specs.Cells.{AreOwnCells, AreOwnItems, under_texts}
use Rattle.register_table.specs.Touched.{cell_under_key, is_touched}
use Rattle.register_table.proofs.cells.touched_among.Given as goal

-- the list so far, followed by the touched cells that are left, is all touched cells; each item is under its own key
abbrev pub invariant-loop-key : goal.invariant-loop-key
invariant-loop-key l = record {
  told : map cell_under_key l.list.items ++ filter (λ cell. is_touched l.after l.upto cell.1) (map under_texts l.key-iterator)
      ≡ filter (λ cell. is_touched l.after l.upto cell.1) (map under_texts l.cells.entries);
  own : AreOwnItems l.list.items;
  left : AreOwnCells l.key-iterator;
}
