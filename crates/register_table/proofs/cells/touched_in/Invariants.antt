use Rattle.std.proofs.Common.{◌≡◌, ◌++◌, map}
use Rattle.register_table.specs.Cells.{AreOwnCells, AreOwnItems, owned_slots, under_texts}
use Rattle.register_table.specs.Touched.{cell_under_key}
use Rattle.register_table.proofs.cells.touched_in.Given as goal

-- the list so far, followed by the slots that are left, is all slots; each item is under its own key
abbrev pub invariant-loop-key : goal.invariant-loop-key
invariant-loop-key l = record {
  told : map cell_under_key l.list.items ++ map under_texts (owned_slots l.key-iterator) ≡ map under_texts (owned_slots l.slots.entries);
  own : AreOwnItems l.list.items;
  left : AreOwnCells (owned_slots l.key-iterator);
}
