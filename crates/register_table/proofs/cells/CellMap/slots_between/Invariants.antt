use Rattle.register_table.specs.Cells.{AreOwnCells, held_in, owned_slots}
use Rattle.register_table.proofs.StampLemmas.{AreAmong, AreFound, AreWithin}
use Rattle.register_table.proofs.cells.CellMap.slots_between.Given as goal

-- what was found is held and touched, all that the stamps so far lead to was found, and each slot is under its own key
abbrev pub invariant-loop-stamp : goal.invariant-loop-stamp
invariant-loop-stamp l = record {
  among : AreAmong l.self (held_in (owned_slots l.slots.entries));
  within : AreWithin l.after l.upto (held_in (owned_slots l.slots.entries));
  all : AreFound l.after l.upto l.self l.stamps l.stamp-index (held_in (owned_slots l.slots.entries));
  own : AreOwnCells (owned_slots l.slots.entries);
}
