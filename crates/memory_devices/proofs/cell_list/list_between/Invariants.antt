use Rattle.std.proofs.Common.{◌≡◌, ◌++◌, map}
use Rattle.memory_devices.specs.CellLists.{between_of, content_at}
use Rattle.memory_devices.proofs.cell_list.list_between.Given as goal

-- what was told, with what is left to tell, is what all tell
abbrev pub invariant-loop-place : goal.invariant-loop-place
invariant-loop-place l =
    l.list.items ++ between_of l.after l.upto (map content_at l.place-iterator) ≡ between_of l.after l.upto (map content_at l.places.entries)
