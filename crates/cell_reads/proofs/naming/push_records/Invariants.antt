use Rattle.std.proofs.Common.{◌≡◌, ◌++◌, map, take}
use Rattle.lei_records.specs.declared.view.CellKey.{CellKey}
use Rattle.cell_reads.proofs.naming.push_records.Given as goal

-- the keys of the records before this one were appended
abbrev pub invariant-loop-lei : goal.invariant-loop-lei
invariant-loop-lei l = l.keys.items ≡ l.fn.keys.items ++ map CellKey.Rec (take l.lei-index l.leis)
