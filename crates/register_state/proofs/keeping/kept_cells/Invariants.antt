use Rattle.std.proofs.Common.{◌≡◌, map, take}
use Rattle.std.specs.List.{AllByRecursion}
use Rattle.register_history.specs.Kept.{IsKey, kept_cell}
use Rattle.register_state.proofs.keeping.kept_cells.Given as goal

abbrev pub invariant-loop-told : goal.invariant-loop-told
invariant-loop-told l = record {
  cells : l.cells.items ≡ map kept_cell (take l.told-index l.touched);
  keys : AllByRecursion (λ told. IsKey told.key) (take l.told-index l.touched);
}
