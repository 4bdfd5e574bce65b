use Rattle.std.proofs.Common.{◌≡◌, ◌++◌, drop, take}
use Rattle.std.specs.Prelude.{vec_capacity}
use Rattle.name_search.proofs.merging.move_rows.Given as goal

-- so many rows were moved
abbrev pub invariant-loop : goal.invariant-loop
invariant-loop l = record {
  out : l.out.items ≡ l.fn.out.items ++ take l.counter l.fn.rows.items;
  rows : l.rows.items ≡ drop l.counter l.fn.rows.items;
  capacity : vec_capacity l.out ≡ vec_capacity l.fn.out;
}
