use Rattle.std.proofs.Common.{◌≡◌, ◌≤◌}
use Rattle.lei_shapes.specs.Shape.{between_spaces, is_codes}
use Rattle.lei_shapes.proofs.CodeLemmas.{fit}
use Rattle.lei_shapes.proofs.codes.are_codes.Given as goal

-- the texts that are left fit after the codes so far if and only if the whole text does
abbrev pub invariant-loop : goal.invariant-loop
invariant-loop l = record {
  rest : fit l.counter (between_spaces l.left) ≡ is_codes l.text;
  few : l.counter ≤ 5;
}
