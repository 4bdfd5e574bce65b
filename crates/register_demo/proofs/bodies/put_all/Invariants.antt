use Rattle.std.proofs.Common.{◌≡◌, ◌++◌, flat_map, take}
use Rattle.register_demo.proofs.bodies.put_all.Given as goal

-- the pieces so far were appended
abbrev pub invariant-loop-piece : goal.invariant-loop-piece
invariant-loop-piece l = l.out.items ≡ l.fn.out.items ++ flat_map (λ piece. piece.now) (take l.piece-index l.pieces)
