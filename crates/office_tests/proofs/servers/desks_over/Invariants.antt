use Rattle.std.specs.Prelude.{◌≡◌, false, length, All}
use Rattle.office_tests.proofs.servers.desks_over.Given as goal

abbrev pub invariant-loop-number : goal.invariant-loop-number
invariant-loop-number l = (length l.desks.items ≡ l._number) × All (λ desk. desk.door.out ≡ false) l.desks.items
