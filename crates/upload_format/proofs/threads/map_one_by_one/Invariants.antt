use Rattle.std.proofs.Common.{Ok, drop}
use Rattle.std.specs.Fn.{FnReturnsAt}
use Rattle.upload_format.proofs.InThreads.{MadeSoFar}
use Rattle.upload_format.proofs.threads.map_one_by_one.Given as goal

abbrev pub invariant-loop-item : goal.invariant-loop-item
invariant-loop-item g l = MadeSoFar (λ x u. FnReturnsAt g.F.Fn l.work x (Ok u)) l.items (drop l.item-index l.items) l.made.items
