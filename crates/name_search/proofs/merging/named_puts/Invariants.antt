use Rattle.std.proofs.Common.{◌≡◌, ◌+◌, ◌≤◌, take}
use Rattle.name_search.specs.Puts.{put_names}
use Rattle.name_search.proofs.merging.named_puts.Given as goal

-- the rows that the changes so far put were built, in one step each
abbrev pub invariant-loop-change : goal.invariant-loop-change
invariant-loop-change g l = record {
  names : l.made.items ≡ put_names (take l.change-index l.changes);
  steps : l.steps ≤ l.fn.steps + l.change-index;
  stay : l.fn.steps ≤ l.steps;
}
