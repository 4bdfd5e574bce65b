use Rattle.std.proofs.Common.{◌≡◌, ◌≤◌, IsSome, drop}
use Rattle.register_judge.specs.Judging.{put_writes}
use Rattle.register_judge.specs.Overlays.{overlay_view}
use Rattle.register_judge.proofs.ReadLemmas.{Admits, IsSoFar}
use Rattle.register_judge.proofs.judging.judge_each.Given as goal

-- what was judged so far, followed by the judgement of the items left, is the judgement of all, over each view that
-- answers what was noted
abbrev pub invariant-loop-item : goal.invariant-loop-item
invariant-loop-item g l = record {
  so_far : IsSoFar l.progress.noted (g.V.View.cells l.view) l.sitting l.progress.added l.progress.verdicts.items l.progress.writes.items
      l.progress.new_records (drop l.item-index l.items) l.items;
  admitted : Admits l.progress.noted (g.V.View.cells l.view) (g.V.View.cells l.view);
  listed : IsSome l.fn.noted → IsSome l.progress.noted;
  over : overlay_view g.V.View.cells l.overlay ≡ put_writes l.progress.writes.items (g.V.View.cells l.view);
  few : l.progress.new_records ≤ l.item-index;
  few_added : l.progress.added ≤ l.item-index;
}
