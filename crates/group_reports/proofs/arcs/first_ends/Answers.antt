use Rattle.std.proofs.Common.{rules, ◌≤◌, length}
use Rattle.group_reports.specs.Arcs.{AreFirstEnds, first_end}
use Rattle.group_reports.specs.Places.{step_up}
use Rattle.group_reports.proofs.ArcLemmas.{ends_within, no_more_ends}
use Rattle.group_reports.proofs.arcs.first_ends.Goals as goal

pub returns-clause-within : goal.returns-clause-within
returns-clause-within c =
    let over : length c.args.arcs.now ≤ c.loop-arc.arc-index = search rules in
    let ends : AreFirstEnds c.args.count c.args.arcs.now c.args.kind c.loop-arc.ends.items = record {
      counted = c.loop-arc.invariant.counted;
      each = λ place. no_more_ends c.args.kind c.args.arcs.now c.loop-arc.arc-index place (step_up c.loop-arc.ends.items place)
          (first_end c.args.arcs.now c.args.kind place) over (c.loop-arc.invariant.each place);
    } in
    ends_within c.args.count c.args.kind c.args.arcs.now c.loop-arc.ends.items c.requires ends
