use Rattle.std.proofs.Common.{ap, ◌∙◌}
use Rattle.successor_rules.specs.Successors as OverViews
use Rattle.successor_rules.proofs.ViewLemmas.{walk_by_levels-over_table}
use Rattle.successor_rules.proofs.branches.walk_by_levels.Goals as goal

pub returns-clause-over_tables : goal.returns-clause-over_tables
returns-clause-over_tables g c = λ table same.
    c.spread_from.ensures ∙ (ap (λ cells. OverViews.walk_by_levels cells c.args.own.now c.args.from.now) same
    ∙ walk_by_levels-over_table table c.args.own.now c.args.from.now)
