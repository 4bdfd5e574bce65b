use Rattle.std.proofs.Common.{ap, ◌∙◌}
use Rattle.successor_rules.specs.Successors as Successors
use Rattle.successor_rules.proofs.WalkLemmas.{walk-over_table}
use Rattle.successor_rules.proofs.successors.walk.Goals as goal

-- src/successors.rt:54:1
pub returns-clause-over_tables : goal.returns-clause-over_tables
returns-clause-over_tables g c = λ table same.
    c.follow.ensures ∙ ap (λ cells. Successors.walk cells c.args.avoid.now c.args.from.now) same
    ∙ walk-over_table table c.args.avoid.now c.args.from.now
