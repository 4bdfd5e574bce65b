use Rattle.std.proofs.Common.{◌∙◌}
use Rattle.successor_rules.proofs.StageLemmas.{cut_full}
use Rattle.successor_rules.proofs.found.Found.add_all.Goals as goal

pub returns-then-not-add-clause-cut : goal.returns-then-not-add-clause-cut
returns-then-not-add-clause-cut c =
    let stays = c.if-not-add.ensures.stays in
    stays.0 ∙ cut_full c.args.own.now c.loop-lei.self _ c.args.leis.now c.loop-lei.lei-index c.loop-lei.invariant stays.1
