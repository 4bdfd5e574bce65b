use Rattle.std.proofs.Common.{sym, ap, ◌∙◌}
use Rattle.relation_rules.specs.Checking as Checking
use Rattle.relation_rules.proofs.CheckLemmas.{check_relation-cells}
use Rattle.relation_rules.proofs.NeedLemmas.{relation_told}
use Rattle.relation_rules.proofs.relations.relation_check.Goals as goal

pub returns-clause-lacking : goal.returns-clause-lacking
returns-clause-lacking g c = λ key is.
    (relation_told (g.V.View.cells c.args.view.now) c.args.item.now key c.args.issuer.now (sym c.check_relation.ensures ∙ is)).0

pub returns-clause-needed : goal.returns-clause-needed
returns-clause-needed g c = λ key is.
    (relation_told (g.V.View.cells c.args.view.now) c.args.item.now key c.args.issuer.now (sym c.check_relation.ensures ∙ is)).1

pub returns-clause-over_tables : goal.returns-clause-over_tables
returns-clause-over_tables g c = λ table sound same.
    c.check_relation.ensures ∙ (ap (λ cells. Checking.check_relation cells c.args.issuer.now c.args.item.now) same
    ∙ check_relation-cells table c.args.issuer.now c.args.item.now sound.actives)
