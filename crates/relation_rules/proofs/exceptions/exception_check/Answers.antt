use Rattle.std.proofs.Common.{sym, ap, ◌∙◌}
use Rattle.relation_rules.specs.Checking as Checking
use Rattle.relation_rules.proofs.CheckLemmas.{check_exception-cells}
use Rattle.relation_rules.proofs.NeedLemmas.{exception_told}
use Rattle.relation_rules.proofs.exceptions.exception_check.Goals as goal

pub returns-clause-lacking : goal.returns-clause-lacking
returns-clause-lacking g c = λ key is.
    (exception_told (g.V.View.cells c.args.view.now) c.args.item.now.0 key c.args.issuer.now c.args.item.now.1 (sym c.check_exception.ensures ∙ is)).0

pub returns-clause-named : goal.returns-clause-named
returns-clause-named g c = λ key is.
    (exception_told (g.V.View.cells c.args.view.now) c.args.item.now.0 key c.args.issuer.now c.args.item.now.1 (sym c.check_exception.ensures ∙ is)).1

pub returns-clause-over_tables : goal.returns-clause-over_tables
returns-clause-over_tables g c = λ table sound same.
    c.check_exception.ensures ∙ (ap (λ cells. Checking.check_exception cells c.args.issuer.now c.args.item.now) same
    ∙ check_exception-cells table c.args.issuer.now c.args.item.now)
