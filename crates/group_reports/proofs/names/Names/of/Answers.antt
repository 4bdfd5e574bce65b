use Rattle.std.proofs.Common.{ap, sym, subst, ◌∙◌, zip}
use Rattle.group_reports.specs.Named.{AreNamed}
use Rattle.group_reports.proofs.NameLemmas.{are_named, names_are}
use Rattle.group_reports.proofs.names.Names.of.Goals as goal

pub invariant_of-result : goal.invariant_of-result
invariant_of-result c =
    subst (λ leis. AreNamed leis c.in_ok-texts.texts) (sym c.in_ok-leis.ensures)
    (subst (AreNamed _) (sym c.in_ok-texts.ensures) (are_named c.args.rows.now c.requires))

pub returns : goal.returns
returns c =
    ap (λ leis. zip leis c.in_ok-texts.texts) c.in_ok-leis.ensures
    ∙ (ap (zip _) c.in_ok-texts.ensures ∙ names_are c.args.rows.now)
