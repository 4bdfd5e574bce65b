use Rattle.std.proofs.Common.{◌≡◌, rules, ◌∙◌}
use Rattle.authority_rules.specs.Taken as Taken
use Rattle.authority_rules.proofs.HolderLemmas.{taken-over_table}
use Rattle.authority_rules.proofs.keys.taken.Goals as goal

pub returns-clause-over_tables : goal.returns-clause-over_tables
returns-clause-over_tables g c = λ table sound same.
    let answered : c.unless_own.result ≡ Taken.taken (g.V.View.cells c.args.view.now) c.args.item.now = search rules in
    answered ∙ taken-over_table (g.V.View.cells c.args.view.now) table c.args.item.now sound same
