use Rattle.successor_rules.proofs.AgreeLemmas.{agreeing-tells}
use Rattle.successor_rules.proofs.ViewLemmas.{spread-whole}
use Rattle.successor_rules.proofs.laws.agreeing_views_tell_the_levels.Goals as goal

pub returns-clause-agreeing : goal.returns-clause-agreeing
returns-clause-agreeing c = agreeing-tells

pub returns-clause-whole : goal.returns-clause-whole
returns-clause-whole c = spread-whole
