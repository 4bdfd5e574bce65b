use Rattle.std.proofs.Common.{refl}
use Rattle.lei_records.specs.declared.rules.Rules.{Rules}
use Rattle.item_fields.specs.Fields.{fields}
use Rattle.item_fields.proofs.RowLemmas.{no_event}
use Rattle.item_fields.proofs.laws.events_come_with_the_third_rules.Goals as goal

pub returns-clause-first : goal.returns-clause-first
unfolding fields
returns-clause-first c pairs is = no_event Rules.First refl refl refl refl pairs is

pub returns-clause-second : goal.returns-clause-second
unfolding fields
returns-clause-second c pairs is = no_event Rules.Second refl refl refl refl pairs is
