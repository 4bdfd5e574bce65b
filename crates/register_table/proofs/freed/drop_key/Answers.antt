use Rattle.register_table.proofs.FreedLemmas.{dropped_key}
use Rattle.register_table.proofs.freed.drop_key.Goals as goal

pub returns-in-Some-clause-parts : goal.returns-in-Some-clause-parts
returns-in-Some-clause-parts c =
    dropped_key c.args.parts.now c.requires c.drop_freed.new.self c.in-Some.authority.now c.in-Some.id.now c.drop_freed.ensures
