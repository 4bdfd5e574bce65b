use Rattle.std.proofs.Common.{◌≡◌, None, rules}
use Rattle.register_table.specs.Indexes.{holder_in}
use Rattle.register_table.proofs.HoldLemmas.{held_key}
use Rattle.register_table.proofs.freed.hold_key.Goals as goal

pub returns-in-Ok-clause-parts : goal.returns-in-Ok-clause-parts
returns-in-Ok-clause-parts c =
    let none : holder_in c.args.parts.now.holders c.in-Some.authority.now c.in-Some.id.now ≡ None = search rules in
    held_key c.args.parts.now c.in-Some.authority.now c.in-Some.id.now c.args.record.now c.in-Some.ensures c.requires.parts c.put.new.self none c.in-Ok.ensures.put
