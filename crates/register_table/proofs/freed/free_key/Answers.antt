use Rattle.std.proofs.Common.{◌≡◌, None, rules}
use Rattle.lei_records.specs.Tables.{holder_of}
use Rattle.register_table.specs.Held.{rows}
use Rattle.register_table.proofs.FreedLemmas.{freed_key}
use Rattle.register_table.proofs.freed.free_key.Goals as goal

pub returns-then-is_none-clause-parts : goal.returns-then-is_none-clause-parts
returns-then-is_none-clause-parts c =
    let none : None ≡ holder_of (rows c.args.parts.now.cells) c.in-Some.authority.now c.in-Some.id.now = search rules in
    freed_key c.args.parts.now c.requires c.free.new.self c.in-Some.authority.now c.in-Some.id.now c.free.ensures none
