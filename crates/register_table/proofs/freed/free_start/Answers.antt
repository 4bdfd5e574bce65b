use Rattle.std.proofs.Common.{◌≡◌, true, false, None, is_some, rules}
use Rattle.lei_records.specs.Relations.{is_active}
use Rattle.lei_records.specs.Tables.{active_of}
use Rattle.register_table.specs.Held.{rows}
use Rattle.register_table.specs.Parts.{held_by, lei_marks}
use Rattle.register_table.proofs.FreedLemmas.{active_start_left, freed_start, freed_start_left, no_start, own_start}
use Rattle.register_table.proofs.freed.free_start.Goals as goal

pub returns-then-is_none-clause-parts : goal.returns-then-is_none-clause-parts
returns-then-is_none-clause-parts c =
    let none : None ≡ active_of (rows c.args.parts.now.cells) c.start-start.result c.kind-kind.result = search rules in
    freed_start c.args.parts.now c.requires c.free.new.self c.start-start.result c.kind-kind.result c.free.ensures none

pub returns-then-is_none-clause-left : goal.returns-then-is_none-clause-left
returns-then-is_none-clause-left c =
    let active : is_active c.args.relation.now ≡ true = search rules in
    freed_start_left c.args.parts.now c.requires c.free.new.self c.start-start.result c.kind-kind.result c.free.ensures c.args.relation.now
    (own_start c.args.relation.now c.start-start.result c.kind-kind.result c.start-start.ensures.value c.kind-kind.ensures active)

pub returns-else-is_none-clause-left : goal.returns-else-is_none-clause-left
returns-else-is_none-clause-left c =
    let active : is_active c.args.relation.now ≡ true = search rules in
    let some : is_some (active_of (rows c.args.parts.now.cells) c.start-start.result c.kind-kind.result) ≡ true = search rules in
    active_start_left c.args.parts.now c.start-start.result c.kind-kind.result c.args.relation.now
    (own_start c.args.relation.now c.start-start.result c.kind-kind.result c.start-start.ensures.value c.kind-kind.ensures active) some

pub returns-else-is_active-clause-left : goal.returns-else-is_active-clause-left
returns-else-is_active-clause-left c =
    let idle : is_active c.args.relation.now ≡ false = search rules in
    no_start (lei_marks c.args.parts.now) (held_by (rows c.args.parts.now.cells)) c.args.relation.now idle
