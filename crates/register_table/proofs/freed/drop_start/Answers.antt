use Rattle.std.proofs.Common.{◌≡◌, true, false, rules}
use Rattle.lei_records.specs.Relations.{is_active}
use Rattle.register_table.specs.Parts.{all_marks, lei_marks}
use Rattle.register_table.proofs.FreedLemmas.{dropped_start, dropped_start_fewer, dropped_start_left, dropped_start_stays, no_start, own_start}
use Rattle.register_table.proofs.freed.drop_start.Goals as goal

pub returns-then-is_active-clause-parts : goal.returns-then-is_active-clause-parts
returns-then-is_active-clause-parts c =
    dropped_start c.args.parts.now c.requires c.drop_freed.new.self c.start.result c.kind.result c.drop_freed.ensures

pub returns-then-is_active-clause-taken : goal.returns-then-is_active-clause-taken
returns-then-is_active-clause-taken c =
    dropped_start_stays c.args.parts.now c.requires c.drop_freed.new.self c.start.result c.kind.result c.drop_freed.ensures

pub returns-then-is_active-clause-fewer : goal.returns-then-is_active-clause-fewer
returns-then-is_active-clause-fewer c =
    dropped_start_fewer c.args.parts.now c.requires c.drop_freed.new.self c.start.result c.kind.result c.drop_freed.ensures

pub returns-then-is_active-clause-left : goal.returns-then-is_active-clause-left
returns-then-is_active-clause-left c =
    let active : is_active c.args.relation.now ≡ true = search rules in
    dropped_start_left c.args.parts.now c.requires c.drop_freed.new.self c.start.result c.kind.result c.drop_freed.ensures c.args.relation.now
    (own_start c.args.relation.now c.start.result c.kind.result c.start.ensures.value c.kind.ensures active)

pub returns-else-is_active-clause-left : goal.returns-else-is_active-clause-left
returns-else-is_active-clause-left c =
    let idle : is_active c.args.relation.now ≡ false = search rules in
    no_start (all_marks c.args.parts.now) (lei_marks c.args.parts.now) c.args.relation.now idle
