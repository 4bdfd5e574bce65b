use Rattle.std.proofs.Common.{◌≡◌, true, false, None, is_some, rules, sym, ◌∙◌}
use mathlib.Core.Bool.{true≢false}
use Rattle.lei_records.specs.Relations.{is_active}
use Rattle.register_table.specs.Indexes.{end_in_index}
use Rattle.register_table.proofs.FreedLemmas.{own_start}
use Rattle.register_table.proofs.HoldLemmas.{held_start, start_taken}
use Rattle.register_table.proofs.IndexLemmas.{active-idle}
use Rattle.register_table.proofs.freed.hold_start.Goals as goal

pub returns-in-Ok-clause-parts : goal.returns-in-Ok-clause-parts
returns-in-Ok-clause-parts c =
    let active : is_active c.args.relation.now ≡ true = search rules in
    let none : end_in_index c.args.parts.now.ends c.start-start.result c.kind-kind.result ≡ None = search rules in
    held_start c.args.parts.now c.start-start.result c.kind-kind.result c.args.relation.now
    (own_start c.args.relation.now c.start-start.result c.kind-kind.result c.start-start.ensures.value c.kind-kind.ensures active)
    c.requires.parts c.put.new.self none c.in-Ok.ensures.put

pub returns-else-is_none-clause-held : goal.returns-else-is_none-clause-held
returns-else-is_none-clause-held c =
    let active : is_active c.args.relation.now ≡ true = search rules in
    let some : is_some (end_in_index c.args.parts.now.ends c.start-start.result c.kind-kind.result) ≡ true = search rules in
    start_taken c.args.parts.now c.start-start.result c.kind-kind.result c.args.relation.now
    (own_start c.args.relation.now c.start-start.result c.kind-kind.result c.start-start.ensures.value c.kind-kind.ensures active) some

pub returns-else-is_active-clause-held : goal.returns-else-is_active-clause-held
returns-else-is_active-clause-held c start kind active =
    let idle : is_active c.args.relation.now ≡ false = search rules in
    absurd (true≢false (sym active ∙ active-idle c.args.relation.now start kind idle))
