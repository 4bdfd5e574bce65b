use Rattle.std.proofs.Common.{◌≡◌, true, false, rules, ap, ◌∙◌}
use Rattle.lei_shapes.specs.Lists.{relation_type_text}
use Rattle.lei_records.specs.Relations.{is_active, kind_in, start_in}
use Rattle.register_table.specs.Indexes.{end_in_index}
use Rattle.register_table.proofs.IndexLemmas.{end_noted, end_stays, idle_same, no_end, own_end}
use Rattle.register_table.proofs.ends.Ends.put.Goals as goal

pub returns-then-not-is_active-clause-put : goal.returns-then-not-is_active-clause-put
returns-then-not-is_active-clause-put c =
    let idle : is_active c.args.relation.now ≡ false = search rules in idle_same c.args.relation.now (end_in_index c.args.self.now) idle

pub returns-in-Ok-clause-put : goal.returns-in-Ok-clause-put
returns-in-Ok-clause-put c =
    let active : is_active c.args.relation.now ≡ true = search rules in
    end_noted c.args.self.now.map c.insert.new.self (c.start.result, c.text.result) c.args.relation.now c.end.result
    c.start.ensures.value (c.text.ensures ∙ ap relation_type_text c.kind.ensures) c.end.ensures active c.in-Ok.ensures.updates

pub returns-in-Ok-clause-stays : goal.returns-in-Ok-clause-stays
returns-in-Ok-clause-stays c =
    let active : is_active c.args.relation.now ≡ true = search rules in
    end_stays c.args.self.now.map c.insert.new.self (c.start.result, c.text.result) c.args.relation.now c.end.result
    c.start.ensures.value (c.text.ensures ∙ ap relation_type_text c.kind.ensures) c.end.ensures active c.in-Ok.ensures.updates

pub returns-in-Err-clause-absent : goal.returns-in-Err-clause-absent
returns-in-Err-clause-absent c =
    let active : is_active c.args.relation.now ≡ true = search rules in
    let texts = c.text.ensures ∙ ap relation_type_text c.kind.ensures in
    let row = c.args.relation.now in
    record {
      start = start_in row;
      kind = kind_in row;
      active = own_end c.args.self.now.map c.insert.new.self (c.start.result, c.text.result) row c.end.result c.start.ensures.value texts c.end.ensures active;
      none = no_end c.args.self.now.map c.insert.new.self (c.start.result, c.text.result) row c.end.result c.start.ensures.value texts c.end.ensures active c.in-Err.ensures.absent;
    }
