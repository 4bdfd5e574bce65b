use Rattle.std.proofs.Common.{Some, None, string_bytes, ap, cond, ◌∙◌}
use Rattle.std.specs.Str.{bytes_eq}
use Rattle.register_table.proofs.IndexLemmas.{lei_under-changed, text_at-empty, text_at-update}
use Rattle.register_table.proofs.long_key_index.LongKeyIndex.note_first.Goals as goal

pub returns-clause-put : goal.returns-clause-put
returns-clause-put c =
    lei_under-changed c.args.self.now.map c.insert.new.self c.args.authority.now None c.note_id.new.ids c.requires
    (text_at-update c.args.self.now.map c.insert.new.self (string_bytes c.in_ok-authority.authority) c.args.authority.now (Some c.note_id.new.ids)
    c.in_ok-authority.ensures.ok c.in_ok-insert.ensures.updates)
    c.args.id.now (λ _. Some (Some c.args.lei))
    (λ i. c.in_ok-note_id.ensures.put i ∙ ap (cond (bytes_eq c.args.id.now i) (Some (Some c.args.lei))) (text_at-empty c.new-ids.result c.new-ids.ensures.empty i))
