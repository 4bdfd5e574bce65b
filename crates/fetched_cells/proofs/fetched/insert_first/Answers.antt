use Rattle.std.proofs.Common.{Some, None, string_bytes, ap, cond, ◌∙◌}
use Rattle.std.specs.Str.{bytes_eq}
use Rattle.fetched_cells.proofs.MapLemmas.{text_at-empty, text_at-update, texts_at-insert}
use Rattle.fetched_cells.proofs.fetched.insert_first.Goals as goal

pub returns-clause-put : goal.returns-clause-put
returns-clause-put c =
    let id = string_bytes c.args.id in
    texts_at-insert c.args.holders.now c.insert.new.self None c.insert_id.new.ids c.args.authority.now id c.args.found c.requires
    (λ i. c.in_ok-insert_id.ensures.put i ∙ ap (cond (bytes_eq id i) (Some c.args.found)) (text_at-empty c.new-ids.result c.new-ids.ensures.empty i))
    (text_at-update c.args.holders.now c.insert.new.self (string_bytes c.in_ok-authority.authority) c.args.authority.now c.insert_id.new.ids
    c.in_ok-authority.ensures.ok c.in_ok-insert.ensures.updates)
