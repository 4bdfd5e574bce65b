use Rattle.std.specs.Prelude.{Some, string_bytes, refl}
use Rattle.register_table.proofs.IndexLemmas.{text_at-update}
use Rattle.register_table.proofs.long_key_index.insert_id.Goals as goal

pub returns-clause-put : goal.returns-clause-put
returns-clause-put c =
    text_at-update c.args.ids.now c.insert.new.self (string_bytes c.args.id) (string_bytes c.args.id) (Some (Some c.args.lei)) refl c.in_ok-insert.ensures.updates
