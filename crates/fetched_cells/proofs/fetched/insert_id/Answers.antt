use Rattle.std.specs.Prelude.{string_bytes, refl}
use Rattle.fetched_cells.proofs.MapLemmas.{text_at-update}
use Rattle.fetched_cells.proofs.fetched.insert_id.Goals as goal

pub returns-clause-put : goal.returns-clause-put
returns-clause-put c =
    text_at-update c.args.ids.now c.insert.new.self (string_bytes c.args.id) (string_bytes c.args.id) c.args.found refl c.in_ok-insert.ensures.updates
