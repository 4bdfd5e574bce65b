use Rattle.std.specs.Prelude.{Some, refl}
use Rattle.std.proofs.Common.{rules}
use Rattle.register_table.proofs.IndexLemmas.{text_at-update}
use Rattle.register_table.proofs.long_key_index.note_id.Goals as goal

pub returns-in-Some-clause-put : goal.returns-in-Some-clause-put
returns-in-Some-clause-put c =
    text_at-update c.args.ids.now (c.get_mut.follows.lender (Some c.args.lei)) c.args.id.now c.args.id.now (Some (Some c.args.lei)) refl ((c.get_mut.follows.holds (Some c.args.lei)).3 (search rules))
