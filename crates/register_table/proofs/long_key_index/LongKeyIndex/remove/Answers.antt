use Rattle.std.proofs.Common.{None, refl, ◌∙◌}
use Rattle.register_table.proofs.IndexLemmas.{same_without, text_at-update}
use Rattle.register_table.proofs.long_key_index.LongKeyIndex.remove.Goals as goal

pub returns-then-remove_id : goal.returns-then-remove_id
returns-then-remove_id c a i =
    let old = c.remove_id.new.self.map in
    let authority = c.args.authority.now in
    same_without old c.remove.new.self authority c.if-remove_id.ensures.last
    (text_at-update old c.remove.new.self authority authority None refl c.remove.ensures.updates) a i
    ∙ c.remove_id.ensures.removed a i
