use Rattle.std.proofs.Common.{◌≡◌, Some, refl, rules}
use Rattle.std.specs.BTreeMap.{get_by_text}
use Rattle.register_table.specs.Indexes.{after_freeing}
use Rattle.register_table.proofs.IndexLemmas.{lei_under-changed, text_at-update}
use Rattle.register_table.proofs.long_key_index.LongKeyIndex.free.Goals as goal

pub returns-in-Some : goal.returns-in-Some
returns-in-Some c =
    let was : get_by_text c.args.self.now.map c.args.authority.now ≡ Some c.in-Some.ids.now = search rules in
    let ids = c.free_id.new.ids in
    let after = c.get_mut.follows.lender ids in
    lei_under-changed c.args.self.now.map after c.args.authority.now (Some c.in-Some.ids.now) ids was
    (text_at-update c.args.self.now.map after c.args.authority.now c.args.authority.now (Some ids) refl ((c.get_mut.follows.holds ids).3 (search rules)))
    c.args.id.now after_freeing c.free_id.ensures
