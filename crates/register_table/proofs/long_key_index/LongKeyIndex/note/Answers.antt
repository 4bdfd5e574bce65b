use Rattle.std.proofs.Common.{◌≡◌, Some, refl}
use Rattle.std.specs.BTreeMap.{get_by_text}
use Rattle.std.proofs.Common.{rules}
use Rattle.std.proofs.lemmas.Result.{on_ok_weaker, on_err_weaker}
use Rattle.register_table.proofs.IndexLemmas.{lei_under-changed, lei_under-same, text_at-update}
use Rattle.register_table.proofs.long_key_index.LongKeyIndex.note.Goals as goal

pub returns-in-Some-clause-put : goal.returns-in-Some-clause-put
returns-in-Some-clause-put c =
    let was : get_by_text c.args.self.now.map c.args.authority.now ≡ Some c.in-Some.ids.now = search rules in
    let after = c.get_mut.follows.lender c.note_id.new.ids in
    on_ok_weaker c.note_id.result
    (lei_under-changed c.args.self.now.map after c.args.authority.now (Some c.in-Some.ids.now) c.note_id.new.ids was
    (text_at-update c.args.self.now.map after c.args.authority.now c.args.authority.now (Some c.note_id.new.ids) refl ((c.get_mut.follows.holds c.note_id.new.ids).3 (search rules)))
    c.args.id.now (λ _. Some (Some c.args.lei)))
    c.note_id.ensures.put

pub returns-in-Some-clause-err : goal.returns-in-Some-clause-err
returns-in-Some-clause-err c =
    let was : get_by_text c.args.self.now.map c.args.authority.now ≡ Some c.in-Some.ids.now = search rules in
    let after = c.get_mut.follows.lender c.note_id.new.ids in
    on_err_weaker c.note_id.result
    (lei_under-same c.args.self.now.map after c.args.authority.now (Some c.in-Some.ids.now) c.note_id.new.ids was
    (text_at-update c.args.self.now.map after c.args.authority.now c.args.authority.now (Some c.note_id.new.ids) refl ((c.get_mut.follows.holds c.note_id.new.ids).3 (search rules))))
    c.note_id.ensures.err
