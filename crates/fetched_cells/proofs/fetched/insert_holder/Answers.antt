use Rattle.std.proofs.Common.{◌≡◌, Some, ap, cond, refl, rules, ◌∙◌}
use Rattle.std.specs.BTreeMap.{get_by_text}
use Rattle.std.specs.Str.{bytes_eq}
use Rattle.std.proofs.lemmas.Result.{on_err_weaker, on_ok_weaker}
use Rattle.fetched_cells.proofs.MapLemmas.{text_at-update, texts_at-insert, texts_at-same}
use Rattle.fetched_cells.proofs.fetched.insert_holder.Goals as goal

pub returns-in-Some-clause-put : goal.returns-in-Some-clause-put
returns-in-Some-clause-put c =
    let was : get_by_text c.args.holders.now c.args.authority.now ≡ Some c.in-Some.ids.now = search rules in
    let more = c.insert_id.new.ids in
    let after = c.get_mut.follows.lender more in
    on_ok_weaker c.insert_id.result
    (λ with_id. texts_at-insert c.args.holders.now after (Some c.in-Some.ids.now) more c.args.authority.now c.args.id.now c.args.found was
    (λ i. with_id i ∙ ap (λ id. cond (bytes_eq id i) (Some c.args.found) (get_by_text c.in-Some.ids.now i)) c.in_ok-id.ensures.ok)
    (text_at-update c.args.holders.now after c.args.authority.now c.args.authority.now more refl ((c.get_mut.follows.holds more).3 (search rules))))
    c.insert_id.ensures.put

pub returns-in-Some-clause-err : goal.returns-in-Some-clause-err
returns-in-Some-clause-err c =
    let was : get_by_text c.args.holders.now c.args.authority.now ≡ Some c.in-Some.ids.now = search rules in
    let more = c.insert_id.new.ids in
    let after = c.get_mut.follows.lender more in
    on_err_weaker c.insert_id.result
    (λ same. texts_at-same c.args.holders.now after (Some c.in-Some.ids.now) more c.args.authority.now was same
    (text_at-update c.args.holders.now after c.args.authority.now c.args.authority.now more refl ((c.get_mut.follows.holds more).3 (search rules))))
    c.insert_id.ensures.err
