use Rattle.std.proofs.Common.{◌≡◌, Some, rules}
use Rattle.std.proofs.lemmas.Result.{on_ok_weaker}
use Rattle.register_judge.specs.Overlays.{ids_at}
use Rattle.register_judge.proofs.MapLemmas.{ids_at-update, long_taker_at-insert}
use Rattle.register_judge.proofs.takers.insert_long.Goals as goal

pub returns-in-Some : goal.returns-in-Some
returns-in-Some c =
    let old = c.args.long.now in
    let authority = c.args.authority.now in
    let was : ids_at old authority ≡ Some c.in-Some.ids.now = search rules in
    let more = c.insert_id.new.ids in
    let after = c.get_mut.follows.lender more in
    on_ok_weaker c.insert_id.result
    (λ with_id. long_taker_at-insert old after (Some c.in-Some.ids.now) more authority c.args.id.now c.args.lei was with_id
    (ids_at-update old after authority (Some more) ((c.get_mut.follows.holds more).3 (search rules))))
    c.insert_id.ensures
