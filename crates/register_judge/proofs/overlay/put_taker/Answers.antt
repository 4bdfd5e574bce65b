use Rattle.std.specs.Prelude.{◌≡◌, Some, None, true, cond}
use Rattle.std.proofs.Common.{rules, sym, ap}
use Rattle.std.proofs.lemmas.Result.{on_ok_weaker}
use Rattle.lei_records.specs.Cells.{lei_in, is_live, akey}
use Rattle.register_judge.specs.Overlays.{taker_at}
use Rattle.register_judge.proofs.OverlayLemmas.{holds-dead, holds-no_key, taker_at-key}
use Rattle.register_judge.proofs.overlay.put_taker.Goals as goal

pub returns-then-not-is_live : goal.returns-then-not-is_live
returns-then-not-is_live c = λ authority id.
    sym (ap (λ b. cond b (Some (lei_in c.args.item.now)) (taker_at c.args.takers.now authority id)) (holds-dead c.args.item.now authority id (search rules)))

pub returns-in-Some : goal.returns-in-Some
returns-in-Some c =
    let live : is_live c.args.item.now ≡ true = search rules in
    let key : Some (c.in-Some.authority.now, c.in-Some.id.now) ≡ akey c.args.item.now = search rules in
    on_ok_weaker c.insert.result
    (taker_at-key c.args.item.now (c.in-Some.authority.now, c.in-Some.id.now) c.lei.result c.args.takers.now c.insert.new.self live key c.lei.ensures.value)
    c.insert.ensures

pub returns-in-None : goal.returns-in-None
returns-in-None c = λ authority id.
    let none : None ≡ akey c.args.item.now = search rules in
    sym (ap (λ b. cond b (Some (lei_in c.args.item.now)) (taker_at c.args.takers.now authority id)) (holds-no_key c.args.item.now authority id none))
