use Rattle.std.proofs.Common.{◌-◌, ◌-ℤ◌, pos, cond, Some, ap, arith, sym, take, ◌∙◌}
use Rattle.std.proofs.lemmas.List.{take_all}
use Rattle.golden_shelf.specs.Bases.{last_until, moments_in}
use Rattle.golden_shelf.proofs.BaseLemmas.{until_step}
use Rattle.golden_shelf.proofs.bases.last_until.Goals as goal

pub loop-index-init : goal.loop-index-init
loop-index-init c = ap (λ l. last_until (c.args.latest -ℤ pos c.args.seconds) (moments_in l)) (take_all _ c.args.issues.now (omega arith))

pub returns-then-is_older : goal.returns-then-is_older
returns-then-is_older c =
    let n = c.loop-index.index in
    let some = c.loop-index-test.true in
    let most = c.loop-index.auto.index in
    let bound = c.args.latest -ℤ pos c.args.seconds in
    ap Some (omega (arith, some))
    ∙ sym (until_step bound c.args.issues.now n c.index-issues-index.result some most c.index-issues-index.is
    ∙ ap (λ b. cond b (Some n) (last_until bound (moments_in (take (n - 1) c.args.issues.now)))) (sym c.is_older.ensures ∙ c.if-is_older.true))
    ∙ c.loop-index.invariant

pub loop-index-preserved : goal.loop-index-preserved
loop-index-preserved c =
    let n = c.loop-index.index in
    let some = c.loop-index-test.true in
    let most = c.loop-index.auto.index in
    let bound = c.args.latest -ℤ pos c.args.seconds in
    sym (until_step bound c.args.issues.now n c.index-issues-index.result some most c.index-issues-index.is
    ∙ ap (λ b. cond b (Some n) (last_until bound (moments_in (take (n - 1) c.args.issues.now)))) (sym c.is_older.ensures ∙ c.if-is_older.false))
    ∙ c.loop-index.invariant
