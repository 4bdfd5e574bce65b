use Rattle.std.proofs.Common.{◌≡◌, ◌≢◌, ◌+◌, length, arith, inl, inr, rules, ap, subst, ◌∙◌}
use Rattle.register_history.specs.Damage.{missing_entry}
use Rattle.lei_office.specs.Opening.{Replays}
use Rattle.lei_office.proofs.Leading.{page-differs, page-grows}
use Rattle.lei_office.proofs.replaying.replay_page.Goals as goal

pub returns-then-stored-number : goal.returns-then-stored-number
returns-then-stored-number g c =
    let now = c.loop-stored.register in
    let counted = ap length c.entries.ensures.value in
    let other : c.stored-item.result.seq ≢ length now.history + 1 = λ is. omega (arith, is, c.if-stored-number.true, counted) in
    page-differs c.args.register.now c.args.page.now now c.args.upto c.loop-stored.stored-index c.stored-item.result c.in_ok-missing_entry.field-0
    c.loop-stored-test.true (search rules) c.loop-stored.invariant c.entries.ensures.legal (inr (other, c.in_ok-missing_entry.ensures ∙ ap (λ h. missing_entry (length h + 1)) c.entries.ensures.value))

pub returns-in-Some : goal.returns-in-Some
returns-in-Some g c =
    let now = c.loop-stored.register in
    let stored = c.stored-item.result in
    let counted = ap length c.entries.ensures.value in
    let number : length c.entries.result.now + 1 ≡ stored.seq = omega (arith, c.if-stored-number.false) in
    let own : stored.seq ≡ length now.history + 1 = omega (arith, number, counted) in
    let made = subst (λ o. Replays now stored c.replay.new.register o) c.in-Some.is c.in_ok-replayed.ensures in
    page-differs c.args.register.now c.args.page.now now c.args.upto c.loop-stored.stored-index stored _
    c.loop-stored-test.true (search rules) c.loop-stored.invariant c.entries.ensures.legal
    (inl (own, made.0, λ i. record { entry = number i; kept = c.in_ok-kept-in-Some.ensures i; replayed = made.1 i }))

pub loop-stored-preserved : goal.loop-stored-preserved
loop-stored-preserved g c =
    let now = c.loop-stored.register in
    let stored = c.stored-item.result in
    let made = subst (λ o. Replays now stored c.replay.new.register o) c.in-None.is c.in_ok-replayed.ensures in
    page-grows c.args.register.now c.args.page.now now c.replay.new.register c.loop-stored.stored-index stored
    c.loop-stored-test.true (search rules) c.loop-stored.invariant made.1
