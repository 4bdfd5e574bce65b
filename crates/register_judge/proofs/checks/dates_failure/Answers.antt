use Rattle.std.proofs.Common.{◌≡◌, ℤ, Some, ap, subst, sym, ◌∙◌}
use Rattle.std.proofs.Math.Facts.{to_z-of_z}
use Rattle.register_judge.specs.Checks.{c22}
use Rattle.register_judge.proofs.EventLemmas.{one-fails, one-passes}
use Rattle.register_judge.proofs.checks.dates_failure.Goals as goal

pub returns-then-has_wrong_event_dates : goal.returns-then-has_wrong_event_dates
returns-then-has_wrong_event_dates c =
    let item = c.args.item.now in
    let FailsOn : ℤ → Type 0 = λ day. c.has_wrong_event_dates.result ≡ (c22 day item).fails in
    let fails = subst FailsOn (to_z-of_z c.ranges.today) c.has_wrong_event_dates.ensures in
    ap Some c.plain.ensures ∙ one-fails (c22 c.args.today item) (sym fails ∙ c.if-has_wrong_event_dates.true)

pub returns-else-has_wrong_event_dates : goal.returns-else-has_wrong_event_dates
returns-else-has_wrong_event_dates c =
    let item = c.args.item.now in
    let FailsOn : ℤ → Type 0 = λ day. c.has_wrong_event_dates.result ≡ (c22 day item).fails in
    let fails = subst FailsOn (to_z-of_z c.ranges.today) c.has_wrong_event_dates.ensures in
    one-passes (c22 c.args.today item) (sym fails ∙ c.if-has_wrong_event_dates.false)
