use Rattle.std.proofs.Common.{◌≡◌, ◌∷◌, [], ℤ, ap, subst, sym, ◌∙◌}
use Rattle.std.proofs.Math.Facts.{to_z-of_z}
use Rattle.std.specs.Prelude.{is_some, option_map}
use Rattle.lei_records.specs.Checks.{first_failing}
use Rattle.register_judge.specs.Checks.{c21, c22}
use Rattle.register_judge.proofs.EventLemmas.{first-passes}
use Rattle.register_judge.proofs.checks.event_failure.Goals as goal

pub returns-in-None : goal.returns-in-None
returns-in-None c =
    let item = c.args.item.now in
    let FailsOn : ℤ → Type 0 = λ day. c.dates_failure.result ≡ first_failing (c22 day item ∷ []) in
    subst FailsOn (to_z-of_z c.ranges.today) c.dates_failure.ensures
    ∙ first-passes (c21 item) (c22 c.args.today item)
    (ap is_some (sym c.missing_of_event.ensures ∙ ap (option_map (λ name. name.now)) c.in-None.is))
