use Rattle.std.proofs.Common.{ap, sym, ◌∙◌}
use Rattle.golden_shelf.specs.Bases.{moments_in, number_for_base}
use Rattle.golden_shelf.proofs.BaseLemmas.{last_is}
use Rattle.golden_shelf.proofs.bases.base_number.Goals as goal

pub returns-in-LastDay : goal.returns-in-LastDay
returns-in-LastDay c =
    c.by_age.ensures
    ∙ sym (last_is c.args.issues.now c.in-Some.latest.now c.args.base c.in-Some.ensures.value
    ∙ ap (number_for_base (moments_in c.args.issues.now) c.in-Some.latest.now.moment) c.in-LastDay.is)

pub returns-in-LastWeek : goal.returns-in-LastWeek
returns-in-LastWeek c =
    c.by_age-in-LastWeek.ensures
    ∙ sym (last_is c.args.issues.now c.in-Some.latest.now c.args.base c.in-Some.ensures.value
    ∙ ap (number_for_base (moments_in c.args.issues.now) c.in-Some.latest.now.moment) c.in-LastWeek.is)

pub returns-in-LastMonth : goal.returns-in-LastMonth
returns-in-LastMonth c =
    c.by_age-in-LastMonth.ensures
    ∙ sym (last_is c.args.issues.now c.in-Some.latest.now c.args.base c.in-Some.ensures.value
    ∙ ap (number_for_base (moments_in c.args.issues.now) c.in-Some.latest.now.moment) c.in-LastMonth.is)
