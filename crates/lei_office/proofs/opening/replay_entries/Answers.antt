use Rattle.std.proofs.Common.{◌≡◌, ap, arith, refl, subst, sym, ◌∙◌}
use Rattle.std.specs.Prelude.{IfSome}
use Rattle.lei_values.specs.KeptTables.{entries_between}
use Rattle.register_history.specs.Legal.{Legal}
use Rattle.register_history.specs.State.{office_of}
use Rattle.register_history.proofs.Histories.{Legal-opened}
use Rattle.lei_office.specs.Opening.{IsPageDamage, PageReplays}
use Rattle.lei_office.proofs.ComparedPages.{leaves-join, stays-itself, stays-join, stays-told}
use Rattle.lei_office.proofs.ReplayedPages.{Reached, told-all, told-damage, told-first, told-more}
use Rattle.lei_office.proofs.opening.replay_entries.Goals as goal

pub loop-after-init : goal.loop-after-init
loop-after-init g c =
    let office = c.args.register.now in
    let told = g.K.Keeper.tables c.args.keeper.now in
    record {
      limits = refl;
      legal = subst (λ h. Legal (office_of office.limits h)) (sym c.requires.empty) (Legal-opened office.limits);
      within = omega arith;
      stays = stays-itself told;
      crash = λ left is. is;
      faultless = refl;
      reached = told-first c.args.last office.history told c.requires.empty c.requires.kept c.requires.last;
    }

pub returns-in-Some-clause-replays : goal.returns-in-Some-clause-replays
returns-in-Some-clause-replays g c =
    let tables = g.K.Keeper.tables in
    let before = c.loop-after.register in
    let page = c.as_slice.result.now in
    let upto = c.page_end-upto.result in
    let now = tables c.entries.new.self in
    let more = c.page_end-upto.ensures.more in
    let reached = stays-told (Reached c.args.last c.loop-after.after before.history) (tables c.loop-after.keeper) now c.in_ok-page.ensures.same c.loop-after.invariant.reached in
    let made = subst (λ o. PageReplays before page upto c.replay_page.new.register o) c.in-Some.is c.in_ok-damage.ensures in
    told-damage c.args.register.now.limits c.loop-after.after upto c.args.last before.history page c.in-Some.damage now (omega (arith, more)) c.page_end-upto.ensures.most reached
    (subst (λ l. IfSome now (λ t. l ≡ entries_between c.loop-after.after upto t)) (sym c.as_slice.ensures) c.in_ok-page.ensures.answer)
    (subst (λ l. IsPageDamage l before.history page upto c.in-Some.damage) c.loop-after.invariant.limits made)

pub loop-after-preserved : goal.loop-after-preserved
loop-after-preserved g c =
    let tables = g.K.Keeper.tables in
    let leaves = g.K.Keeper.leaves in
    let before = c.loop-after.register in
    let page = c.as_slice.result.now in
    let upto = c.page_end-upto.result in
    let now = tables c.entries.new.self in
    let more = c.page_end-upto.ensures.more in
    let reached = stays-told (Reached c.args.last c.loop-after.after before.history) (tables c.loop-after.keeper) now c.in_ok-page.ensures.same c.loop-after.invariant.reached in
    let made = subst (λ o. PageReplays before page upto c.replay_page.new.register o) c.in-None.is c.in_ok-damage.ensures in
    record {
      limits = ap (λ o. o.limits) made.0 ∙ c.loop-after.invariant.limits;
      legal = made.2;
      within = c.page_end-upto.ensures.most;
      stays = stays-join (tables c.args.keeper.now) (tables c.loop-after.keeper) now c.loop-after.invariant.stays c.in_ok-page.ensures.same;
      crash = leaves-join (leaves c.args.keeper.now) (leaves c.loop-after.keeper) (leaves c.entries.new.self) c.loop-after.invariant.crash c.in_ok-page.ensures.crash;
      faultless = c.in_ok-page.ensures.faultless (λ is. cc) ∙ c.loop-after.invariant.faultless;
      reached = told-more c.loop-after.after upto c.args.last before.history page c.replay_page.new.register.history now (omega (arith, more)) reached
          (subst (λ l. IfSome now (λ t. l ≡ entries_between c.loop-after.after upto t)) (sym c.as_slice.ensures) c.in_ok-page.ensures.answer) (ap (λ o. o.history) made.0);
    }

pub returns-clause-replays : goal.returns-clause-replays
returns-clause-replays g c =
    let told = g.K.Keeper.tables c.loop-after.keeper in
    let history = c.loop-after.register.history in
    let ended : c.loop-after.after ≡ c.args.last = omega (arith, c.loop-after-test.false, c.loop-after.invariant.within) in (
      told-all c.args.last history told (subst (λ n. IfSome told (Reached c.args.last n history)) ended c.loop-after.invariant.reached),
      c.loop-after.invariant.limits,
      c.loop-after.invariant.legal,
    )
