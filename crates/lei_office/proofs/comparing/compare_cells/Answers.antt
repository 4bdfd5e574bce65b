use Rattle.std.proofs.Common.{◌≡◌, ◌≤◌, ◌+◌, ◌-◌, ◌*◌, ◌/◌, ap, arith, length, subst, sym, ◌∙◌}
use Rattle.std.specs.Prelude.{IfSome}
use Rattle.register_history.specs.Damage.{IsCellDamage, kept_page, made_page, page_bounds}
use Rattle.register_history.specs.Register.{held_after}
use Rattle.register_history.specs.Standing.{AreRowCells}
use Rattle.register_history.proofs.Stored.{held-stands}
use Rattle.lei_office.specs.Opening.{Compares}
use Rattle.lei_office.proofs.ComparedPages.{all-agree, leaves-join, page-agrees, page-differs, stays-join, stays-told}
use Rattle.register_history.proofs.Pages.{PagesAgree}
use Rattle.lei_values.specs.KeptTables.{AreKept}
use Rattle.lei_office.proofs.comparing.compare_cells.Goals as goal

pub returns-in-Some-clause-compares : goal.returns-in-Some-clause-compares
returns-in-Some-clause-compares g c =
    let tables = g.K.Keeper.tables in
    let office = c.args.register.now in
    let held = held_after office.limits office.history in
    let now = tables c.compare_page.new.keeper in
    let at = subst (λ b. IfSome now (λ t. Compares (kept_page t b) (made_page held b) c.in_ok-damage.field-0)) c.page_bounds-bounds.ensures c.in_ok-damage.ensures.compares in
    let found = subst (λ o. IfSome now (λ t. Compares (kept_page t (page_bounds (length c.entries.result.now) c.loop-page.page)) (made_page held (page_bounds (length c.entries.result.now) c.loop-page.page)) o)) c.in-Some.is at in
    let count = ap length c.entries.ensures.value in
    subst (λ n. IfSome now (λ t. IsCellDamage n held t c.in-Some.damage)) count
    (page-differs (length c.entries.result.now) c.loop-page.page held (tables c.loop-page.keeper) now c.in-Some.damage c.in_ok-damage.ensures.same c.loop-page.invariant.agree found)

pub loop-page-preserved : goal.loop-page-preserved
loop-page-preserved g c =
    let tables = g.K.Keeper.tables in
    let leaves = g.K.Keeper.leaves in
    let office = c.args.register.now in
    let held = held_after office.limits office.history in
    let now = tables c.compare_page.new.keeper in
    let at = subst (λ b. IfSome now (λ t. Compares (kept_page t b) (made_page held b) c.in_ok-damage.field-0)) c.page_bounds-bounds.ensures c.in_ok-damage.ensures.compares in
    let found = subst (λ o. IfSome now (λ t. Compares (kept_page t (page_bounds (length c.entries.result.now) c.loop-page.page)) (made_page held (page_bounds (length c.entries.result.now) c.loop-page.page)) o)) c.in-None.is at in
    record {
      stays = stays-join (tables c.args.keeper.now) (tables c.loop-page.keeper) now c.loop-page.invariant.stays c.in_ok-damage.ensures.same;
      crash = leaves-join (leaves c.args.keeper.now) (leaves c.loop-page.keeper) (leaves c.compare_page.new.keeper) c.loop-page.invariant.crash c.in_ok-damage.ensures.crash;
      faultless = c.in_ok-damage.ensures.faultless (λ is. cc) ∙ c.loop-page.invariant.faultless;
      agree = page-agrees (length c.entries.result.now) c.loop-page.page held (tables c.loop-page.keeper) now c.in_ok-damage.ensures.same c.loop-page.invariant.agree found;
    }

pub returns-clause-compares : goal.returns-clause-compares
returns-clause-compares g c =
    let told = g.K.Keeper.tables c.loop-page.keeper in
    let last = length c.entries.result.now in
    let count = ap length c.entries.ensures.value in
    let most = c.entries.ensures.few.entries in
    let office = c.args.register.now in
    let held = held_after office.limits office.history in
    let stand = subst (λ n. AreRowCells n held) (sym count) (held-stands office.limits office.history c.entries.ensures.legal) in
    let n = (last + 16 - 1) / 16 in
    let ended : c.loop-page.page ≡ n + 1 = omega (arith, c.loop-page-test.false, c.loop-page.auto.page-end) in
    let all : last ≤ 16 * n = omega arith in
    all-agree last n held told (omega (arith, most, count)) all stand (stays-told AreKept (g.K.Keeper.tables c.args.keeper.now) told c.loop-page.invariant.stays c.requires)
    (subst (λ p. IfSome told (λ t. PagesAgree last held t p)) ended c.loop-page.invariant.agree)
