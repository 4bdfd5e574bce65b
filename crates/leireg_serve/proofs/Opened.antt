-- Serving over a store that was opened.
use Rattle.std.proofs.Common.{◌≡◌, ◌⊎◌, ℕ, List, map, Option, None, Some, IfSome, inl, inr, refl, sym, ap, ◌∙◌, subst, arith}
use Rattle.std.specs.List.{AllZip}
use Rattle.lei_values.specs.KeptTables.{KeptTables}
use Rattle.lei_keeper.specs.Keeping.{TablesStay}
use Rattle.register_words.specs.Limits.{standard}
use Rattle.register_words.specs.declared.limits.Limits.{Limits}
use Rattle.register_history.specs.Damage.{IsDamage}
use Rattle.register_history.specs.Kept.{Keeps, StaysUntold}
use Rattle.register_history.specs.Legal.{Legal}
use Rattle.lei_office.specs.Offices.{FaultRose, IsRefused, KeptOffice, keeper_back}
use Rattle.lei_office.specs.declared.opening.OpenFault.{OpenFault}
use Rattle.lei_office.specs.declared.opening.OpenFault.TheVariants as fault
use Rattle.turnstile.specs.Passes.{AreNew}
use Rattle.lei_hall.specs.Closing.{Closes}
use Rattle.lei_hall.specs.Passes.{HallPass, HallView, numbers_of}
use Rattle.register_history.specs.Opened.{MayTell}
use Rattle.leireg_serve.specs.Desks.{DeskState, LineTells}
use Rattle.leireg_serve.specs.Ends.{ClosesOffice, DesksOutside, EndsServing, OpensAndServes, ServesHall, desk_status, desks_outside, fault_status, joint_end}
use Rattle.leireg_serve.specs.Workers.{Works}
use Rattle.leireg_serve.specs.declared.desk.Desk.{Desk}
use Rattle.leireg_serve.specs.declared.desk.DeskEnd.{DeskEnd}
use Rattle.leireg_serve.specs.declared.workers.Worker.{Worker}
use Rattle.leireg_serve.proofs.Served.{all_served}

-- the status follows from the end
ends_at : {L : Type 0} (may : Option KeptTables → Type 0) (tells : LineTells L) (before after : DesksOutside L) (status : ℕ) (end : DeskEnd)
    → OpensAndServes may tells before after end → status ≡ desk_status end → EndsServing may tells before after status
ends_at may tells before after status DeskEnd.Closed opens is = inl (is, opens)
ends_at may tells before after status DeskEnd.Failed opens is = inr (inl (is, opens))

-- what is told stays the same
pub stays_same : (told : Option KeptTables) → TablesStay told told
stays_same None = tt {0}
stays_same (Some tables) = refl

-- the store wasn't opened
pub ends_refused : {K L : Type 0} (tables : K → Option KeptTables) (faults : K → ℕ) (tells : LineTells L) (limits : Limits) (keeper back : K) (refusal : OpenFault K)
    (desks : List (DeskState L)) (status : ℕ) → limits ≡ standard → back ≡ keeper_back refusal → IsRefused limits tables refusal
    → TablesStay (tables keeper) (tables (keeper_back refusal)) → FaultRose (faults keeper) (faults (keeper_back refusal)) refusal → status ≡ fault_status refusal
    → EndsServing (MayTell tables) tells (desks_outside (tables keeper) (faults keeper) desks) (desks_outside (tables back) (faults back) desks) status
ends_refused {K} tables faults tells limits keeper back refusal desks status are same refused stays rose is =
    subst (λ (k : K). EndsServing (MayTell tables) tells (desks_outside (tables keeper) (faults keeper) desks) (desks_outside (tables k) (faults k) desks) status)
    (sym same) (ends_so refusal refused stays rose is)
  where
    ends_so : (f : OpenFault K) → IsRefused limits tables f → TablesStay (tables keeper) (tables (keeper_back f))
        → FaultRose (faults keeper) (faults (keeper_back f)) f → status ≡ fault_status f
        → EndsServing (MayTell tables) tells (desks_outside (tables keeper) (faults keeper) desks)
        (desks_outside (tables (keeper_back f)) (faults (keeper_back f)) desks) status
    ends_so (fault.KeeperFault back') refused stays rose is = inr (inr (inl (is, stays, rose)))
    ends_so (fault.StoreDamaged back' damage) refused stays rose is = inr (inr (inr (inr (
      is,
      stays,
      rose,
      (damage, subst (λ (l : Limits). IfSome (tables back') (λ told. IsDamage l told damage)) are refused),
    ))))
    ends_so (fault.NoMemory back') refused stays rose is = inr (inr (inr (inl (is, stays, rose))))

pub refused_meant : {K : Type 0} (refusal : OpenFault K) → fault_status refusal ≡ 1 → ⊥
refused_meant (fault.KeeperFault back) is = omega (arith, is)
refused_meant (fault.StoreDamaged back damage) is = omega (arith, is)
refused_meant (fault.NoMemory back) is = omega (arith, is)

-- the store was opened, and the office served and closed, or memory to serve it ran out
pub ends_opened : {K L : Type 0} (tables : K → Option KeptTables) (faults : K → ℕ) (tells : LineTells L) (keeper back : K) (office : KeptOffice K)
    (desks desks_now : List (DeskState L)) (status : ℕ) → office.office.limits ≡ standard → Legal office.office → Keeps (tables office.keeper) office.office
    → TablesStay (tables keeper) (tables office.keeper) → faults office.keeper ≡ faults keeper
    → {B : Type 0} → ((status ≡ 6) × (back ≡ office.keeper) × B) ⊎ ClosesOffice tables faults tells office desks back desks_now status
    → EndsServing (MayTell tables) tells (desks_outside (tables keeper) (faults keeper) desks) (desks_outside (tables back) (faults back) desks_now) status
ends_opened {K} tables faults tells keeper back office desks desks_now status limits legal keeps stays same (inl (six, is, unserved)) =
    let S : K → Type 0 = λ k. TablesStay (tables keeper) (tables k) in
    inr (inr (inr (inl (six, subst S (sym is) stays, ap faults is ∙ same))))
ends_opened {K} tables faults tells keeper back office desks desks_now status limits legal keeps stays same (inr (last, end, serves, kept, untold, is)) =
    let before = desks_outside (tables keeper) (faults keeper) desks in
    let after = desks_outside (tables back) (faults back) desks_now in
    ends_at (MayTell tables) tells before after status end (record {
      first = office.office;
      last = last;
      opened = record {
        told = tables office.keeper;
        met = (office.keeper, refl);
        stays = stays;
        is = record { limits = limits; legal = legal; keeps = keeps };
        untold = untold;
      };
      serves = subst (λ (from : ℕ). ServesHall tells office.office (tables office.keeper) from desks last (faults back) desks_now end) same serves;
      keeps = kept;
    }) is

-- a hall was opened over an office, all workers made from the desks and its passes served, and the hall was closed
pub closes_office : {K D C L : Type 0} (tables : K → Option KeptTables) (faults : K → ℕ) (tells : LineTells L) (state : Desk D C → DeskState L)
    (hall : HallView K) (office closed : KeptOffice K) (desks desks_back : List (Desk D C)) (olds news : List (Worker D C)) (passes back : List HallPass)
    (keeper : K) (end : DeskEnd) (status : ℕ) → hall.office ≡ office
    → AreNew hall.table office.office.history (numbers_of office.office.limits (tables office.keeper)) 0 passes
    → map (λ worker. worker.desk) olds ≡ desks → map (λ worker. worker.pass) olds ≡ map Some passes → AllZip (Works tells state) olds news
    → desks_back ≡ map (λ worker. worker.desk) news → map Some back ≡ map (λ worker. worker.pass) news
    → end ≡ joint_end (map (λ worker. worker.end) news)
    → Closes hall.office.office (faults hall.office.keeper) back closed.office (faults closed.keeper)
    → Keeps (tables closed.keeper) closed.office → StaysUntold (tables hall.office.keeper) (tables closed.keeper)
    → keeper ≡ closed.keeper → status ≡ desk_status end
    → ClosesOffice tables faults tells office (map state desks) keeper (map state desks_back) status
closes_office {K} tables faults tells state hall office closed desks desks_back olds news passes back keeper end status same are of_desks given worked left is ended closes keeps untold kept reported =
    let all = all_served tells state hall.table office.office.history (numbers_of office.office.limits (tables office.keeper)) 0 olds news passes back are given worked is in
    let closes_so : Closes office.office (faults office.keeper) back closed.office (faults closed.keeper) =
    subst (λ (o : KeptOffice K). Closes o.office (faults o.keeper) back closed.office (faults closed.keeper)) same closes in
    subst (λ (k : K). ClosesOffice tables faults tells office (map state desks) k (map state desks_back) status) (sym kept) (
      closed.office,
      end,
      record {
        table = hall.table;
        served = all.served;
        came = ap (map state) (sym of_desks) ∙ all.came;
        back = ap (map state) left ∙ all.left;
        ended = ended ∙ ap joint_end all.ended;
        serves = all.serves;
        closes = subst (λ (b : List HallPass). Closes office.office (faults office.keeper) b closed.office (faults closed.keeper)) all.passed closes_so;
      },
      keeps,
      subst (λ (o : KeptOffice K). StaysUntold (tables o.keeper) (tables closed.keeper)) same untold,
      reported,
    )
