-- The result of the turns of a hall.
use Rattle.std.proofs.Common.{◌≡◌, ⊎_elim, ℕ, ◌-◌, ◌^◌, List, [], ◌∷◌, All, sym, subst, arith}
use Rattle.std.proofs.lemmas.Bool.Decides.{leb_tells}
use Rattle.request_loop.specs.Counts.{RoseBy}
use Rattle.lei_office.specs.Faults.{keeper_faults}
use Rattle.lei_office.specs.Offices.{KeptOffice}
use Rattle.turnstile.specs.Lists.{IsPrefix}
use Rattle.turnstile.specs.Passes.{AreBetween, AreWithin}
use Rattle.lei_hall.specs.Passes.{HallPass, ReportsSo, faults_told}

-- What passes have seen of one office they have seen of an equal one.
pub seen_still : {K : Type 0} (passes : List HallPass) (office same : KeptOffice K) → office ≡ same
    → All (λ p. IsPrefix p.seen same.office.history) passes → All (λ p. IsPrefix p.seen office.office.history) passes
seen_still {K} passes office same is seen =
    subst (λ (o : KeptOffice K). All (λ (p : HallPass). IsPrefix p.seen o.office.history) passes) (sym is) seen

-- At most as many replies are KEEPER_FAULT as the count rose by.
pub refused : (passes : List HallPass) (from to : ℕ) → All (λ p. All ReportsSo p.told) passes → AreBetween from to passes → AreWithin from to passes
    → RoseBy (faults_told passes) from to
refused passes from to told between within = ⊎_elim
    (λ t. let most = t.1 in omega (arith, most))
    (λ t.
    let less = t.1 in
    let weighed = within (λ t. keeper_faults (t.piece.reply ∷ [])) (λ i p low j t at. let one = told i p low j t at in let to = (between i p low j t at).2 in omega (arith, one, to, less)) in
    omega (arith, weighed))
    (leb_tells (2 ^ 64 - 1) to)
