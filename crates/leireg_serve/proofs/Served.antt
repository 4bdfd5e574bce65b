-- The workers of a server, and what they leave.
use Rattle.std.proofs.Common.{◌≡◌, ℕ, ◌+◌, List, [], ◌∷◌, length, map, All, Bool, false, Option, None, Some, IsSome, IsSomeAnd, refl, sym, ap, ◌∙◌, subst, arith}
use Rattle.std.specs.List.{AllZip}
use Rattle.std.proofs.lemmas.List.Elements.{All-cons, All-head, All-nil, All-tail}
use Rattle.atomic_table.specs.Seated.{TableId}
use Rattle.lei_values.specs.declared.entry.KeptEntry.{KeptEntry}
use Rattle.http_heads.specs.Routes.{Routes, routes}
use Rattle.turnstile.specs.Passes.{AreNew, AreOf, HaveAll, new_pass}
use Rattle.lei_hall.specs.Calling.{IsSamePass}
use Rattle.lei_hall.specs.Passes.{HallPass}
use Rattle.leireg_serve.specs.Desks.{DeskState, LineTells, ServedDesk, ServesDesk, ServesDesks}
use Rattle.leireg_serve.specs.Workers.{IsReadyWorker, Works}
use Rattle.leireg_serve.specs.declared.desk.Desk.{Desk}
use Rattle.leireg_serve.specs.declared.desk.DeskEnd.{DeskEnd}
use Rattle.leireg_serve.specs.declared.workers.Worker.{Worker}
use Rattle.leireg_serve.proofs.Lists.{zip_all, zip_get}

head_same : {A : Type 0} (x y : A) (xs ys : List A) → x ∷ xs ≡ y ∷ ys → x ≡ y
head_same {A} x y xs ys same = ap (λ (l : List A). first x l) same
  where
    first : A → List A → A
    first other [] = other
    first other (z ∷ zs) = z

tail_same : {A : Type 0} (x y : A) (xs ys : List A) → x ∷ xs ≡ y ∷ ys → xs ≡ ys
tail_same {A} x y xs ys same = ap rest same
  where
    rest : List A → List A
    rest [] = []
    rest (z ∷ zs) = zs

-- ---- before

-- workers that were made from these desks and passes are ready
pub ready_all : {D C : Type 0} (out : D → Bool) (table : TableId) (router : Routes) (workers : List (Worker D C)) (passes : List HallPass)
    → router ≡ routes → All (λ worker. worker.router.now ≡ router) workers
    → All (λ desk. out desk.door ≡ false) (map (λ worker. worker.desk) workers) → map (λ worker. worker.pass) workers ≡ map Some passes
    → AreOf table passes → All (IsReadyWorker out table) workers
ready_all out table router [] passes all same doors are of = All-nil (IsReadyWorker out table)
ready_all {D} {C} out table router (worker ∷ workers) [] all same doors are of = absurd (uneven (ap length are))
  where
    uneven : length (map (λ (w : Worker D C). w.pass) (worker ∷ workers)) ≡ 0 → ⊥
    uneven none = omega (arith, none)
ready_all {D} {C} out table router (worker ∷ workers) (pass ∷ passes) all same doors are of =
    let R : Worker D C → Type 0 = λ w. w.router.now ≡ router in
    let O : Desk D C → Type 0 = λ d. out d.door ≡ false in
    let T : HallPass → Type 0 = λ p. p.table ≡ table in
    let others = map (λ (w : Worker D C). w.pass) workers in
    let has : worker.pass ≡ Some pass = head_same worker.pass (Some pass) others (map Some passes) are in
    let rest = tail_same worker.pass (Some pass) others (map Some passes) are in
    All-cons (IsReadyWorker out table) worker workers (
      All-head R worker workers same ∙ all,
      subst (λ (o : Option HallPass). IsSomeAnd o T) (sym has) (All-head T pass passes of),
      All-head O worker.desk (map (λ (w : Worker D C). w.desk) workers) doors,
    ) (ready_all out table router workers passes all (All-tail R worker workers same)
    (All-tail O worker.desk (map (λ (w : Worker D C). w.desk) workers) doors) rest (All-tail T pass passes of))

-- ---- afterwards

-- each worker has its pass back
pub passes_back : {D C L : Type 0} (tells : LineTells L) (state : Desk D C → DeskState L) (olds news : List (Worker D C))
    → AllZip (Works tells state) olds news → All (λ worker. IsSome worker.pass) news
passes_back {D} {C} tells state [] [] worked = All-nil (λ (worker : Worker D C). IsSome worker.pass)
passes_back tells state [] (w ∷ news) worked = absurd worked
passes_back tells state (o ∷ olds) [] worked = absurd worked
passes_back {D} {C} tells state (o ∷ olds) (w ∷ news) worked =
    All-cons (λ (worker : Worker D C). IsSome worker.pass) w news
    (has o.pass w.pass (λ before after. ServesDesk tells before (state o.desk) after (state w.desk) w.end) worked.0)
    (passes_back tells state olds news worked.1)
  where
    has : (old new : Option HallPass) (R : HallPass → HallPass → Type 0) → IsSomeAnd old (λ before. IsSomeAnd new (λ after. R before after)) → IsSome new
    has None new R is = absurd is
    has (Some p) None R is = absurd is
    has (Some p) (Some q) R is = refl

-- what all workers did, after their desks and passes were taken apart again
pub record AllServed {D C L : Type 0} (tells : LineTells L) (state : Desk D C → DeskState L) (new : ℕ → HallPass) (k : ℕ) (desks : List (Desk D C)) (passes : List HallPass)
    (news : List (Worker D C)) (back : List HallPass) : Type 0 where
  pub served : List (ServedDesk L)
  pub came : map state desks ≡ map (λ desk. desk.before) served
  pub left : map state (map (λ worker. worker.desk) news) ≡ map (λ desk. desk.after) served
  pub ended : map (λ worker. worker.end) news ≡ map (λ desk. desk.end) served
  pub passed : back ≡ map (λ desk. desk.pass) served
  pub serves : ServesDesks tells new k served
  pub same : AllZip IsSamePass passes back

module _ {D C L : Type 0} (tells : LineTells L) (state : Desk D C → DeskState L) (table : TableId) (seen : List KeptEntry) (stays : List ℕ) where
  abbrev pub new : ℕ → HallPass
  new k = new_pass table k seen stays

  pub all_served : (k : ℕ) (olds news : List (Worker D C)) (passes back : List HallPass) → AreNew table seen stays k passes
      → map (λ worker. worker.pass) olds ≡ map Some passes → AllZip (Works tells state) olds news → map Some back ≡ map (λ worker. worker.pass) news
      → AllServed tells state new k (map (λ worker. worker.desk) olds) passes news back
  all_served k [] [] [] [] are given worked is =
      record { served = []; came = refl; left = refl; ended = refl; passed = refl; serves = cc; same = cc }
  all_served k [] [] [] (q ∷ back) are given worked is = absurd (uneven (ap length is))
    where
      uneven : length (map Some (q ∷ back)) ≡ 0 → ⊥
      uneven none = omega (arith, none)
  all_served k [] [] (p ∷ passes) back are given worked is = absurd (uneven (ap length given))
    where
      uneven : 0 ≡ length (map Some (p ∷ passes)) → ⊥
      uneven none = omega (arith, none)
  all_served k [] (w ∷ news) passes back are given worked is = absurd worked
  all_served k (o ∷ olds) [] passes back are given worked is = absurd worked
  all_served k (o ∷ olds) (w ∷ news) [] back are given worked is = absurd (uneven (ap length given))
    where
      uneven : length (map (λ (worker : Worker D C). worker.pass) (o ∷ olds)) ≡ 0 → ⊥
      uneven none = omega (arith, none)
  all_served k (o ∷ olds) (w ∷ news) (p ∷ passes) [] are given worked is = absurd (uneven (ap length is))
    where
      uneven : 0 ≡ length (map (λ (worker : Worker D C). worker.pass) (w ∷ news)) → ⊥
      uneven none = omega (arith, none)
  all_served k (o ∷ olds) (w ∷ news) (p ∷ passes) (q ∷ back) are given worked is =
      let pass_of : Worker D C → Option HallPass = λ worker. worker.pass in
      let had : o.pass ≡ Some p = head_same o.pass (Some p) (map pass_of olds) (map Some passes) given in
      let given_rest = tail_same o.pass (Some p) (map pass_of olds) (map Some passes) given in
      let has : Some q ≡ w.pass = head_same (Some q) w.pass (map Some back) (map pass_of news) is in
      let rest = tail_same (Some q) w.pass (map Some back) (map pass_of news) is in
      let one_worked : IsSomeAnd w.pass (λ after. ServesDesk tells p (state o.desk) after (state w.desk) w.end) =
      subst (λ (x : Option HallPass). IsSomeAnd x (λ before. IsSomeAnd w.pass (λ after. ServesDesk tells before (state o.desk) after (state w.desk) w.end))) had worked.0 in
      let serves : ServesDesk tells p (state o.desk) q (state w.desk) w.end =
      subst (λ (x : Option HallPass). IsSomeAnd x (λ after. ServesDesk tells p (state o.desk) after (state w.desk) w.end)) (sym has) one_worked in
      let others = all_served (k + 1) olds news passes back are.1 given_rest worked.1 rest in
      let one : ServedDesk L = record { before = state o.desk; pass = q; after = state w.desk; end = w.end } in
      record {
        served = one ∷ others.served;
        came = ap (λ (l : List (DeskState L)). state o.desk ∷ l) others.came;
        left = ap (λ (l : List (DeskState L)). state w.desk ∷ l) others.left;
        ended = ap (λ (l : List DeskEnd). w.end ∷ l) others.ended;
        passed = ap (λ (l : List HallPass). q ∷ l) others.passed;
        serves = (subst (λ (r : HallPass). ServesDesk tells r (state o.desk) q (state w.desk) w.end) are.0 serves, others.serves);
        same = (serves.same, others.same);
      }

-- ---- the passes that are returned

pub same_of : (table : TableId) (passes back : List HallPass) → AllZip IsSamePass passes back → AreOf table passes → AreOf table back
same_of table passes back same of =
    zip_all IsSamePass (λ p. p.table ≡ table) (λ p. p.table ≡ table) (λ p q is at. is.0 ∙ at) passes back same of

pub same_have : (n : ℕ) (passes back : List HallPass) → AllZip IsSamePass passes back → HaveAll n passes → HaveAll n back
same_have n passes back same all k less =
    let at = all k less in
    let found = zip_get IsSamePass passes back at.0 at.1 same at.2 in
    (at.0, found.0, found.1, found.2.1 ∙ at.3)

-- the passes that are returned are those of the hall that was opened
pub close_passes : {D C L : Type 0} (tells : LineTells L) (state : Desk D C → DeskState L) (table : TableId) (seen : List KeptEntry) (stays : List ℕ) (n : ℕ)
    (olds news : List (Worker D C)) (passes back : List HallPass) → AreNew table seen stays 0 passes
    → map (λ worker. worker.pass) olds ≡ map Some passes → AllZip (Works tells state) olds news → map Some back ≡ map (λ worker. worker.pass) news
    → AreOf table passes × HaveAll n passes → AreOf table back × HaveAll n back
close_passes tells state table seen stays n olds news passes back are given worked is (of, all) =
    let same = (all_served tells state table seen stays 0 olds news passes back are given worked is).same in
    (same_of table passes back same of, same_have n passes back same all)
