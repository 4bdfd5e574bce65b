-- Workers that are made and taken apart, one after another.
use Rattle.std.proofs.Common.{◌≡◌, ◌+◌, ◌≤◌, List, [], ◌∷◌, ◌++◌, length, map, All, Option, None, Some, IsSome, refl, sym, ap, ◌∙◌, subst, append_assoc, arith}
use Rattle.std.proofs.lemmas.List.{append-nil, length-append, length-map, map-append}
use Rattle.std.proofs.lemmas.List.Elements.{All-head, All-nil, All-push, All-tail}
use Rattle.std.proofs.lemmas.Bool.{false≢true}
use Rattle.http_heads.specs.Routes.{Routes}
use Rattle.lei_hall.specs.Passes.{HallPass}
use Rattle.leireg_serve.specs.Ends.{joint_end}
use Rattle.leireg_serve.specs.declared.desk.Desk.{Desk}
use Rattle.leireg_serve.specs.declared.desk.DeskEnd.{DeskEnd}
use Rattle.leireg_serve.specs.declared.workers.Worker.{Worker}

no_items : {A : Type 0} (xs : List A) → length xs ≡ 0 → xs ≡ []
no_items [] none = refl
no_items (x ∷ xs) none = absurd (omega (arith, none))

-- ---- made from desks and passes

-- these workers were made, and these desks and passes are left
pub record Made {D C : Type 0} (router : Routes) (desks : List (Desk D C)) (passes : List HallPass) (workers : List (Worker D C)) (rest : List (Desk D C)) (others : List HallPass) : Type 0 where
  pub of_desks : map (λ worker. worker.desk) workers ++ rest ≡ desks
  pub of_passes : map (λ worker. worker.pass) workers ++ map Some others ≡ map Some passes
  pub routed : All (λ worker. worker.router.now ≡ router) workers
  pub even : length rest ≡ length others
  pub count : length workers + length rest ≡ length desks

pub made_begin : {D C : Type 0} (router : Routes) (desks : List (Desk D C)) (passes : List HallPass) (workers : List (Worker D C)) (rest : List (Desk D C)) (others : List HallPass)
    → workers ≡ [] → rest ≡ desks → others ≡ passes → length desks ≡ length passes → Made router desks passes workers rest others
made_begin {D} {C} router desks passes workers rest others none same also even =
    let M : List (Worker D C) → List (Desk D C) → List HallPass → Type 0 = λ w r o. Made router desks passes w r o in
    let begun : M [] desks passes = record { of_desks = refl; of_passes = refl; routed = All-nil (λ (w : Worker D C). w.router.now ≡ router); even = even; count = omega arith } in
    subst (λ (w : List (Worker D C)). M w rest others) (sym none) (subst (λ (r : List (Desk D C)). M [] r others) (sym same) (subst (λ (o : List HallPass). M [] desks o) (sym also) begun))

pub made_next : {D C : Type 0} (router : Routes) (desks : List (Desk D C)) (passes : List HallPass) (workers now : List (Worker D C)) (rest rest_now : List (Desk D C)) (others others_now : List HallPass)
    (worker : Worker D C) (pass : HallPass) → Made router desks passes workers rest others → rest ≡ worker.desk ∷ rest_now → others ≡ pass ∷ others_now
    → worker.pass ≡ Some pass → worker.router.now ≡ router → now ≡ workers ++ worker ∷ [] → Made router desks passes now rest_now others_now
made_next {D} {C} router desks passes workers now rest rest_now others others_now worker pass made first second has routed grown =
    let M : List (Desk D C) → List HallPass → Type 0 = λ r o. Made router desks passes workers r o in
    let at = subst (λ (r : List (Desk D C)). M r (pass ∷ others_now)) first (subst (λ (o : List HallPass). M rest o) second made) in
    let desk_of : Worker D C → Desk D C = λ w. w.desk in
    let pass_of : Worker D C → Option HallPass = λ w. w.pass in
    subst (λ (w : List (Worker D C)). Made router desks passes w rest_now others_now) (sym grown) (record {
      of_desks = ap (λ (l : List (Desk D C)). l ++ rest_now) (map-append desk_of workers (worker ∷ []))
          ∙ append_assoc (map desk_of workers) (worker.desk ∷ []) rest_now ∙ at.of_desks;
      of_passes = ap (λ (l : List (Option HallPass)). l ++ map Some others_now) (map-append pass_of workers (worker ∷ []))
          ∙ append_assoc (map pass_of workers) (worker.pass ∷ []) (map Some others_now)
          ∙ ap (λ (o : Option HallPass). map pass_of workers ++ o ∷ map Some others_now) has ∙ at.of_passes;
      routed = All-push (λ (w : Worker D C). w.router.now ≡ router) workers worker at.routed routed;
      even = omega (arith, at.even);
      count = let grows = length-append workers (worker ∷ []) in omega (arith, at.count, grows);
    })

pub made_desks : {D C : Type 0} (router : Routes) (desks : List (Desk D C)) (passes : List HallPass) (workers : List (Worker D C)) (rest : List (Desk D C)) (others : List HallPass)
    → Made router desks passes workers rest others → length rest ≡ 0 → map (λ worker. worker.desk) workers ≡ desks
made_desks {D} {C} router desks passes workers rest others made none =
    sym (append-nil (map (λ (w : Worker D C). w.desk) workers))
    ∙ ap (λ (l : List (Desk D C)). map (λ (w : Worker D C). w.desk) workers ++ l) (sym (no_items rest none)) ∙ made.of_desks

pub made_passes : {D C : Type 0} (router : Routes) (desks : List (Desk D C)) (passes : List HallPass) (workers : List (Worker D C)) (rest : List (Desk D C)) (others : List HallPass)
    → Made router desks passes workers rest others → length rest ≡ 0 → map (λ worker. worker.pass) workers ≡ map Some passes
made_passes {D} {C} router desks passes workers rest others made none =
    sym (append-nil (map (λ (w : Worker D C). w.pass) workers))
    ∙ ap (λ (l : List HallPass). map (λ (w : Worker D C). w.pass) workers ++ map Some l) (sym (no_items others (sym made.even ∙ none))) ∙ made.of_passes

-- ---- taken apart

joint_more : (ends : List DeskEnd) (end : DeskEnd) → joint_end (ends ++ end ∷ []) ≡ joint_end (joint_end ends ∷ end ∷ [])
joint_more [] DeskEnd.Closed = refl
joint_more [] DeskEnd.Failed = refl
joint_more (DeskEnd.Closed ∷ ends) end = joint_more ends end
joint_more (DeskEnd.Failed ∷ ends) end = refl

-- these workers were taken apart, and these are left
pub record TakenApart {D C : Type 0} (workers yielded rest : List (Worker D C)) (desks : List (Desk D C)) (passes : List HallPass) (end : DeskEnd) : Type 0 where
  pub all : yielded ++ rest ≡ workers
  pub of_desks : desks ≡ map (λ worker. worker.desk) yielded
  pub of_passes : map Some passes ≡ map (λ worker. worker.pass) yielded
  pub of_ends : end ≡ joint_end (map (λ worker. worker.end) yielded)
  pub ready : All (λ worker. IsSome worker.pass) rest

pub apart_begin : {D C : Type 0} (workers rest : List (Worker D C)) (desks : List (Desk D C)) (passes : List HallPass) → desks ≡ [] → passes ≡ []
    → rest ≡ workers → All (λ worker. IsSome worker.pass) workers → TakenApart workers [] rest desks passes DeskEnd.Closed
apart_begin {D} {C} workers rest desks passes none unpassed same ready = record {
  all = same;
  of_desks = none;
  of_passes = ap (λ (l : List HallPass). map Some l) unpassed;
  of_ends = refl;
  ready = subst (λ (l : List (Worker D C)). All (λ worker. IsSome worker.pass) l) (sym same) ready;
}

pub apart_next : {D C : Type 0} (workers yielded rest rest_now : List (Worker D C)) (worker : Worker D C) (desks desks_now : List (Desk D C)) (pass : HallPass)
    (passes passes_now : List HallPass) (end end_now : DeskEnd) → TakenApart workers yielded rest desks passes end → rest ≡ worker ∷ rest_now
    → worker.pass ≡ Some pass → desks_now ≡ desks ++ worker.desk ∷ [] → passes_now ≡ passes ++ pass ∷ []
    → end_now ≡ joint_end (end ∷ worker.end ∷ []) → TakenApart workers (yielded ++ worker ∷ []) rest_now desks_now passes_now end_now
apart_next {D} {C} workers yielded rest rest_now worker desks desks_now pass passes passes_now end end_now so first has desk passed ended = record {
  all = append_assoc yielded (worker ∷ []) rest_now ∙ ap (λ (l : List (Worker D C)). yielded ++ l) (sym first) ∙ so.all;
  of_desks = desk ∙ ap (λ (l : List (Desk D C)). l ++ worker.desk ∷ []) so.of_desks ∙ sym (map-append (λ (w : Worker D C). w.desk) yielded (worker ∷ []));
  of_passes = ap (λ (l : List HallPass). map Some l) passed ∙ map-append Some passes (pass ∷ [])
      ∙ ap (λ (l : List (Option HallPass)). l ++ Some pass ∷ []) so.of_passes
      ∙ ap (λ (o : Option HallPass). map (λ (w : Worker D C). w.pass) yielded ++ o ∷ []) (sym has)
      ∙ sym (map-append (λ (w : Worker D C). w.pass) yielded (worker ∷ []));
  of_ends = ended ∙ ap (λ (e : DeskEnd). joint_end (e ∷ worker.end ∷ [])) so.of_ends
      ∙ sym (joint_more (map (λ (w : Worker D C). w.end) yielded) worker.end)
      ∙ ap joint_end (sym (map-append (λ (w : Worker D C). w.end) yielded (worker ∷ [])));
  ready = All-tail (λ (w : Worker D C). IsSome w.pass) worker rest_now (subst (λ (l : List (Worker D C)). All (λ w. IsSome w.pass) l) first so.ready);
}

pub apart_has : {D C : Type 0} (workers yielded rest rest_now : List (Worker D C)) (worker : Worker D C) (desks : List (Desk D C)) (passes : List HallPass) (end : DeskEnd)
    → TakenApart workers yielded rest desks passes end → rest ≡ worker ∷ rest_now → worker.pass ≡ None → ⊥
apart_has {D} {C} workers yielded rest rest_now worker desks passes end so first none =
    let some : IsSome worker.pass = All-head (λ (w : Worker D C). IsSome w.pass) worker rest_now (subst (λ (l : List (Worker D C)). All (λ w. IsSome w.pass) l) first so.ready) in
    absurd (false≢true (subst IsSome none some))

pub apart_all : {D C : Type 0} (workers yielded rest : List (Worker D C)) (desks : List (Desk D C)) (passes : List HallPass) (end : DeskEnd)
    → TakenApart workers yielded rest desks passes end → length rest ≡ 0 → yielded ≡ workers
apart_all {D} {C} workers yielded rest desks passes end so none =
    sym (append-nil yielded) ∙ ap (λ (l : List (Worker D C)). yielded ++ l) (sym (no_items rest none)) ∙ so.all

pub apart_room : {D C : Type 0} (workers yielded rest rest_now : List (Worker D C)) (worker : Worker D C) (desks : List (Desk D C)) (passes : List HallPass) (end : DeskEnd)
    → TakenApart workers yielded rest desks passes end → rest ≡ worker ∷ rest_now → length desks + 1 ≤ length workers
apart_room {D} {C} workers yielded rest rest_now worker desks passes end so first =
    let whole = ap length so.all in
    let grows = length-append yielded rest in
    let more = ap length first in
    let taken = ap length so.of_desks ∙ length-map yielded (λ (w : Worker D C). w.desk) in
    omega (arith, whole, grows, more, taken)

pub apart_room_too : {D C : Type 0} (workers yielded rest rest_now : List (Worker D C)) (worker : Worker D C) (desks : List (Desk D C)) (passes : List HallPass) (end : DeskEnd)
    → TakenApart workers yielded rest desks passes end → rest ≡ worker ∷ rest_now → length passes + 1 ≤ length workers
apart_room_too {D} {C} workers yielded rest rest_now worker desks passes end so first =
    let whole = ap length so.all in
    let grows = length-append yielded rest in
    let more = ap length first in
    let taken = sym (length-map passes Some) ∙ ap length so.of_passes ∙ length-map yielded (λ (w : Worker D C). w.pass) in
    omega (arith, whole, grows, more, taken)
