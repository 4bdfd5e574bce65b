-- A seat with a ticket checks whether it is served.
use Rattle.std.proofs.Common.{◌≡◌, ℕ, ◌≤◌, ◌%◌, ◌^◌, inr, ⊎_elim, List, [], ◌∷◌, set, get_or, refl, sym, ap, ◌∙◌, subst, le_trans, arith}
use Rattle.std.proofs.lemmas.Bool.Decides.{eqb_tells}
use mathlib.Core.Option.{Option, some, none, some-injective}
use lib.ListN.{get_elem?}
use Rattle.atomic_table.specs.Table.{State, Allows, Me, keeps, takes}
use Rattle.atomic_table.proofs.Lists.{one_turn, set_again, set_here}
use Rattle.turnstile.specs.declared.view.Member.{Member}
use Rattle.turnstile.specs.declared.view.Account.{Account}
use Rattle.turnstile.specs.declared.view.View.{View}
use Rattle.turnstile.specs.Lists.{Each, IsPrefix}
use Rattle.turnstile.specs.Meaning.{Meaning}
use Rattle.turnstile.specs.Rule.{Past, busy, in_turn, passes, number_count, waiting_view, turn_view, last_count, told_to, AccountFits, ViewFits, ViewsFit, PastFits, IsKept}
use Rattle.turnstile.specs.Steps.{GoesOnFrom, Sees}
use Rattle.turnstile.specs.Passes.{PassView, view_of}
use Rattle.turnstile.proofs.Totals.{total_set}
use Rattle.turnstile.proofs.Prefixes.{prefix_self, prefix_none}
use Rattle.turnstile.proofs.Views.{each_set, own_set, home_set, Each_map}
use Rattle.turnstile.proofs.Accounts.{Between, told_between}
use Rattle.turnstile.proofs.Seats.{at_below, in_turn_busy, tickets_few}
use Rattle.turnstile.proofs.Parting.{any_step, words_stay}

module _ {T E D : Type 0} (m : Meaning T E D) (opened : T) (n : ℕ) where
  -- a ticket that seems to be the one served is the one served
  served_is : (s : State T (View E D)) (kept : IsKept m opened n s) (id : ℕ) (v : View E D) → get_elem? s.views id ≡ some v → busy v ≡ 1
      → get_or s.words 1 0 ≡ v.ticket % 2 ^ 64 → kept.past.serving ≡ v.ticket
  served_is s kept id v at waits found =
      let t = (kept.views.each id v at).ticket waits in
      let few = tickets_few m opened n kept.past s.views kept.views in
      let out = kept.views.tickets in
      let small = kept.few in
      one_turn kept.past.serving v.ticket (2 ^ 64) t.0 (omega (arith, t.1, few, out, small))
      (sym (ap (λ (l : List ℕ). get_or l 1 0) kept.words) ∙ found)

  -- then the value is at home
  pub record AtHome (past : Past E D) (homes : List (Option T)) (x : T) : Type 0 where
    pub here : homes ≡ some x ∷ []
    pub list : m.entries x ≡ past.history
    pub stays : m.stays x ≡ m.stays opened
    pub faults : last_count (m.faults opened) past.members ≤ m.faults x

  at_home : (s : State T (View E D)) (kept : IsKept m opened n s) (id : ℕ) (v : View E D) → get_elem? s.views id ≡ some v → busy v ≡ 1 → in_turn v ≡ 0
      → kept.past.serving ≡ v.ticket → (x : T) × AtHome kept.past s.homes x
  at_home s kept id v at waits out served = ⊎_elim
      (λ t. (t.0, record { here = t.1; list = t.2; stays = t.3; faults = t.4 }))
      (λ t. let u = t.1.1 in let there = t.1.2 in let turn = t.1.3 in
      let ticket = ((kept.views.each t.1.0 u there).turn turn).0 in
      let one = kept.views.own id t.1.0 v u at there waits (in_turn_busy u turn) (sym served ∙ sym ticket) in
      let same : v ≡ u = some-injective v u (sym at ∙ ap (get_elem? s.views) one ∙ there) in
      let z : in_turn v ≡ 1 = subst (λ (q : View E D). in_turn q ≡ 1) (sym same) turn in
      absurd (omega (arith, out, z)))
      kept.home

  -- the value continues all that the seat knows
  goes_on : (past : Past E D) (homes : List (Option T)) (v : View E D) (x : T) → PastFits m opened n past → ViewFits m opened past v → AtHome past homes x → GoesOnFrom m v x
  goes_on past homes v x so_far fits home =
      let members = past.members in
      let Fitting = AccountFits m opened past.makers members in
      let told : (a : Account D) → Fitting a → Each (λ t. t.to ≤ m.faults x) a.told =
      (λ a f. subst (Each (λ (t : Member D). t.to ≤ m.faults x)) (sym f.told)
      (Each_map (Between (m.faults opened) (last_count (m.faults opened) members)) (λ (t : Member D). t.to ≤ m.faults x)
      (λ t b. le_trans b.to home.faults) (told_to a.number members) (told_between a.number (m.faults opened) members so_far.faults))) in
      record {
        seen = subst (λ l. IsPrefix v.seen l) (sym home.list) fits.seen;
        stays = Each_map Fitting (λ a. m.stays x ≡ a.stays) (λ a f. home.stays ∙ sym f.stays) v.accounts fits.accounts;
        told = Each_map Fitting (λ a. Each (λ t. t.to ≤ m.faults x) a.told) told v.accounts fits.accounts;
      }

  pub sees : (slots id : ℕ) (v : View E D) → busy v ≡ 1 → in_turn v ≡ 0
      → Allows (IsKept {D = D} m opened n) slots id (v, []) 1 (λ k. k) (Sees m any_step (v, []))
  sees slots id v waits out s kept few at low =
      let views = s.views in
      let old = kept.views in
      let past = kept.past in
      ⊎_elim
      (λ t. let served = served_is s kept id v at waits t.1 in
      let found = at_home s kept id v at waits out served in
      let x = found.0 in
      let home = found.1 in
      let w : View E D = turn_view v (m.entries x) (m.faults x) in
      let fits = old.each id v at in
      let counted = total_set busy views id v w at in
      let shared = total_set passes views id v w at in
      let whole : IsPrefix (m.entries x) past.history = subst (IsPrefix (m.entries x)) home.list (prefix_self (m.entries x)) in
      let here : ViewFits m opened past w =
      record { seen = whole; aside = prefix_none past.history; accounts = fits.accounts; ticket = λ b. fits.ticket waits; turn = λ b. (sym served, home.list, home.faults) } in (
        w,
        takes 0 x,
        ap (λ (l : List (Option T)). get_elem? l 0) home.here,
        record {
          past = past;
          events = kept.events;
          words = words_stay _ _ _ s.words kept.words;
          few = kept.few;
          so_far = kept.so_far;
          views = record {
            each = each_set (ViewFits m opened past) views id w here (λ j u other there. old.each j u there);
            tickets = omega (arith, old.tickets, counted, waits);
            own = own_set views id w old.own (λ j u other there bu bw same. other (old.own j id u v there at bu waits same));
            count = omega (arith, old.count, shared);
            numbers = λ k. let numbers = total_set (number_count k) views id v w at in let before = old.numbers k in omega (arith, numbers) ∙ before;
          };
          home = inr (ap (λ (l : List (Option T)). set l 0 none) home.here, (id, w, set_here views id w (at_below views id v at), refl));
        },
        ((λ _. (x, refl, goes_on past s.homes v x kept.so_far fits home)), (λ no. absurd (no t.1))),
      ))
      (λ t. (
        v,
        keeps,
        tt,
        record {
          past = past;
          events = kept.events;
          words = words_stay _ _ _ s.words kept.words;
          few = kept.few;
          so_far = kept.so_far;
          views = subst (ViewsFit m opened n past) (sym (set_again views id v at)) old;
          home = home_set m opened past s.homes views id v v at out kept.home;
        },
        ((λ e. absurd (t.1 e)), (λ _. refl)),
      ))
      (eqb_tells (get_or s.words 1 0) (v.ticket % 2 ^ 64))

  pub sees_at : (slots id : ℕ) (me : Me T (View E D)) (p : PassView E D) (t : ℕ) → me ≡ (waiting_view (view_of p) t, [])
      → Allows (IsKept {D = D} m opened n) slots id me 1 (λ k. k) (Sees m any_step me)
  sees_at slots id me p t e =
      subst (λ (q : Me T (View E D)). Allows (IsKept {D = D} m opened n) slots id q 1 (λ k. k) (Sees m any_step q)) (sym e)
      (sees slots id (waiting_view (view_of p) t) refl refl)
