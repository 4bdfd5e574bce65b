-- A seat draws a ticket.
use Rattle.std.proofs.Common.{◌≡◌, ℕ, ◌+◌, ◌≤◌, ◌%◌, ◌^◌, List, [], ◌∷◌, set, get_or, refl, sym, ap, ◌∙◌, subst, arith}
use Rattle.std.proofs.Math.Nat.{mod-add-mod}
use Rattle.atomic_table.specs.Table.{Allows, Me, keeps}
use Rattle.turnstile.specs.declared.view.View.{View}
use Rattle.turnstile.specs.Meaning.{Meaning}
use Rattle.turnstile.specs.Rule.{Past, busy, in_turn, passes, number_count, waiting_view, ViewFits, IsKept}
use Rattle.turnstile.specs.Steps.{Draws}
use Rattle.turnstile.specs.Passes.{PassView, view_of}
use Rattle.turnstile.proofs.Totals.{total_set}
use Rattle.turnstile.proofs.Views.{each_set, own_set, home_set}
use Rattle.turnstile.proofs.Parting.{any_step}

-- the first word counts one more
words_drawn : (a b : ℕ) (events ws : List ℕ) → ws ≡ a % 2 ^ 64 ∷ b % 2 ^ 64 ∷ events → set ws 0 ((get_or ws 0 0 + 1) % 2 ^ 64) ≡ (a + 1) % 2 ^ 64 ∷ b % 2 ^ 64 ∷ events
words_drawn a b events ws e = ap (λ (l : List ℕ). set l 0 ((get_or l 0 0 + 1) % 2 ^ 64)) e ∙ ap (λ (k : ℕ). k ∷ b % 2 ^ 64 ∷ events) (mod-add-mod a (2 ^ 64) 1)

module _ {T E D : Type 0} (m : Meaning T E D) (opened : T) (n : ℕ) where
  drawn_once : Past E D → Past E D
  drawn_once p = record { serving = p.serving; drawn = p.drawn + 1; history = p.history; makers = p.makers; members = p.members }

  pub draws : (slots id : ℕ) (v : View E D) → busy v ≡ 0 → in_turn v ≡ 0 → 1 ≤ passes v
      → Allows (IsKept {D = D} m opened n) slots id (v, []) 0 (λ k. (k + 1) % 2 ^ 64) (Draws {T = T} any_step (v, []))
  unfolding drawn_once
  draws slots id v idle out some_pass s kept few at low =
      let views = s.views in
      let old = kept.views in
      let p = kept.past in
      let p' = drawn_once p in
      let w : View E D = waiting_view v p.drawn in
      let fits = old.each id v at in
      let counted = total_set busy views id v w at in
      let shared = total_set passes views id v w at in
      let in_order : p.serving ≤ p.drawn = omega (arith, old.tickets) in
      let later : (x : View E D) → ViewFits m opened p x → ViewFits m opened p' x =
      (λ x f. record {
        seen = f.seen;
        aside = f.aside;
        accounts = f.accounts;
        turn = f.turn;
        ticket = λ b. let t = f.ticket b in (t.0, omega (arith, t.1), t.2);
      }) in
      let here : ViewFits m opened p' w = record {
        seen = fits.seen;
        aside = fits.aside;
        accounts = fits.accounts;
        turn = λ e. absurd (omega (arith, e));
        ticket = λ b. (in_order, omega arith, some_pass);
      } in (
        w,
        keeps,
        tt,
        record {
          past = p';
          events = kept.events;
          words = words_drawn _ _ _ s.words kept.words;
          few = kept.few;
          so_far = record { list = kept.so_far.list; makers = kept.so_far.makers; faults = kept.so_far.faults; told = kept.so_far.told };
          views = record {
            each = each_set (ViewFits m opened p') views id w here (λ j u other there. later u (old.each j u there));
            tickets = omega (arith, old.tickets, counted, idle);
            own = own_set views id w old.own (λ j u other there bu bw same. let t = (old.each j u there).ticket bu in absurd (omega (arith, t.1, same)));
            count = omega (arith, old.count, shared);
            numbers = λ k. let numbers = total_set (number_count k) views id v w at in let before = old.numbers k in omega (arith, numbers) ∙ before;
          };
          home = home_set m opened p' s.homes views id v w at out kept.home;
        },
        (p.drawn, ap (λ (l : List ℕ). get_or l 0 0) kept.words, refl),
      )

  pub draws_at : (slots id : ℕ) (me : Me T (View E D)) (p : PassView E D) → me ≡ (view_of p, [])
      → Allows (IsKept {D = D} m opened n) slots id me 0 (λ k. (k + 1) % 2 ^ 64) (Draws {T = T} any_step me)
  draws_at slots id me p e =
      subst (λ (x : Me T (View E D)). Allows (IsKept {D = D} m opened n) slots id x 0 (λ k. (k + 1) % 2 ^ 64) (Draws {T = T} any_step x)) (sym e)
      (draws slots id (view_of p) refl refl (omega arith))
