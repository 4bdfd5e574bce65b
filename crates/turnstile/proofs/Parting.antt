-- Idle seats are split in two and joined, and learn what both had seen.
use Rattle.std.proofs.Common.{◌≡◌, ℕ, ◌+◌, List, [], ◌∷◌, ◌++◌, length, length-append, set, get_or, refl, sym, ap, ◌∙◌, arith, if◌then◌else◌, ◌==◌}
use mathlib.Core.Option.{some}
use lib.ListN.{get_elem?}
use Rattle.atomic_table.specs.Table.{Splits, Joins, Allows, Me, Step, step, keeps}
use mathlib.Core.Option.{none}
use Rattle.atomic_table.proofs.Lists.{set_else}
use Rattle.turnstile.specs.declared.view.Account.{Account}
use Rattle.turnstile.specs.declared.view.View.{View}
use Rattle.turnstile.specs.Lists.{Each, longer}
use Rattle.turnstile.specs.Meaning.{Meaning}
use Rattle.turnstile.specs.Rule.{AccountFits, busy, in_turn, passes, number_count, with_number, after_first, only_first, idle_view, left_part, right_part, both_parts, spent_view, ViewFits, IsKept}
use Rattle.turnstile.specs.Steps.{Learns}
use Rattle.turnstile.proofs.Totals.{total_append, total_split, total_join, total_set}
use Rattle.turnstile.proofs.Prefixes.{prefix_none, longer_of}
use Rattle.turnstile.proofs.Views.{each_set, each_snoc, Each_append, Each_map, own_idle, own_snoc, home_set, home_snoc, idle_fits}

length_parts : {D : Type 0} (l : List (Account D)) → length (after_first l) + length (only_first l) ≡ length l
length_parts [] = refl
length_parts (a ∷ rest) = omega arith

number_parts : {D : Type 0} (k : ℕ) (l : List (Account D)) → with_number k (after_first l) + with_number k (only_first l) ≡ with_number k l
number_parts k [] = refl
number_parts k (a ∷ rest) = omega arith

each_after : {D : Type 0} (P : Account D → Type 0) (l : List (Account D)) → Each P l → Each P (after_first l)
each_after P [] h = tt
each_after P (a ∷ rest) h = h.1

each_only : {D : Type 0} (P : Account D → Type 0) (l : List (Account D)) → Each P l → Each P (only_first l)
each_only P [] h = tt
each_only P (a ∷ rest) h = (h.0, tt)

-- a step of the table with an arbitrary operand, since the statements about steps don't read it
abbrev pub any_step : {T : Type 0} → Step T
any_step = step 0 0 0 0 none

-- the words are unchanged after a load
pub words_stay : (a b : ℕ) (events ws : List ℕ) → ws ≡ a ∷ b ∷ events → set ws 1 (get_or ws 1 0) ≡ a ∷ b ∷ events
words_stay a b events ws e = ap (λ (l : List ℕ). set l 1 (get_or l 1 0)) e

module _ {T E D : Type 0} (m : Meaning T E D) (opened : T) (n : ℕ) where
  pub splits : (id : ℕ) (v : View E D) → busy v ≡ 0 → in_turn v ≡ 0 → Splits (IsKept {D = D} m opened n) id v (left_part v) (right_part v)
  splits id v idle out s kept at =
      let views = s.views in
      let old = kept.views in
      let fits = old.each id v at in
      let left = idle_fits m opened kept.past v.seen [] (after_first v.accounts) fits.seen (prefix_none kept.past.history) (each_after _ v.accounts fits.accounts) in
      let right = idle_fits m opened kept.past v.seen [] (only_first v.accounts) fits.seen (prefix_none kept.past.history) (each_only _ v.accounts fits.accounts) in
      let counted = total_split busy views id v (left_part v) (right_part v) at (sym idle) in
      record {
        past = kept.past;
        events = kept.events;
        words = kept.words;
        few = kept.few;
        so_far = kept.so_far;
        views = record {
          each = each_snoc (ViewFits m opened kept.past) (set views id (left_part v)) (right_part v) right
              (each_set (ViewFits m opened kept.past) views id (left_part v) left (λ j u other there. old.each j u there));
          tickets = omega (arith, old.tickets, counted);
          own = own_snoc (set views id (left_part v)) (right_part v) refl (own_idle views id (left_part v) refl old.own);
          count = total_split passes views id v (left_part v) (right_part v) at (length_parts v.accounts) ∙ old.count;
          numbers = λ k. total_split (number_count k) views id v (left_part v) (right_part v) at (number_parts k v.accounts) ∙ old.numbers k;
        };
        home = home_snoc m opened kept.past s.homes (set views id (left_part v)) (right_part v)
            (home_set m opened kept.past s.homes views id v (left_part v) at out kept.home);
      }

  pub joins : (id : ℕ) (v : View E D) (other : ℕ) (w : View E D) → busy v ≡ 0 → in_turn v ≡ 0 → busy w ≡ 0 → in_turn w ≡ 0
      → Joins (IsKept {D = D} m opened n) id v other w (both_parts v w) spent_view
  joins id v other w idle out idle' out' s kept at apart there' =
      let views = s.views in
      let old = kept.views in
      let middle = set views id (both_parts v w) in
      let there : get_elem? views other ≡ some w = sym (set_else views id other (both_parts v w) apart) ∙ there' in
      let fits = old.each id v at in
      let fits' = old.each other w there in
      let joined = idle_fits m opened kept.past v.seen w.seen (w.accounts ++ v.accounts) fits.seen fits'.seen (Each_append _ w.accounts v.accounts fits'.accounts fits.accounts) in
      let spent = idle_fits m opened kept.past [] [] [] (prefix_none kept.past.history) (prefix_none kept.past.history) tt in
      let counted = total_join busy views id other v w (both_parts v w) spent_view at there' (omega (arith, idle, idle')) in
      let lengths = length-append w.accounts v.accounts in
      record {
        past = kept.past;
        events = kept.events;
        words = kept.words;
        few = kept.few;
        so_far = kept.so_far;
        views = record {
          each = each_set (ViewFits m opened kept.past) middle other spent_view spent
              (λ j u apart' there. each_set (ViewFits m opened kept.past) views id (both_parts v w) joined (λ i x other' at'. old.each i x at') j u there);
          tickets = omega (arith, old.tickets, counted);
          own = own_idle middle other spent_view refl (own_idle views id (both_parts v w) refl old.own);
          count = total_join passes views id other v w (both_parts v w) spent_view at there' (omega (arith, lengths)) ∙ old.count;
          numbers = λ k. total_join (number_count k) views id other v w (both_parts v w) spent_view at there'
              (let more = total_append (λ (a : Account D). if k == a.number then 1 else 0) w.accounts v.accounts in omega (arith, more)) ∙ old.numbers k;
        };
        home = home_set m opened kept.past s.homes middle other w spent_view there' out'
            (home_set m opened kept.past s.homes views id v (both_parts v w) at out kept.home);
      }

  pub learns : (slots id : ℕ) (me : Me T (View E D)) → busy me.0 ≡ 0 → in_turn me.0 ≡ 0
      → Allows (IsKept {D = D} m opened n) slots id me 1 (λ k. k) (Learns any_step me)
  learns slots id me idle out s kept few at low =
      let v = me.0 in
      let views = s.views in
      let old = kept.views in
      let fits = old.each id v at in
      let w : View E D = idle_view (longer v.seen v.aside) [] v.accounts in
      let l = longer_of v.seen v.aside kept.past.history fits.seen fits.aside in
      let fits' = idle_fits m opened kept.past (longer v.seen v.aside) [] v.accounts l.whole (prefix_none kept.past.history) fits.accounts in
      let counted = total_set busy views id v w at in
      let shared = total_set passes views id v w at in
      let alike = Each_map (AccountFits m opened kept.past.makers kept.past.members) (λ (a : Account D). a.stays ≡ m.stays opened)
      (λ a fits. fits.stays) v.accounts fits.accounts in (
        w,
        keeps,
        tt,
        record {
          past = kept.past;
          events = kept.events;
          words = words_stay _ _ _ s.words kept.words;
          few = kept.few;
          so_far = kept.so_far;
          views = record {
            each = each_set (ViewFits m opened kept.past) views id w fits' (λ j u other there. old.each j u there);
            tickets = omega (arith, old.tickets, counted, idle);
            own = own_idle views id w refl old.own;
            count = omega (arith, old.count, shared);
            numbers = λ k. let numbers = total_set (number_count k) views id v w at in let before = old.numbers k in omega (arith, numbers) ∙ before;
          };
          home = home_set m opened kept.past s.homes views id v w at out kept.home;
        },
        (refl, l.first, l.second, (m.stays opened, alike)),
      )
