-- A seat in turn returns the value, and serves the next ticket.
use Rattle.std.proofs.Common.{◌≡◌, ◌≢◌, ℕ, ◌+◌, ◌≤◌, ◌<◌, ◌%◌, ◌^◌, ◌==◌, if◌then◌else◌, inl, ⊎_elim, List, [], ◌∷◌, ◌++◌, length, length-append, append-nil, append_assoc, set, get_or, refl, sym, ap, ◌∙◌, subst, Option, Some, None, arith}
use Rattle.std.proofs.lemmas.Bool.Decides.{eqb_tells}
use Rattle.std.proofs.Math.Nat.{mod-add-mod}
use mathlib.Core.Option.{some}
use mathlib.Core.Option as core
use lib.ListN.{get_elem?}
use Rattle.atomic_table.specs.Table.{Allows, Me, gives}
use Rattle.turnstile.specs.declared.view.Member.{Member}
use Rattle.turnstile.specs.declared.view.View.{View}
use Rattle.turnstile.specs.Lists.{Each, IsPrefix}
use Rattle.turnstile.specs.Meaning.{Meaning, GoesOn, IsToldSo, told_of, mine_after}
use Rattle.turnstile.specs.Rule.{Past, busy, passes, number_count, waiting_view, turn_view, made_by, told_to, InOrder, last_count, first_place, AccountFits, ViewFits, PastFits, IsHome, IsKept}
use Rattle.turnstile.specs.Steps.{PassesOn, view_after}
use Rattle.turnstile.specs.Passes.{PassView, view_of}
use Rattle.turnstile.proofs.Totals.{total_set}
use Rattle.turnstile.proofs.Prefixes.{prefix_self, prefix_none, prefix_trans}
use Rattle.turnstile.proofs.Views.{each_set, own_idle, Each_append, idle_fits}
use Rattle.turnstile.proofs.Accounts.{if_same, made_here, made_else, told_here, told_else, in_order_push, last_push, Each_without}
use Rattle.turnstile.proofs.Seats.{in_turn_busy, no_other, number_below}
use Rattle.turnstile.proofs.Parting.{any_step}

-- ---- what a turn adds to the past

-- its maker, if it added an entry
maker_of : ℕ → ℕ → ℕ → List ℕ
maker_of k before after = if after == before then [] else k ∷ []

-- the members that it told, with the number of their pass
tagged : {D : Type 0} → ℕ → List (Member D) → List (ℕ × Member D)
tagged k [] = []
tagged k (t ∷ ts) = (k, t) ∷ tagged k ts

mine_fits : (k first base before after : ℕ) (mine makers : List ℕ) → base + length makers ≡ first + before → mine ≡ made_by k base makers
    → mine_after first before after mine ≡ made_by k base (makers ++ maker_of k before after)
unfolding maker_of
mine_fits k first base before after mine makers place e = ⊎_elim
    (λ t. if_same after before mine (mine ++ (first + before) ∷ []) t.1 ∙ e ∙ ap (made_by k base) (sym (append-nil makers) ∙ ap (λ l. makers ++ l) (sym (if_same after before [] (k ∷ []) t.1))))
    (λ t. ap (λ b. if b then mine else mine ++ (first + before) ∷ []) t.0 ∙ ap (λ l. l ++ (first + before) ∷ []) e ∙ ap (λ (p : ℕ). made_by k base makers ++ p ∷ []) (sym place)
    ∙ sym (made_here k base makers) ∙ ap (λ l. made_by k base (makers ++ l)) (sym (ap (λ b. if b then [] else k ∷ []) t.0)))
    (eqb_tells after before)

made_by_others : (j k base before after : ℕ) (makers : List ℕ) → j ≢ k → made_by j base (makers ++ maker_of k before after) ≡ made_by j base makers
unfolding maker_of
made_by_others j k base before after makers other = ⊎_elim
    (λ t. ap (λ l. made_by j base (makers ++ l)) (if_same after before [] (k ∷ []) t.1) ∙ ap (made_by j base) (append-nil makers))
    (λ t. ap (λ l. made_by j base (makers ++ l)) (ap (λ b. if b then [] else k ∷ []) t.0) ∙ made_else j k base makers other)
    (eqb_tells after before)

makers_below : (n k before after : ℕ) → k < n → Each (λ j. j < n) (maker_of k before after)
unfolding maker_of
makers_below n k before after low = ⊎_elim
    (λ t. subst (Each (λ (j : ℕ). j < n)) (sym (if_same after before [] (k ∷ []) t.1)) tt)
    (λ t. subst (Each (λ (j : ℕ). j < n)) (sym (ap (λ b. if b then [] else k ∷ []) t.0)) (low, tt))
    (eqb_tells after before)

-- one maker for each entry added
maker_count : (k before after added : ℕ) → after ≡ before + added → after ≤ before + 1 → length (maker_of k before after) ≡ added
unfolding maker_of
maker_count k before after added e one = ⊎_elim
    (λ t. ap length (if_same after before [] (k ∷ []) t.1) ∙ omega (arith, e, t.1))
    (λ t. ap (λ b. length (if b then [] else k ∷ [])) t.0 ∙ omega (arith, e, one, t.1))
    (eqb_tells after before)

module _ {D : Type 0} where
  told_fits : (k at from to : ℕ) (said : Option D) (told : List (Member D)) (members : List (ℕ × Member D)) → told ≡ told_to k members
      → told ++ told_of said at from to ≡ told_to k (members ++ tagged k (told_of said at from to))
  unfolding tagged
  told_fits k at from to (Some piece) told members e = ap (λ l. l ++ told_of (Some piece) at from to) e ∙ sym (told_here k members _)
  told_fits k at from to None told members e = append-nil told ∙ e ∙ ap (told_to k) (sym (append-nil members))

  told_to_others : (j k at from to : ℕ) (said : Option D) (members : List (ℕ × Member D)) → j ≢ k
      → told_to j (members ++ tagged k (told_of said at from to)) ≡ told_to j members
  unfolding tagged
  told_to_others j k at from to (Some piece) members other = told_else j k members _ other
  told_to_others j k at from to None members other = ap (told_to j) (append-nil members)

  tagged_each : (P : Member D → Type 0) (k : ℕ) (told : List (Member D)) → Each P told → Each (λ t. P t.1) (tagged k told)
  unfolding tagged
  tagged_each P k [] h = tt
  tagged_each P k (t ∷ ts) h = (h.0, tagged_each P k ts h.1)

  in_order_more : (f k at from to : ℕ) (said : Option D) (members : List (ℕ × Member D)) → InOrder f members → last_count f members ≤ from → from ≤ to
      → InOrder f (members ++ tagged k (told_of said at from to))
  unfolding tagged
  in_order_more f k at from to (Some piece) members h le up = in_order_push f members _ h le up
  in_order_more f k at from to None members h le up = subst (InOrder f) (sym (append-nil members)) h

  last_more : (f k at from to : ℕ) (said : Option D) (members : List (ℕ × Member D)) → last_count f members ≤ from → from ≤ to
      → last_count f (members ++ tagged k (told_of said at from to)) ≤ to
  unfolding tagged
  last_more f k at from to (Some piece) members le up = let e = last_push f members (k, record { piece = piece; at = at; from = from; to = to }) in omega (arith, e)
  last_more f k at from to None members le up = let e = ap (last_count f) (append-nil members) in omega (arith, e, le, up)

-- ---- the words and the slot

words_served : (a b : ℕ) (events ws : List ℕ) → ws ≡ a % 2 ^ 64 ∷ b % 2 ^ 64 ∷ events → set ws 1 ((get_or ws 1 0 + 1) % 2 ^ 64) ≡ a % 2 ^ 64 ∷ (b + 1) % 2 ^ 64 ∷ events
words_served a b events ws e = ap (λ (l : List ℕ). set l 1 ((get_or l 1 0 + 1) % 2 ^ 64)) e ∙ ap (λ (k : ℕ). a % 2 ^ 64 ∷ k ∷ events) (mod-add-mod b (2 ^ 64) 1)

-- the value that a seat holds
held : {T : Type 0} → T → List (ℕ × T) → T
held d [] = d
held d (x ∷ xs) = x.1

one_slot : {T : Type 0} (y z : T) → ◌≡◌ {A = List (ℕ × T)} ((0, y) ∷ []) ((0, z) ∷ []) → y ≡ z
unfolding held
one_slot y z e = ap (held y) e

module _ {T E D : Type 0} (m : Meaning T E D) (opened : T) (n : ℕ) where
  back_home : (past : Past E D) (homes : List (core.Option T)) (views : List (View E D)) (y : T) → IsHome m opened past homes views → set homes 0 (some y) ≡ some y ∷ []
  back_home past homes views y h = ⊎_elim (λ t. ap (λ (l : List (core.Option T)). set l 0 (some y)) t.1) (λ t. ap (λ (l : List (core.Option T)). set l 0 (some y)) t.0) h

  -- the past after one more turn, by the pass k
  past_after : ℕ → Option D → T → T → Past E D → Past E D
  past_after k said x y p =
      record {
        serving = p.serving + 1;
        drawn = p.drawn;
        history = m.entries y;
        makers = p.makers ++ maker_of k (length (m.entries x)) (length (m.entries y));
        members = p.members ++ tagged k (told_of said (length (m.entries x)) (m.faults x) (m.faults y));
      }

  pub place_next : (past : Past E D) → PastFits m opened n past → first_place m opened + length past.makers ≡ m.first + length past.history
  place_next past fits =
      let l = fits.list in
      let e : length past.history ≡ length (m.entries opened ++ l.0) = ap length l.1 in
      let a = length-append (m.entries opened) l.0 in
      let c = l.2 in
      omega (arith, e, a, c)

  past_fits : (k : ℕ) (said : Option D) (x y : T) (past : Past E D) → k < n → PastFits m opened n past → m.entries x ≡ past.history
      → last_count (m.faults opened) past.members ≤ m.faults x → GoesOn m x y → IsToldSo m said x y → PastFits m opened n (past_after k said x y past)
  unfolding past_after
  past_fits k said x y past low fits whole le turn so =
      let before = length (m.entries x) in
      let after = length (m.entries y) in
      let l = fits.list in
      let added = turn.list in
      let longer : after ≡ before + length added.0 = ap length added.1 ∙ length-append (m.entries x) added.0 in
      let count = maker_count k before after (length added.0) longer turn.one in
      let makers = length-append past.makers (maker_of k before after) in
      let more = length-append l.0 added.0 in
      let so_far = l.2 in
      record {
        list = (l.0 ++ added.0, added.1 ∙ ap (λ q. q ++ added.0) (whole ∙ l.1) ∙ append_assoc (m.entries opened) l.0 added.0, omega (arith, count, makers, more, so_far));
        makers = Each_append (λ j. j < n) past.makers (maker_of k before after) fits.makers (makers_below n k before after low);
        faults = in_order_more (m.faults opened) k before (m.faults x) (m.faults y) said past.members fits.faults le turn.faults;
        told = Each_append (λ (t : ℕ × Member D). m.tells t.1) past.members (tagged k (told_of said before (m.faults x) (m.faults y))) fits.told
            (tagged_each m.tells k (told_of said before (m.faults x) (m.faults y)) so);
      }

  pub gives_back : (slots id : ℕ) (p : PassView E D) (t : ℕ) (x y : T) (said : Option D) → m.stays x ≡ p.stays → GoesOn m x y → IsToldSo m said x y
      → Allows (IsKept {D = D} m opened n) slots id (turn_view (waiting_view (view_of p) t) (m.entries x) (m.faults x), (0, y) ∷ []) 1 (λ k. (k + 1) % 2 ^ 64)
      (PassesOn m said any_step (turn_view (waiting_view (view_of p) t) (m.entries x) (m.faults x), (0, y) ∷ []))
  unfolding past_after
  gives_back slots id p t x y said same turn so s kept few at low =
      let v : View E D = turn_view (waiting_view (view_of p) t) (m.entries x) (m.faults x) in
      let k = p.number in
      let before = length (m.entries x) in
      let after = length (m.entries y) in
      let views = s.views in
      let old = kept.views in
      let past = kept.past in
      let past' = past_after k said x y past in
      let w : View E D = view_after m said v y in
      let fits = old.each id v at in
      let now = fits.turn refl in
      let mine_is = fits.accounts.0 in
      let own_number : 1 ≤ number_count k v = let e = if_same {A = ℕ} k k 1 0 refl in omega (arith, e) in
      let low = number_below m opened n past views old k id v at own_number in
      let here : ViewFits m opened past' w = idle_fits m opened past' (m.entries y) [] _ (prefix_self (m.entries y)) (prefix_none (m.entries y)) (
        record {
          mine = mine_fits k m.first (first_place m opened) before after p.mine past.makers (place_next past kept.so_far ∙ ap (λ (l : List E). m.first + length l) (sym now.1)) mine_is.mine;
          told = told_fits k before (m.faults x) (m.faults y) said p.told past.members mine_is.told;
          stays = mine_is.stays;
        },
        tt,
      ) in
      let others : (j : ℕ) (u : View E D) → j ≢ id → get_elem? views j ≡ some u → ViewFits m opened past' u =
      (λ j u other there.
      let f = old.each j u there in
      let apart : busy u ≡ 1 → u.ticket ≢ past.serving = (λ b e. other (old.own j id u v there at b refl (e ∙ sym now.0))) in
      record {
        seen = prefix_trans u.seen (m.entries x) (m.entries y) (subst (IsPrefix u.seen) (sym now.1) f.seen) turn.list;
        aside = prefix_trans u.aside (m.entries x) (m.entries y) (subst (IsPrefix u.aside) (sym now.1) f.aside) turn.list;
        accounts = Each_without k (AccountFits m opened past.makers past.members) (AccountFits m opened past'.makers past'.members)
            (λ a not_k h. record {
              mine = h.mine ∙ sym (made_by_others a.number k (first_place m opened) before after past.makers not_k);
              told = h.told ∙ sym (told_to_others a.number k before (m.faults x) (m.faults y) said past.members not_k);
              stays = h.stays;
            })
            u.accounts (no_other m opened n past views old k id j v u (λ e. other (sym e)) at there own_number) f.accounts;
        ticket = λ b. let q = f.ticket b in let ne = apart b in (omega (arith, q.0, ne), q.1, q.2);
        turn = λ i. absurd (apart (in_turn_busy u i) (f.turn i).0);
      }) in
      let counted = total_set busy views id v w at in
      let shared = total_set passes views id v w at in (
        w,
        gives,
        tt,
        record {
          past = past';
          events = kept.events;
          words = words_served _ _ _ s.words kept.words;
          few = kept.few;
          so_far = past_fits k said x y past low kept.so_far now.1 now.2 turn so;
          views = record {
            each = each_set (ViewFits m opened past') views id w here others;
            tickets = omega (arith, old.tickets, counted);
            own = own_idle views id w refl old.own;
            count = omega (arith, old.count, shared);
            numbers = λ j. let numbers = total_set (number_count j) views id v w at in let all = old.numbers j in omega (arith, numbers) ∙ all;
          };
          home = inl (
            y,
            back_home past s.homes views y kept.home,
            refl,
            turn.stays ∙ same ∙ mine_is.stays,
            last_more (m.faults opened) k before (m.faults x) (m.faults y) said past.members now.2 turn.faults,
          );
        },
        (λ z e. ap (λ (q : T). (view_after m said v q, [])) (one_slot y z e)),
      )

  pub gives_back_at : (slots id : ℕ) (me : Me T (View E D)) (p : PassView E D) (t : ℕ) (x y : T) (said : Option D) → m.stays x ≡ p.stays → GoesOn m x y → IsToldSo m said x y
      → me ≡ (turn_view (waiting_view (view_of p) t) (m.entries x) (m.faults x), (0, y) ∷ [])
      → Allows (IsKept {D = D} m opened n) slots id me 1 (λ k. (k + 1) % 2 ^ 64) (PassesOn m said any_step me)
  gives_back_at slots id me p t x y said same turn so e =
      subst (λ (q : Me T (View E D)). Allows (IsKept {D = D} m opened n) slots id q 1 (λ k. (k + 1) % 2 ^ 64) (PassesOn m said any_step q)) (sym e)
      (gives_back slots id p t x y said same turn so)
