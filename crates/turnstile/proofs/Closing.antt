-- A turnstile at its end: one seat has all accounts, and the value is at home.
use Rattle.std.proofs.Common.{◌≡◌, ◌≢◌, ℕ, zero, suc, ◌+◌, ◌≤◌, ◌<◌, ◌⊎◌, inl, inr, ⊎_elim, List, [], ◌∷◌, length, map, refl, sym, ap, ◌∙◌, subst, Some, slice_get, All, Contains, le_trans, arith}
use Rattle.std.proofs.lemmas.Bool.Decides.{eqb_tells}
use mathlib.Core.Option as core
use mathlib.Core.Option.{some, some-injective}
use lib.ListN.{get_elem?}
use Rattle.atomic_table.specs.Table.{State, Seen, Final}
use Rattle.turnstile.specs.declared.view.Member.{Member}
use Rattle.turnstile.specs.declared.view.Account.{Account}
use Rattle.turnstile.specs.declared.view.View.{View}
use Rattle.turnstile.specs.Lists.{Each, total, IsPrefix}
use Rattle.turnstile.specs.Meaning.{Meaning}
use Rattle.turnstile.specs.Rule.{Past, in_turn, number_count, with_number, idle_view, told_to, made_by, InOrder, last_count, first_place, AccountFits, PastFits, IsKept}
use Rattle.turnstile.specs.Passes.{PassView, account_at, HaveAll, IsAdded, IsMadeOnce, AreApart, AreWithin}
use Rattle.turnstile.proofs.Prefixes.{prefix_trans}
use Rattle.turnstile.proofs.Views.{Each_map}
use Rattle.turnstile.proofs.Accounts.{if_same, if_other, Between, told_between, told_each, in_order_last, has_one}
use Rattle.turnstile.proofs.Totals.{total_at}
use Rattle.turnstile.proofs.Passing.{place_next}
use Rattle.turnstile.proofs.Seats.{in_turn_busy, no_other, number_below, once_below_most}
use Rattle.turnstile.proofs.Making.{maker, made_within}
use Rattle.turnstile.proofs.Stretches.{same_value, nothing_there, each_at, stretches_apart}

-- ---- a fact of each element, by recursion and by index

pub each_of_all : {X : Type 0} (P : X → Type 0) (xs : List X) → All P xs → Each P xs
each_of_all P [] h = tt
each_of_all P (x ∷ xs) h = (h 0 x (omega arith), each_of_all P xs (λ k d lt. h (suc k) d (omega (arith, lt))))

pub all_of_each : {X : Type 0} (P : X → Type 0) (xs : List X) → Each P xs → All P xs
all_of_each P [] h k d lt = absurd (omega (arith, lt))
all_of_each P (x ∷ xs) h zero d lt = h.0
all_of_each P (x ∷ xs) h (suc k) d lt = all_of_each P xs h.1 k d (omega (arith, lt))

total_same : {X : Type 0} (f g : X → ℕ) (xs : List X) → Each (λ x. f x ≡ g x) xs → total f xs ≡ total g xs
total_same f g [] h = refl
total_same f g (x ∷ xs) h = let r = total_same f g xs h.1 in let a = h.0 in omega (arith, a, r)

total_nothing : {X : Type 0} (xs : List X) → total (λ x. 0) xs ≡ 0
total_nothing [] = refl
total_nothing (x ∷ xs) = let r = total_nothing xs in omega (arith, r)

each_two : {X : Type 0} (P Q R : X → Type 0) → ((x : X) → P x → Q x → R x) → (xs : List X) → Each P xs → Each Q xs → Each R xs
each_two P Q R f [] h k = tt
each_two P Q R f (x ∷ xs) h k = (f x h.0 k.0, each_two P Q R f xs h.1 k.1)

-- ---- the numbers of passes

module _ {E D : Type 0} where
  -- how many of the passes have the number k
  abbrev pub number_in : ℕ → List (PassView E D) → ℕ
  number_in k ps = with_number k (map account_at ps)

  one_number : (k : ℕ) (ps : List (PassView E D)) (i : ℕ) (p : PassView E D) → slice_get ps i ≡ Some p → p.number ≡ k → 1 ≤ number_in k ps
  one_number k [] i p e same = absurd (nothing_there p e)
  one_number k (q ∷ ps) zero p e same = let o = if_same {A = ℕ} k q.number 1 0 (sym same ∙ ap (λ (x : PassView E D). x.number) (sym (same_value q p e))) in omega (arith, o)
  one_number k (q ∷ ps) (suc i) p e same = let r = one_number k ps i p e same in omega (arith, r)

  two_numbers : (k : ℕ) (ps : List (PassView E D)) (i j : ℕ) (p q : PassView E D) → i ≢ j → slice_get ps i ≡ Some p → slice_get ps j ≡ Some q
      → p.number ≡ k → q.number ≡ k → 2 ≤ number_in k ps
  two_numbers k [] i j p q n a b s t = absurd (nothing_there p a)
  two_numbers k (x ∷ ps) zero zero p q n a b s t = absurd (n refl)
  two_numbers k (x ∷ ps) zero (suc j) p q n a b s t =
      let o = if_same {A = ℕ} k x.number 1 0 (sym s ∙ ap (λ (y : PassView E D). y.number) (sym (same_value x p a))) in let r = one_number k ps j q b t in omega (arith, o, r)
  two_numbers k (x ∷ ps) (suc i) zero p q n a b s t =
      let o = if_same {A = ℕ} k x.number 1 0 (sym t ∙ ap (λ (y : PassView E D). y.number) (sym (same_value x q b))) in let r = one_number k ps i p a s in omega (arith, o, r)
  two_numbers k (x ∷ ps) (suc i) (suc j) p q n a b s t = let r = two_numbers k ps i j p q (λ e. n (ap suc e)) a b s t in omega (arith, r)

  each_account : (P : Account D → Type 0) (ps : List (PassView E D)) → Each P (map account_at ps) → Each (λ p. P (account_at p)) ps
  each_account P [] h = tt
  each_account P (p ∷ ps) h = (h.0, each_account P ps h.1)

  -- ---- the sum of the stretches' weights

  module _ (w : Member D → ℕ) where
    abbrev Light : List (ℕ × Member D) → PassView E D → Type 0
    Light members p = Each (λ t. w t + t.from ≤ t.to) (told_to p.number members)

    abbrev weight : List (ℕ × Member D) → List (PassView E D) → ℕ
    weight members ps = total (λ p. total w (told_to p.number members)) ps

    told_other : (p : PassView E D) (u : ℕ × Member D) (us : List (ℕ × Member D)) → p.number ≢ u.0 → told_to p.number (u ∷ us) ≡ told_to p.number us
    told_other p u us n = if_other p.number u.0 (u.1 ∷ told_to p.number us) (told_to p.number us) n

    told_same : (p : PassView E D) (u : ℕ × Member D) (us : List (ℕ × Member D)) → p.number ≡ u.0 → told_to p.number (u ∷ us) ≡ u.1 ∷ told_to p.number us
    told_same p u us e = if_same p.number u.0 (u.1 ∷ told_to p.number us) (told_to p.number us) e

    light_rest : (u : ℕ × Member D) (us : List (ℕ × Member D)) (p : PassView E D) → Light (u ∷ us) p → Light us p
    light_rest u us p h = ⊎_elim
        (λ t. let both : Each (λ (t : Member D). w t + t.from ≤ t.to) (u.1 ∷ told_to p.number us) = subst (Each (λ (t : Member D). w t + t.from ≤ t.to)) (told_same p u us t.1) h in both.1)
        (λ t. subst (Each (λ (t : Member D). w t + t.from ≤ t.to)) (told_other p u us t.1) h)
        (eqb_tells p.number u.0)

    weight_none : (u : ℕ × Member D) (us : List (ℕ × Member D)) (ps : List (PassView E D)) → number_in u.0 ps ≡ 0 → weight (u ∷ us) ps ≡ weight us ps
    weight_none u us [] h = refl
    weight_none u us (p ∷ ps) h =
        let other : p.number ≢ u.0 = (λ e. let o = if_same {A = ℕ} u.0 p.number 1 0 (sym e) in omega (arith, h, o)) in
        let here : total w (told_to p.number (u ∷ us)) ≡ total w (told_to p.number us) = ap (total w) (told_other p u us other) in
        let rest = weight_none u us ps (omega (arith, h)) in
        omega (arith, here, rest)

    weight_turn : (u : ℕ × Member D) (us : List (ℕ × Member D)) (ps : List (PassView E D)) → number_in u.0 ps ≤ 1 → Each (Light (u ∷ us)) ps
        → (weight (u ∷ us) ps ≡ weight us ps) ⊎ ((weight (u ∷ us) ps ≡ w u.1 + weight us ps) × (w u.1 + u.1.from ≤ u.1.to))
    weight_turn u us [] h light = inl refl
    weight_turn u us (p ∷ ps) h light = ⊎_elim
        (λ t. let o = if_same {A = ℕ} u.0 p.number 1 0 (sym t.1) in
        let here : total w (told_to p.number (u ∷ us)) ≡ w u.1 + total w (told_to p.number us) = ap (total w) (told_same p u us t.1) in
        let rest = weight_none u us ps (omega (arith, h, o)) in
        let both : Each (λ (t : Member D). w t + t.from ≤ t.to) (u.1 ∷ told_to p.number us) = subst (Each (λ (t : Member D). w t + t.from ≤ t.to)) (told_same p u us t.1) light.0 in
        inr (omega (arith, here, rest), both.0))
        (λ t. let here : total w (told_to p.number (u ∷ us)) ≡ total w (told_to p.number us) = ap (total w) (told_other p u us t.1) in
        ⊎_elim (λ e. inl (omega (arith, here, e))) (λ e. let more = e.0 in inr (omega (arith, here, more), e.1)) (weight_turn u us ps (omega (arith, h)) light.1))
        (eqb_tells p.number u.0)

    pub weight_within : (f : ℕ) (members : List (ℕ × Member D)) (ps : List (PassView E D)) → ((k : ℕ) → number_in k ps ≤ 1) → InOrder f members
        → Each (Light members) ps → weight members ps + f ≤ last_count f members
    weight_within f [] ps once h light = let z = total_nothing ps in omega (arith, z)
    weight_within f (u ∷ us) ps once h light =
        let rest = weight_within u.1.to us ps once h.2 (Each_map (Light (u ∷ us)) (Light us) (light_rest u us) ps light) in
        let from = h.0 in
        let up = h.1 in
        ⊎_elim (λ e. omega (arith, e, rest, from, up)) (λ e. let more = e.0 in let small = e.1 in omega (arith, more, small, rest, from)) (weight_turn u us ps (once u.0) light)

-- ---- the end

module _ {T E D : Type 0} (m : Meaning T E D) (opened : T) (n : ℕ) where
  pub record IsEnd (ps : List (PassView E D)) (x : T) : Type 0 where
    pub past : Past E D
    pub so_far : PastFits m opened n past
    pub list : m.entries x ≡ past.history
    pub stays : m.stays x ≡ m.stays opened
    pub faults : last_count (m.faults opened) past.members ≤ m.faults x
    pub fits : Each (λ p. AccountFits m opened past.makers past.members (account_at p)) ps
    pub seen : Each (λ p. IsPrefix p.seen past.history) ps
    pub once : (k : ℕ) → number_in k ps ≤ 1
    pub all : HaveAll n ps

  -- no seat other than the one with the accounts of all passes has an account
  alone_by : (s : State T (View E D)) (kept : IsKept m opened n s) (id j : ℕ) (seen : List E) (ps : List (PassView E D)) (u : View E D)
      → get_elem? s.views id ≡ some (idle_view seen [] (map account_at ps)) → get_elem? s.views j ≡ some u → HaveAll n ps → in_turn u ≡ 1
      → (accounts : List (Account D)) → u.accounts ≡ accounts → ⊥
  alone_by s kept id j seen ps u at there all turn [] e =
      let some_pass = ((kept.views.each j u there).ticket (in_turn_busy u turn)).2 in
      let none : length u.accounts ≡ 0 = ap length e in
      omega (arith, some_pass, none)
  alone_by s kept id j seen ps u at there all turn (a ∷ rest) e =
      let k = a.number in
      let v : View E D = idle_view seen [] (map account_at ps) in
      let has = has_one k u.accounts a rest e refl in
      let low = number_below m opened n kept.past s.views kept.views k j u there has in
      let p = all k low in
      let also = one_number k ps p.0 p.1 p.2 p.3 in
      ⊎_elim
      (λ t. let same : v ≡ u = some-injective v u (sym at ∙ ap (get_elem? s.views) t.1 ∙ there) in
      let z : in_turn v ≡ 1 = subst (λ (q : View E D). in_turn q ≡ 1) (sym same) turn in
      omega (arith, z))
      (λ t. let none = no_other m opened n kept.past s.views kept.views k id j v u t.1 at there also in omega (arith, has, none))
      (eqb_tells id j)

  pub ended : (id : ℕ) (seen : List E) (ps : List (PassView E D)) (ws : List ℕ) (xs : List T) (x : T) → HaveAll n ps → Each (λ p. IsPrefix p.seen seen) ps
      → Final (Seen (IsKept m opened n) id (idle_view seen [] (map account_at ps))) ws xs → get_elem? xs 0 ≡ some x → IsEnd ps x
  ended id seen ps ws xs x all fronts final found =
      let s = final.0 in
      let kept = final.1.0 in
      let at = final.1.1 in
      let v : View E D = idle_view seen [] (map account_at ps) in
      let fits = kept.views.each id v at in
      ⊎_elim
      (λ t. let z = t.0 in
      let there : get_elem? xs 0 ≡ some z = final.4 0 z (ap (λ (l : List (core.Option T)). get_elem? l 0) t.1) in
      subst (IsEnd ps) (some-injective z x (sym there ∙ found))
      (record {
        past = kept.past;
        so_far = kept.so_far;
        list = t.2;
        stays = t.3;
        faults = t.4;
        fits = each_account (AccountFits m opened kept.past.makers kept.past.members) ps fits.accounts;
        seen = Each_map (λ (p : PassView E D). IsPrefix p.seen seen) (λ (p : PassView E D). IsPrefix p.seen kept.past.history)
            (λ p h. prefix_trans p.seen seen kept.past.history h fits.seen) ps fronts;
        once = λ k. let numbers = kept.views.numbers k in let most = once_below_most k n in let one = total_at (number_count k) s.views id v at in omega (arith, numbers, most, one);
        all = all;
      }))
      (λ t. absurd (alone_by s kept id t.1.0 seen ps t.1.1 at t.1.2 all t.1.3 t.1.1.accounts refl))
      kept.home

  module _ (ps : List (PassView E D)) (x : T) (end : IsEnd ps x) where
    -- the members and the first place
    Fitting : PassView E D → Type 0
    Fitting p = AccountFits m opened end.past.makers end.past.members (account_at p)

    pub closed_list : IsPrefix (m.entries opened) (m.entries x)
    closed_list = let l = end.so_far.list in (l.0, end.list ∙ l.1)

    pub closed_seen : All (λ p. IsPrefix p.seen (m.entries x)) ps
    closed_seen = subst (λ (l : List E). All (λ (p : PassView E D). IsPrefix p.seen l) ps) (sym end.list) (all_of_each _ ps end.seen)

    last_place : m.first + length (m.entries x) ≡ first_place m opened + length end.past.makers
    last_place = ap (λ (l : List E). m.first + length l) end.list ∙ sym (place_next m opened n end.past end.so_far)

    same_number : (i j : ℕ) (p q : PassView E D) → slice_get ps i ≡ Some p → slice_get ps j ≡ Some q → p.number ≡ q.number → i ≡ j
    same_number i j p q a b e = ⊎_elim (λ t. t.1)
        (λ t. let two = two_numbers p.number ps i j p q t.1 a b refl (sym e) in let once = end.once p.number in absurd (omega (arith, two, once)))
        (eqb_tells i j)

    pub closed_mine : (place : ℕ) → IsAdded m opened x place → IsMadeOnce ps place
    unfolding Fitting
    closed_mine place added =
        let low = added.0 in
        let high = added.1 in
        let makers = end.past.makers in
        let base = first_place m opened in
        let last = last_place in
        let r = maker place base (λ k. k < n) makers end.so_far.makers low (omega (arith, high, last)) in
        let found = end.all r.k r.is in
        let i = found.0 in
        let p = found.1 in
        let mine : (j : ℕ) (q : PassView E D) → slice_get ps j ≡ Some q → q.mine ≡ made_by q.number base makers = (λ j q at. (each_at Fitting ps j q end.fits at).mine) in (
          i,
          p,
          found.2,
          subst (λ (l : List ℕ). Contains l place) (sym (mine i p found.2 ∙ ap (λ (k : ℕ). made_by k base makers) found.3)) r.made,
          (λ j q at has. same_number j i q p at found.2 (r.only q.number (subst (λ (l : List ℕ). Contains l place) (mine j q at) has) ∙ sym found.3)),
        )

    pub closed_others : All (λ p. All (λ place. (m.first + length (m.entries opened) ≤ place) × (place < m.first + length (m.entries x))) p.mine) ps
    unfolding Fitting
    closed_others =
        let Within : ℕ → Type 0 = (λ place. (m.first + length (m.entries opened) ≤ place) × (place < m.first + length (m.entries x))) in
        let makers = end.past.makers in
        let base = first_place m opened in
        let last = last_place in
        all_of_each (λ (p : PassView E D). All Within p.mine) ps (Each_map Fitting (λ (p : PassView E D). All Within p.mine)
        (λ p f. all_of_each Within p.mine (subst (Each Within) (sym f.mine)
        (Each_map (λ (place : ℕ). (base ≤ place) × (place < base + length makers)) Within (λ place h. (h.0, omega (arith, h.1, last))) (made_by p.number base makers) (made_within p.number base makers)))) ps end.fits)

    pub closed_faults : m.faults opened ≤ m.faults x
    closed_faults = le_trans (in_order_last (m.faults opened) end.past.members end.so_far.faults) end.faults

    pub closed_stretches : All (λ p. All (λ t. (m.faults opened ≤ t.from) × (t.from ≤ t.to) × (t.to ≤ m.faults x)) p.told) ps
    unfolding Fitting
    closed_stretches =
        let Within : Member D → Type 0 = (λ t. (m.faults opened ≤ t.from) × (t.from ≤ t.to) × (t.to ≤ m.faults x)) in
        let members = end.past.members in
        all_of_each (λ (p : PassView E D). All Within p.told) ps (Each_map Fitting (λ (p : PassView E D). All Within p.told)
        (λ p f. all_of_each Within p.told (subst (Each Within) (sym f.told)
        (Each_map (Between (m.faults opened) (last_count (m.faults opened) members)) Within (λ t b. (b.from, b.up, le_trans b.to end.faults)) (told_to p.number members)
        (told_between p.number (m.faults opened) members end.so_far.faults)))) ps end.fits)

    pub closed_apart : AreApart ps
    unfolding Fitting
    closed_apart i j a b p q s t pi qj sa tb n =
        let told : (k : ℕ) (r : PassView E D) → slice_get ps k ≡ Some r → r.told ≡ told_to r.number end.past.members = (λ k r at. (each_at Fitting ps k r end.fits at).told) in
        stretches_apart (m.faults opened) p.number q.number a b s t end.past.members end.so_far.faults
        (ap (λ (l : List (Member D)). slice_get l a) (sym (told i p pi)) ∙ sa) (ap (λ (l : List (Member D)). slice_get l b) (sym (told j q qj)) ∙ tb)
        (⊎_elim (λ d. inl (λ e. d (same_number i j p q pi qj e))) (λ d. inr d) n)

    pub closed_told : All (λ p. All m.tells p.told) ps
    unfolding Fitting
    closed_told =
        let members = end.past.members in
        all_of_each (λ (p : PassView E D). All m.tells p.told) ps (Each_map Fitting (λ (p : PassView E D). All m.tells p.told)
        (λ p f. all_of_each m.tells p.told (subst (Each m.tells) (sym f.told) (told_each m.tells p.number members end.so_far.told))) ps end.fits)

    pub closed_within : AreWithin (m.faults opened) (m.faults x) ps
    unfolding Fitting
    closed_within w light =
        let members = end.past.members in
        let Small : Member D → Type 0 = (λ t. w t + t.from ≤ t.to) in
        let each : Each (λ (p : PassView E D). Each Small p.told) ps =
        Each_map (λ (p : PassView E D). All Small p.told) (λ (p : PassView E D). Each Small p.told) (λ p h. each_of_all Small p.told h) ps (each_of_all _ ps light) in
        let fits : Each Fitting ps = end.fits in
        let moved = each_two (λ (p : PassView E D). Each Small p.told) Fitting (λ (p : PassView E D). Each Small (told_to p.number members)) (λ p h f. subst (Each Small) f.told h) ps each fits in
        let same = total_same (λ (p : PassView E D). total w p.told) (λ (p : PassView E D). total w (told_to p.number members)) ps
        (Each_map Fitting (λ (p : PassView E D). total w p.told ≡ total w (told_to p.number members)) (λ p f. ap (total w) f.told) ps fits) in
        let all = weight_within w (m.faults opened) members ps end.once end.so_far.faults moved in
        let last = end.faults in
        omega (arith, same, all, last)
