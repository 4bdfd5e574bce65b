-- Passes that move from one list to another, and keep their numbers.
use Rattle.std.proofs.Common.{◌≡◌, ℕ, zero, suc, ◌<◌, ◌⊎◌, inl, inr, ⊎_elim, List, [], ◌∷◌, ◌++◌, length, Some, slice_get, refl, sym, ap, ◌∙◌, subst, arith, length-append}
use Rattle.std.proofs.lemmas.Option.{none-some}
use Rattle.std.proofs.lemmas.List.Elements.{All-nil, All-pop, All-push}
use Rattle.atomic_table.specs.Seated.{TableId}
use Rattle.turnstile.specs.Passes.{PassView, AreOf, HaveAll}
use Rattle.turnstile.proofs.Stretches.{same_value}

module _ {X : Type 0} where
  get_front : (xs ys : List X) (i : ℕ) (x : X) → slice_get xs i ≡ Some x → slice_get (xs ++ ys) i ≡ Some x
  get_front [] ys i x e = absurd (none-some x e)
  get_front (y ∷ xs) ys zero x e = e
  get_front (y ∷ xs) ys (suc i) x e = get_front xs ys i x e

  get_last : (xs : List X) (x : X) → slice_get (xs ++ x ∷ []) (length xs) ≡ Some x
  get_last [] x = refl
  get_last (y ∷ xs) x = get_last xs x

  get_either : (xs : List X) (y : X) (i : ℕ) (x : X) → slice_get (xs ++ y ∷ []) i ≡ Some x
      → (slice_get xs i ≡ Some x) ⊎ (y ≡ x)
  get_either [] y zero x e = inr (same_value y x e)
  get_either [] y (suc i) x e = absurd (none-some x e)
  get_either (z ∷ xs) y zero x e = inl e
  get_either (z ∷ xs) y (suc i) x e = get_either xs y i x e

  no_items : (xs : List X) → length xs ≡ 0 → xs ≡ []
  no_items [] none = refl
  no_items (x ∷ xs) none = absurd (omega (arith, none))

module _ {E D : Type 0} where
  abbrev Has : List (PassView E D) → ℕ → Type 0
  Has ps k = (i : ℕ) × (p : PassView E D) × (slice_get ps i ≡ Some p) × (p.number ≡ k)

  -- The passes of two lists belong to one table, and each number below n is that of one of them.
  pub record Share (table : TableId) (n : ℕ) (left done : List (PassView E D)) : Type 0 where
    pub of_left : AreOf table left
    pub of_done : AreOf table done
    pub either : (k : ℕ) → k < n → Has left k ⊎ Has done k

  pub share_first : (table : TableId) (n : ℕ) (left done : List (PassView E D)) → AreOf table left
      → HaveAll n left → done ≡ [] → Share table n left done
  share_first table n left done h all none =
      record {
        of_left = h;
        of_done = subst (AreOf table) (sym none)
            (All-nil (λ (p : PassView E D). p.table ≡ table));
        either = λ k low. inl (all k low);
      }

  pub share_moved : (table : TableId) (n : ℕ) (left left' done done' : List (PassView E D))
      (p q : PassView E D) → Share table n left done → left ≡ left' ++ p ∷ []
      → done' ≡ done ++ q ∷ [] → q.table ≡ p.table → q.number ≡ p.number → Share table n left' done'
  share_moved table n left left' done done' p q h taken put of same =
      let Of : PassView E D → Type 0 = (λ p. p.table ≡ table) in
      let rest = All-pop Of left left' (Some p) taken h.of_left in
      record {
        of_left = rest.0;
        of_done = subst (AreOf table) (sym put) (All-push Of done q h.of_done (of ∙ rest.1));
        either = λ k low. ⊎_elim
            (λ r. ⊎_elim (λ e. inl (r.0, r.1, e, r.3))
            (λ e. inr (
              length done,
              q,
              ap (λ l. slice_get l (length done)) put ∙ get_last done q,
              same
                  ∙ ap (λ (x : PassView E D). x.number) e ∙ r.3,
            ))
            (get_either left' p r.0 r.1 (ap (λ l. slice_get l r.0) (sym taken) ∙ r.2)))
            (λ r. inr (r.0, r.1, ap (λ l. slice_get l r.0) put ∙ get_front done (q ∷ []) r.0 r.1 r.2, r.3))
            (h.either k low);
      }

  pub share_last : (table : TableId) (n : ℕ) (left done : List (PassView E D)) → Share table n left done
      → left ≡ [] → HaveAll n done
  share_last table n left done h none k low = ⊎_elim
      (λ r. absurd (none-some r.1 (ap (λ l. slice_get l r.0) (sym none) ∙ r.2))) (λ r. r) (h.either k low)

  pub share_table : (table : TableId) (n : ℕ) (left left' done : List (PassView E D)) (p : PassView E D)
      → Share table n left done → left ≡ left' ++ p ∷ [] → p.table ≡ table
  share_table table n left left' done p h taken =
      (All-pop (λ (q : PassView E D). q.table ≡ table) left left' (Some p) taken h.of_left).1

  -- Two passes were taken from the end of a list of two, one after another, and put back in this order.
  pub two_back : (table : TableId) (n m : ℕ) (passes mid rest one done : List (PassView E D))
      (first second first' second' : PassView E D) → AreOf table passes → HaveAll m passes → n ≡ m → length passes ≡ 2
      → passes ≡ mid ++ second ∷ [] → mid ≡ rest ++ first ∷ [] → one ≡ rest ++ second' ∷ [] → done ≡ one ++ first' ∷ []
      → first'.table ≡ first.table → first'.number ≡ first.number → second'.table ≡ second.table
      → second'.number ≡ second.number → HaveAll n done
  two_back table n m passes mid rest one done first second first' second' of all same two taken_second taken_first
      put_second put_first first_of first_same second_of second_same =
      let long = ap length taken_second in
      let longer = ap length taken_first in
      let grows = length-append mid (second ∷ []) in
      let grew = length-append rest (first ∷ []) in
      let none : rest ≡ [] = no_items rest (omega (arith, two, long, longer, grows, grew)) in
      let begun = share_first table m passes [] of all refl in
      let moved = share_moved table m passes mid [] (second' ∷ []) second second' begun taken_second refl second_of
      second_same in
      let both = share_moved table m mid rest (second' ∷ []) (second' ∷ first' ∷ []) first first' moved taken_first refl
      first_of first_same in
      let back : done ≡ second' ∷ first' ∷ [] =
      put_first ∙ ap (λ (l : List (PassView E D)). l ++ first' ∷ [])
      (put_second ∙ ap (λ (l : List (PassView E D)). l ++ second' ∷ []) none) in
      subst (λ (k : ℕ). HaveAll k done) (sym same)
      (subst (λ (l : List (PassView E D)). HaveAll m l) (sym back)
      (share_last table m rest (second' ∷ first' ∷ []) both none))
