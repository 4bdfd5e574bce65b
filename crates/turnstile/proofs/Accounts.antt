-- What passes made and were told, as the lists of makers and of all that was told grow.
use Rattle.std.proofs.Common.{◌≡◌, ◌≢◌, ℕ, ◌+◌, ◌≤◌, ◌==◌, if◌then◌else◌, List, [], ◌∷◌, ◌++◌, length, append-nil, refl, sym, ap, ◌∙◌, subst, ⊎_elim, eq-eqb, ne_eqb, le_trans, le_refl, arith}
use Rattle.std.proofs.lemmas.Bool.Decides.{eqb_tells}
use Rattle.turnstile.specs.declared.view.Member.{Member}
use Rattle.turnstile.specs.declared.view.Account.{Account}
use Rattle.turnstile.specs.Lists.{Each}
use Rattle.turnstile.specs.Rule.{made_by, told_to, InOrder, last_count, with_number}
use Rattle.turnstile.proofs.Views.{Each_map}

pub if_same : {A : Type 0} (k j : ℕ) (x y : A) → k ≡ j → (if k == j then x else y) ≡ x
if_same k j x y e = ap (λ b. if b then x else y) (eq-eqb k j e)

pub if_other : {A : Type 0} (k j : ℕ) (x y : A) → k ≢ j → (if k == j then x else y) ≡ y
if_other k j x y n = ap (λ b. if b then x else y) (ne_eqb k j n)

-- ---- makers

-- what was made can be split at any place
pub made_append : (k at : ℕ) (xs ys : List ℕ) → made_by k at (xs ++ ys) ≡ made_by k at xs ++ made_by k (at + length xs) ys
made_append k at [] ys = ap (λ (a : ℕ). made_by k a ys) (omega arith)
made_append k at (x ∷ xs) ys =
    let more : made_by k (at + 1) (xs ++ ys) ≡ made_by k (at + 1) xs ++ made_by k (at + length (x ∷ xs)) ys =
    made_append k (at + 1) xs ys ∙ ap (λ (a : ℕ). made_by k (at + 1) xs ++ made_by k a ys) (omega arith) in
    ⊎_elim
    (λ t. if_same k x _ _ t.1 ∙ ap (λ l. at ∷ l) more ∙ ap (λ l. l ++ made_by k (at + length (x ∷ xs)) ys) (sym (if_same k x (at ∷ made_by k (at + 1) xs) (made_by k (at + 1) xs) t.1)))
    (λ t. if_other k x _ _ t.1 ∙ more ∙ ap (λ l. l ++ made_by k (at + length (x ∷ xs)) ys) (sym (if_other k x (at ∷ made_by k (at + 1) xs) (made_by k (at + 1) xs) t.1)))
    (eqb_tells k x)

-- the pass that makes the next entry
pub made_here : (k at : ℕ) (xs : List ℕ) → made_by k at (xs ++ k ∷ []) ≡ made_by k at xs ++ (at + length xs) ∷ []
made_here k at xs = made_append k at xs (k ∷ []) ∙ ap (λ l. made_by k at xs ++ l) (if_same k k ((at + length xs) ∷ []) [] refl)

-- and for any other pass
pub made_else : (k j at : ℕ) (xs : List ℕ) → k ≢ j → made_by k at (xs ++ j ∷ []) ≡ made_by k at xs
made_else k j at xs n = made_append k at xs (j ∷ []) ∙ ap (λ l. made_by k at xs ++ l) (if_other k j ((at + length xs) ∷ []) [] n) ∙ append-nil (made_by k at xs)

-- ---- what was told

module _ {D : Type 0} where
  pub told_here : (k : ℕ) (ts : List (ℕ × Member D)) (t : Member D) → told_to k (ts ++ (k, t) ∷ []) ≡ told_to k ts ++ t ∷ []
  told_here k [] t = if_same k k (t ∷ []) [] refl
  told_here k (s ∷ ts) t = ⊎_elim
      (λ e. if_same k s.0 _ _ e.1 ∙ ap (λ l. s.1 ∷ l) (told_here k ts t) ∙ ap (λ l. l ++ t ∷ []) (sym (if_same k s.0 (s.1 ∷ told_to k ts) (told_to k ts) e.1)))
      (λ e. if_other k s.0 _ _ e.1 ∙ told_here k ts t ∙ ap (λ l. l ++ t ∷ []) (sym (if_other k s.0 (s.1 ∷ told_to k ts) (told_to k ts) e.1)))
      (eqb_tells k s.0)

  pub told_else : (k j : ℕ) (ts : List (ℕ × Member D)) (t : Member D) → k ≢ j → told_to k (ts ++ (j, t) ∷ []) ≡ told_to k ts
  told_else k j [] t n = if_other k j (t ∷ []) [] n
  told_else k j (s ∷ ts) t n = ⊎_elim
      (λ e. if_same k s.0 _ _ e.1 ∙ ap (λ l. s.1 ∷ l) (told_else k j ts t n) ∙ sym (if_same k s.0 (s.1 ∷ told_to k ts) (told_to k ts) e.1))
      (λ e. if_other k s.0 _ _ e.1 ∙ told_else k j ts t n ∙ sym (if_other k s.0 (s.1 ∷ told_to k ts) (told_to k ts) e.1))
      (eqb_tells k s.0)

  -- ---- stretches of faults

  pub in_order_last : (f : ℕ) (ts : List (ℕ × Member D)) → InOrder f ts → f ≤ last_count f ts
  in_order_last f [] h = le_refl f
  in_order_last f (t ∷ ts) h = let r = in_order_last t.1.to ts h.2 in omega (arith, h.0, h.1, r)

  pub in_order_push : (f : ℕ) (ts : List (ℕ × Member D)) (t : ℕ × Member D) → InOrder f ts → last_count f ts ≤ t.1.from → t.1.from ≤ t.1.to → InOrder f (ts ++ t ∷ [])
  in_order_push f [] t h le up = (le, up, tt)
  in_order_push f (s ∷ ts) t h le up = (h.0, h.1, in_order_push s.1.to ts t h.2 le up)

  pub last_push : (f : ℕ) (ts : List (ℕ × Member D)) (t : ℕ × Member D) → last_count f (ts ++ t ∷ []) ≡ t.1.to
  last_push f [] t = refl
  last_push f (s ∷ ts) t = last_push s.1.to ts t

  -- a stretch is between the count at the opening and the last one
  pub record Between (f l : ℕ) (t : Member D) : Type 0 where
    pub from : f ≤ t.from
    pub up : t.from ≤ t.to
    pub to : t.to ≤ l

  between_more : (f g l : ℕ) → f ≤ g → (t : Member D) → Between g l t → Between f l t
  between_more f g l le t b = record { from = le_trans le b.from; up = b.up; to = b.to }

  pub told_between : (k f : ℕ) (ts : List (ℕ × Member D)) → InOrder f ts → Each (Between f (last_count f ts)) (told_to k ts)
  told_between k f [] h = tt
  told_between k f (t ∷ ts) h =
      let last = in_order_last t.1.to ts h.2 in
      let up : f ≤ t.1.to = omega (arith, h.0, h.1) in
      let rest = Each_map (Between t.1.to (last_count t.1.to ts)) (Between f (last_count t.1.to ts)) (between_more f t.1.to _ up) (told_to k ts) (told_between k t.1.to ts h.2) in
      ⊎_elim
      (λ e. subst (Each (Between f (last_count t.1.to ts))) (sym (if_same k t.0 (t.1 ∷ told_to k ts) (told_to k ts) e.1)) (record { from = h.0; up = h.1; to = last }, rest))
      (λ e. subst (Each (Between f (last_count t.1.to ts))) (sym (if_other k t.0 (t.1 ∷ told_to k ts) (told_to k ts) e.1)) rest)
      (eqb_tells k t.0)

  -- a fact that holds for each member that was told holds for those of a pass
  pub told_each : (P : Member D → Type 0) (k : ℕ) (ts : List (ℕ × Member D)) → Each (λ t. P t.1) ts → Each P (told_to k ts)
  told_each P k [] h = tt
  told_each P k (t ∷ ts) h =
      let rest = told_each P k ts h.1 in
      ⊎_elim
      (λ e. subst (Each P) (sym (if_same k t.0 (t.1 ∷ told_to k ts) (told_to k ts) e.1)) (h.0, rest))
      (λ e. subst (Each P) (sym (if_other k t.0 (t.1 ∷ told_to k ts) (told_to k ts) e.1)) rest)
      (eqb_tells k t.0)

  -- ---- numbers of accounts

  pub has_one : (k : ℕ) (accounts : List (Account D)) (a : Account D) (rest : List (Account D)) → accounts ≡ a ∷ rest → k ≡ a.number → 1 ≤ with_number k accounts
  has_one k accounts a rest e same =
      let one : with_number k (a ∷ rest) ≡ 1 + with_number k rest = ap (λ (x : ℕ). x + with_number k rest) (if_same k a.number 1 0 same) in
      subst (λ l. 1 ≤ with_number k l) (sym e) (omega (arith, one))

  -- a fact of each account without the number k
  pub Each_without : (k : ℕ) (P Q : Account D → Type 0) → ((a : Account D) → a.number ≢ k → P a → Q a)
      → (accounts : List (Account D)) → with_number k accounts ≡ 0 → Each P accounts → Each Q accounts
  Each_without k P Q f [] none h = tt
  Each_without k P Q f (a ∷ rest) none h =
      let other : a.number ≢ k = (λ e. let one = if_same {A = ℕ} k a.number 1 0 (sym e) in absurd (omega (arith, none, one))) in
      (f a other h.0, Each_without k P Q f rest (omega (arith, none)) h.1)
