-- Fronts of lists, and the longer of two fronts of one list.
use Rattle.std.proofs.Common.{◌≡◌, ◌≤◌, ⊎_elim, List, [], ◌∷◌, ◌++◌, length, refl, sym, ap, ◌∙◌, subst, append_assoc, append-nil, arith, if◌then◌else◌, length-append}
use Rattle.std.proofs.lemmas.Bool.Decides.{leb_tells}
use Rattle.turnstile.specs.Lists.{IsPrefix, longer}

head_of : {E : Type 0} → E → List E → E
head_of d [] = d
head_of d (x ∷ xs) = x

tail_of : {E : Type 0} → List E → List E
tail_of [] = []
tail_of (x ∷ xs) = xs

module _ {E : Type 0} where
  pub prefix_self : (xs : List E) → IsPrefix xs xs
  prefix_self xs = ([], sym (append-nil xs))

  pub prefix_none : (xs : List E) → IsPrefix [] xs
  prefix_none xs = (xs, refl)

  pub prefix_trans : (xs ys zs : List E) → IsPrefix xs ys → IsPrefix ys zs → IsPrefix xs zs
  prefix_trans xs ys zs p q = (p.0 ++ q.0, q.1 ∙ ap (λ l. l ++ q.0) p.1 ∙ append_assoc xs p.0 q.0)

  pub prefix_length : (xs ys : List E) → IsPrefix xs ys → length xs ≤ length ys
  prefix_length xs ys p = let e : length ys ≡ length (xs ++ p.0) = ap length p.1 in let l = length-append xs p.0 in omega (arith, e, l)

  cons_head : (x y : E) (xs ys : List E) → x ∷ xs ≡ y ∷ ys → x ≡ y
  unfolding head_of
  cons_head x y xs ys e = ap (head_of x) e

  cons_tail : (x y : E) (xs ys : List E) → x ∷ xs ≡ y ∷ ys → xs ≡ ys
  unfolding tail_of
  cons_tail x y xs ys e = ap tail_of e

  -- of two fronts of one list, the shorter is a front of the other
  shorter : (xs ys p q : List E) → xs ++ p ≡ ys ++ q → length ys ≤ length xs → IsPrefix ys xs
  shorter xs [] p q e h = (xs, refl)
  shorter [] (y ∷ ys) p q e h = absurd (omega (arith, h))
  shorter (x ∷ xs) (y ∷ ys) p q e h =
      let r = shorter xs ys p q (cons_tail x y (xs ++ p) (ys ++ q) e) (omega (arith, h)) in
      (r.0, λ k. cons_head x y (xs ++ p) (ys ++ q) e k ∷ r.1 k)

  pub prefix_shorter : (xs ys zs : List E) → IsPrefix xs zs → IsPrefix ys zs → length ys ≤ length xs → IsPrefix ys xs
  prefix_shorter xs ys zs p q h = shorter xs ys p.0 q.0 (sym p.1 ∙ q.1) h

  -- Of two fronts of one list, both are fronts of the longer, which is a front of that list.
  pub record LongerOf (xs ys l zs : List E) : Type 0 where
    pub first : IsPrefix xs l
    pub second : IsPrefix ys l
    pub whole : IsPrefix l zs

  pub longer_of : (xs ys zs : List E) → IsPrefix xs zs → IsPrefix ys zs → LongerOf xs ys (longer xs ys) zs
  longer_of xs ys zs p q = ⊎_elim
      (λ t. subst (λ b. LongerOf xs ys (if b then xs else ys) zs) (sym t.0)
      (record { first = prefix_self xs; second = prefix_shorter xs ys zs p q t.1; whole = p }))
      (λ t. let le : length xs ≤ length ys = omega (arith, t.1) in subst (λ b. LongerOf xs ys (if b then xs else ys) zs) (sym t.0)
      (record { first = prefix_shorter ys xs zs q p le; second = prefix_self ys; whole = q }))
      (leb_tells (length ys) (length xs))
