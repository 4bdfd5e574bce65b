-- Totals over a list in which one element changes, or that grows by one.
use Rattle.std.proofs.Common.{◌≡◌, ◌≢◌, ℕ, zero, suc, ◌+◌, ◌≤◌, List, [], ◌∷◌, ◌++◌, set, refl, sym, ap, arith}
use mathlib.Core.Option.{some, some-injective, some-ne-none}
use lib.ListN.{get_elem?}
use Rattle.turnstile.specs.Lists.{total}

module _ {A : Type 0} (f : A → ℕ) where
  pub total_append : (xs ys : List A) → total f (xs ++ ys) ≡ total f xs + total f ys
  total_append [] ys = omega arith
  total_append (x ∷ xs) ys = let e = total_append xs ys in omega (arith, e)

  pub total_set : (l : List A) (i : ℕ) (a b : A) → get_elem? l i ≡ some a → total f (set l i b) + f a ≡ total f l + f b
  total_set [] i a b e = absurd (some-ne-none a (sym e))
  total_set (x ∷ xs) zero a b e = let h : f x ≡ f a = ap f (some-injective x a e) in omega (arith, h)
  total_set (x ∷ xs) (suc i) a b e = let h = total_set xs i a b e in omega (arith, h)

  pub total_at : (l : List A) (i : ℕ) (a : A) → get_elem? l i ≡ some a → f a ≤ total f l
  total_at [] i a e = absurd (some-ne-none a (sym e))
  total_at (x ∷ xs) zero a e = let h : f x ≡ f a = ap f (some-injective x a e) in omega (arith, h)
  total_at (x ∷ xs) (suc i) a e = let h = total_at xs i a e in omega (arith, h)

  pub total_two : (l : List A) (i j : ℕ) (a b : A) → i ≢ j → get_elem? l i ≡ some a → get_elem? l j ≡ some b → f a + f b ≤ total f l
  total_two [] i j a b n p q = absurd (some-ne-none a (sym p))
  total_two (x ∷ xs) zero zero a b n p q = absurd (n refl)
  total_two (x ∷ xs) zero (suc j) a b n p q = let h : f x ≡ f a = ap f (some-injective x a p) in let t = total_at xs j b q in omega (arith, h, t)
  total_two (x ∷ xs) (suc i) zero a b n p q = let h : f x ≡ f b = ap f (some-injective x b q) in let t = total_at xs i a p in omega (arith, h, t)
  total_two (x ∷ xs) (suc i) (suc j) a b n p q = let t = total_two xs i j a b (λ e. n (ap suc e)) p q in omega (arith, t)

  -- one element is split in two, and the second goes to the end
  pub total_split : (l : List A) (i : ℕ) (a b c : A) → get_elem? l i ≡ some a → f b + f c ≡ f a → total f (set l i b ++ c ∷ []) ≡ total f l
  total_split l i a b c e h = let s = total_set l i a b e in let t = total_append (set l i b) (c ∷ []) in omega (arith, h, s, t)

  -- two elements become others
  pub total_join : (l : List A) (i j : ℕ) (a b c d : A) → get_elem? l i ≡ some a → get_elem? (set l i c) j ≡ some b → f c + f d ≡ f a + f b → total f (set (set l i c) j d) ≡ total f l
  total_join l i j a b c d p q h = let s = total_set l i a c p in let t = total_set (set l i c) j b d q in omega (arith, h, s, t)

pub total_below : {A : Type 0} (f g : A → ℕ) (l : List A) → ((i : ℕ) (a : A) → get_elem? l i ≡ some a → f a ≤ g a) → total f l ≤ total g l
total_below f g [] h = omega arith
total_below f g (x ∷ xs) h = let a = h 0 x refl in let b = total_below f g xs (λ i y e. h (suc i) y e) in omega (arith, a, b)
