-- Words compare as the numbers that their first bytes form, if these differ.
use Rattle.std.proofs.Common.{◌≡◌, ℕ, zero, suc, ◌+◌, ◌*◌, ◌<◌, List, [], ◌∷◌, ◌⊎◌, inl, inr, length, get_or, refl, ap, sym, subst, ◌∙◌, arith}
use Rattle.std.specs.Cmp.{nat_cmp_is, ranks}
use Rattle.std.specs.Cmp.Lexicographic.{slice_cmp}
use Rattle.std.specs.declared.cmp.Ordering.{Ordering}
use Rattle.std.specs.declared.cmp.Ordering.TheVariants.{Less, Equal, Greater}
use Rattle.std.specs.Ordering.{nat_cmp, ordering_then, MatchOrdering}
use Rattle.name_search.specs.Heads.{head_after, head_of}

-- each element is a byte
abbrev pub AreBytes : List ℕ → Type 0
AreBytes xs = (k : ℕ) → k < length xs → get_or xs k 0 < 256

-- a lesser number stays lesser, whatever bytes follow
less_after : (n : ℕ) (p q : ℕ) (a b : List ℕ) → AreBytes a → AreBytes b → p < q → head_after n p a < head_after n q b
less_after zero p q a b small_a small_b less = less
less_after (suc n) p q [] [] small_a small_b less = less_after n (p * 256) (q * 256) [] [] small_a small_b (omega arith)
less_after (suc n) p q [] (y ∷ ys) small_a small_b less =
    less_after n (p * 256) (q * 256 + y) [] ys small_a (λ k l. small_b (suc k) (omega arith)) (omega arith)
less_after (suc n) p q (x ∷ xs) [] small_a small_b less =
    let small : x < 256 = small_a 0 (omega arith) in
    less_after n (p * 256 + x) (q * 256) xs [] (λ k l. small_a (suc k) (omega arith)) small_b (omega arith)
less_after (suc n) p q (x ∷ xs) (y ∷ ys) small_a small_b less =
    let small : x < 256 = small_a 0 (omega arith) in
    less_after n (p * 256 + x) (q * 256 + y) xs ys (λ k l. small_a (suc k) (omega arith)) (λ k l. small_b (suc k) (omega arith)) (omega arith)

-- numbers that compare as equal are equal
level : (x y : ℕ) → nat_cmp x y ≡ Equal → x ≡ y
level x y equal = subst (λ o. MatchOrdering o (x < y) (x ≡ y) (y < x)) equal (ranks x y)

-- two texts after equal numbers: equal numbers come out, or numbers in the order of the texts
pub head_order : (n : ℕ) (p q : ℕ) (a b : List ℕ) → AreBytes a → AreBytes b → p ≡ q
    → (head_after n p a ≡ head_after n q b) ⊎ (nat_cmp (head_after n p a) (head_after n q b) ≡ slice_cmp nat_cmp a b)
head_order zero p q a b small_a small_b same = inl same
head_order (suc n) p q [] [] small_a small_b same = inl (ap (λ m. head_after n (m * 256) []) same)
head_order (suc n) p q [] (zero ∷ ys) small_a small_b same =
    by ys (head_order n (p * 256) (q * 256 + 0) [] ys small_a (λ k l. small_b (suc k) (omega arith)) (omega arith))
  where
    by : (rest : List ℕ) → (head_after n (p * 256) [] ≡ head_after n (q * 256 + 0) rest) ⊎ (nat_cmp (head_after n (p * 256) []) (head_after n (q * 256 + 0) rest) ≡ slice_cmp nat_cmp [] rest)
        → (head_after n (p * 256) [] ≡ head_after n (q * 256 + 0) rest) ⊎ (nat_cmp (head_after n (p * 256) []) (head_after n (q * 256 + 0) rest) ≡ Less)
    by rest (inl e) = inl e
    by [] (inr o) = inl (level _ _ o)
    by (byte ∷ rest) (inr o) = inr o
head_order (suc n) p q [] (suc y ∷ ys) small_a small_b same =
    inr (sym (nat_cmp_is _ _ Less (less_after n (p * 256) (q * 256 + suc y) [] ys small_a (λ k l. small_b (suc k) (omega arith)) (omega arith))))
head_order (suc n) p q (zero ∷ xs) [] small_a small_b same =
    by xs (head_order n (p * 256 + 0) (q * 256) xs [] (λ k l. small_a (suc k) (omega arith)) small_b (omega arith))
  where
    by : (rest : List ℕ) → (head_after n (p * 256 + 0) rest ≡ head_after n (q * 256) []) ⊎ (nat_cmp (head_after n (p * 256 + 0) rest) (head_after n (q * 256) []) ≡ slice_cmp nat_cmp rest [])
        → (head_after n (p * 256 + 0) rest ≡ head_after n (q * 256) []) ⊎ (nat_cmp (head_after n (p * 256 + 0) rest) (head_after n (q * 256) []) ≡ Greater)
    by rest (inl e) = inl e
    by [] (inr o) = inl (level _ _ o)
    by (byte ∷ rest) (inr o) = inr o
head_order (suc n) p q (suc x ∷ xs) [] small_a small_b same =
    inr (sym (nat_cmp_is _ _ Greater (less_after n (q * 256) (p * 256 + suc x) [] xs small_b (λ k l. small_a (suc k) (omega arith)) (omega arith))))
head_order (suc n) p q (x ∷ xs) (y ∷ ys) small_a small_b same =
    by (nat_cmp x y) (ranks x y) refl (λ equal. head_order n (p * 256 + x) (q * 256 + y) xs ys rest_a rest_b (let e : x ≡ y = equal in omega arith))
  where
    rest_a : AreBytes xs
    rest_a k l = small_a (suc k) (omega arith)

    rest_b : AreBytes ys
    rest_b k l = small_b (suc k) (omega arith)

    Settled : Ordering → Type 0
    Settled o = (head_after n (p * 256 + x) xs ≡ head_after n (q * 256 + y) ys) ⊎ (nat_cmp (head_after n (p * 256 + x) xs) (head_after n (q * 256 + y) ys) ≡ o)

    first : Ordering
    first = nat_cmp x y

    by : (o : Ordering) → MatchOrdering o (x < y) (x ≡ y) (y < x) → first ≡ o → (x ≡ y → Settled (slice_cmp nat_cmp xs ys)) → Settled (ordering_then first (slice_cmp nat_cmp xs ys))
    by Less less is rest =
        let e : x < y = less in
        let small : x < 256 = small_a 0 (omega arith) in
        inr (sym (nat_cmp_is _ _ Less (less_after n (p * 256 + x) (q * 256 + y) xs ys rest_a rest_b (omega arith))) ∙ ap (λ o. ordering_then o (slice_cmp nat_cmp xs ys)) (sym is))
    by Greater more is rest =
        let e : y < x = more in
        let small : y < 256 = small_b 0 (omega arith) in
        inr (sym (nat_cmp_is _ _ Greater (less_after n (q * 256 + y) (p * 256 + x) ys xs rest_b rest_a (omega arith))) ∙ ap (λ o. ordering_then o (slice_cmp nat_cmp xs ys)) (sym is))
    by Equal equal is rest = subst Settled (ap (λ o. ordering_then o (slice_cmp nat_cmp xs ys)) (sym is)) (rest equal)

-- the order of unequal heads is that of their texts
pub heads_decide : (a b : List ℕ) (o : Ordering) → AreBytes a → AreBytes b → o ≡ nat_cmp (head_of a) (head_of b) → (o ≡ Equal → ⊥) → o ≡ slice_cmp nat_cmp a b
heads_decide a b o small_a small_b is apart = by (head_order 8 0 0 a b small_a small_b refl)
  where
    by : (head_of a ≡ head_of b) ⊎ (nat_cmp (head_of a) (head_of b) ≡ slice_cmp nat_cmp a b) → o ≡ slice_cmp nat_cmp a b
    by (inl same) = absurd (apart (is ∙ sym (nat_cmp_is (head_of a) (head_of b) Equal same)))
    by (inr order) = is ∙ order
