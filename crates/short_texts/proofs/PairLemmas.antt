-- An index of which a part is by the numbers of short texts, and another part by texts.
use Rattle.std.specs.Prelude.{◌≡◌, ℕ, Bool, true, false, ◌==◌, ◌&&◌, cond, List, Option, Some, None, is_some}
use Rattle.std.specs.Bool.{Decides}
use Rattle.std.specs.Str.{bytes_eq}
use Rattle.std.proofs.Common.{refl, sym, ap, ◌∙◌}
use Rattle.std.proofs.lemmas.Bool.Decides.{Decides-and, Decides-eqb, Decides-like, same_from_decides}
use Rattle.std.proofs.lemmas.Slice.Eq.{bytes_eq-Decides}
use mathlib.Core.Bool.{true≢false}
use Rattle.short_texts.specs.Packed.{at_pair, by_numbers, is_same_pair, packed_pair}
use Rattle.short_texts.proofs.NumberLemmas.{packed_pair-one}

some_apart : {X : Type 0} (x : X) → Some x ≡ None → ⊥
some_apart x is = true≢false (ap is_some is)

abbrev numbers_in : ℕ × ℕ → Option (ℕ × ℕ) → ℕ × ℕ
numbers_in others None = others
numbers_in others (Some numbers) = numbers

module _ (text other own second : List ℕ) where
  -- when the two pairs of texts are the same
  same_texts : Decides (bytes_eq text own && bytes_eq other second) ((text ≡ own) × (other ≡ second))
  same_texts = Decides-and (bytes_eq text own) (bytes_eq other second) (bytes_eq-Decides text own) (bytes_eq-Decides other second)

  -- texts of which only two are short aren't the same
  pair_apart : (packed_pair text other ≡ packed_pair own second → ⊥) → (bytes_eq text own && bytes_eq other second) ≡ false
  pair_apart never = by (bytes_eq text own && bytes_eq other second) refl
    where
      by : (b : Bool) → (bytes_eq text own && bytes_eq other second) ≡ b → b ≡ false
      by false is = refl
      by true is = let same = same_texts.0 is in absurd (never (λ j. packed_pair (same.0 j) (same.1 j)))

  -- short texts are the same exactly if their numbers are
  pair_same : (numbers others : ℕ × ℕ) → packed_pair text other ≡ Some numbers → packed_pair own second ≡ Some others
      → is_same_pair numbers others ≡ (bytes_eq text own && bytes_eq other second)
  pair_same numbers others is are =
      same_from_decides (is_same_pair numbers others) (bytes_eq text own && bytes_eq other second)
      (Decides-like (is_same_pair numbers others)
      (λ same. packed_pair-one numbers text other own second is (are ∙ (λ j. Some (sym same.0 j, sym same.1 j))))
      (λ same. let one = ap (numbers_in numbers) (sym is ∙ (λ j. packed_pair (same.0 j) (same.1 j)) ∙ are) in (ap (λ p. p.0) one, ap (λ p. p.1) one))
      (Decides-and (numbers.0 == others.0) (numbers.1 == others.1) (Decides-eqb numbers.0 others.0) (Decides-eqb numbers.1 others.1)))
      same_texts

module _ {X : Type 0} (text other : List ℕ) (change : X → X) where
  -- what is under two short texts was changed
  pub at_pair-short : (numbers : ℕ × ℕ) → packed_pair text other ≡ Some numbers → (old new : ℕ × ℕ → X) (long : List ℕ → List ℕ → X)
      → ((others : ℕ × ℕ) → new others ≡ cond (is_same_pair numbers others) (change (old others)) (old others))
      → (own second : List ℕ) → at_pair new long own second ≡ cond (bytes_eq text own && bytes_eq other second) (change (at_pair old long own second)) (at_pair old long own second)
  at_pair-short numbers is old new long changed own second = by (packed_pair own second) refl
    where
      by : (found : Option (ℕ × ℕ)) → packed_pair own second ≡ found
          → by_numbers new (long own second) found
          ≡ cond (bytes_eq text own && bytes_eq other second) (change (by_numbers old (long own second) found)) (by_numbers old (long own second) found)
      by None none =
          let was = long own second in
          sym (ap (λ b. cond b (change was) was) (pair_apart text other own second (λ p. some_apart numbers (sym is ∙ p ∙ none))))
      by (Some others) are =
          let was = old others in
          changed others ∙ ap (λ b. cond b (change was) was) (pair_same text other own second numbers others is are)

  -- what is under two other texts was changed
  pub at_pair-long : packed_pair text other ≡ None → (short : ℕ × ℕ → X) (old new : List ℕ → List ℕ → X)
      → ((own second : List ℕ) → new own second ≡ cond (bytes_eq text own && bytes_eq other second) (change (old own second)) (old own second))
      → (own second : List ℕ) → at_pair short new own second ≡ cond (bytes_eq text own && bytes_eq other second) (change (at_pair short old own second)) (at_pair short old own second)
  at_pair-long none short old new changed own second = by (packed_pair own second) refl
    where
      by : (found : Option (ℕ × ℕ)) → packed_pair own second ≡ found
          → by_numbers short (new own second) found
          ≡ cond (bytes_eq text own && bytes_eq other second) (change (by_numbers short (old own second) found)) (by_numbers short (old own second) found)
      by None is = changed own second
      by (Some others) are =
          let was = short others in
          sym (ap (λ b. cond b (change was) was) (pair_apart text other own second (λ p. some_apart others (sym are ∙ sym p ∙ none))))

-- both parts are the same, so the index is
pub at_pair-same : {X : Type 0} (short newer : ℕ × ℕ → X) (long later : List ℕ → List ℕ → X)
    → ((numbers : ℕ × ℕ) → newer numbers ≡ short numbers) → ((text other : List ℕ) → later text other ≡ long text other)
    → (text other : List ℕ) → at_pair newer later text other ≡ at_pair short long text other
at_pair-same short newer long later shorts longs text other = by (packed_pair text other)
  where
    by : (found : Option (ℕ × ℕ)) → by_numbers newer (later text other) found ≡ by_numbers short (long text other) found
    by None = longs text other
    by (Some numbers) = shorts numbers
