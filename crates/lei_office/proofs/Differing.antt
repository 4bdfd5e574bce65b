-- The first place at which two lists of cells differ.
use Rattle.std.proofs.Common.{◌≡◌, ℕ, zero, suc, ◌≤◌, List, [], ◌∷◌, ◌++◌, length, take, Some, None, refl, sym, ap, ◌∙◌, arith, slice_get, ◌+◌, add-one}
use Rattle.lei_values.specs.declared.cell.KeptCell.{KeptCell}
use Rattle.register_history.specs.declared.damage.Damage.{Damage}
use Rattle.register_history.specs.Damage.{DifferFirst, not_kept, not_made}

head_same : (c d : KeptCell) (a b : List KeptCell) → c ∷ a ≡ d ∷ b → c ≡ d
head_same c d a b is = cc

tail_same : (c d : KeptCell) (a b : List KeptCell) → c ∷ a ≡ d ∷ b → a ≡ b
tail_same c d a b is = cc

-- after a cell that is the same in both lists
more : (k m : KeptCell) (kept made : List KeptCell) (damage : Damage) → k ≡ m → DifferFirst kept made damage → DifferFirst (k ∷ kept) (m ∷ made) damage
more k m kept made damage same is = record {
  front = m ∷ is.front;
  kept_rest = is.kept_rest;
  made_rest = is.made_rest;
  kept_is = ap (λ c. c ∷ kept) same ∙ ap (λ l. m ∷ l) is.kept_is;
  made_is = ap (λ l. m ∷ l) is.made_is;
  differs = is.differs;
}

-- a kept cell isn't the one at its place
pub differs-at : (kept made : List KeptCell) (place : ℕ) (cell : KeptCell) (damage : Damage) → take place kept ≡ take place made → place ≤ length made
    → slice_get kept place ≡ Some cell → (slice_get made place ≡ Some cell → ⊥) → damage ≡ not_made cell (slice_get made place) → DifferFirst kept made damage
differs-at [] made place cell damage same within at other is = cc
differs-at (k ∷ kept) [] zero cell damage same within at other is =
    let own : cell ≡ k = cc in
    record { front = []; kept_rest = k ∷ kept; made_rest = []; kept_is = refl; made_is = refl; differs = is ∙ ap (λ c. not_made c None) own }
differs-at (k ∷ kept) (m ∷ made) zero cell damage same within at other is =
    let own : cell ≡ k = cc in
    record {
      front = [];
      kept_rest = k ∷ kept;
      made_rest = m ∷ made;
      kept_is = refl;
      made_is = refl;
      differs = (λ one. other (ap Some (sym one ∙ sym own)), is ∙ ap (λ c. not_made c (Some m)) own);
    }
differs-at (k ∷ kept) [] (suc place) cell damage same within at other is = absurd (omega (arith, within))
differs-at (k ∷ kept) (m ∷ made) (suc place) cell damage same within at other is =
    more k m kept made damage (head_same k m (take place kept) (take place made) same)
    (differs-at kept made place cell damage (tail_same k m (take place kept) (take place made) same) (omega (arith, within)) at other is)

-- all kept cells are the same, and the register has more
pub lacks-at : (kept made : List KeptCell) (cell : KeptCell) (damage : Damage) → take (length kept) kept ≡ take (length kept) made → slice_get made (length kept) ≡ Some cell
    → damage ≡ not_kept cell → DifferFirst kept made damage
lacks-at [] [] cell damage same at is = cc
lacks-at [] (m ∷ made) cell damage same at is =
    let own : cell ≡ m = cc in
    record { front = []; kept_rest = []; made_rest = m ∷ made; kept_is = refl; made_is = refl; differs = is ∙ ap not_kept own }
lacks-at (k ∷ kept) [] cell damage same at is = cc
lacks-at (k ∷ kept) (m ∷ made) cell damage same at is =
    more k m kept made damage (head_same k m (take (length kept) kept) (take (length kept) made) same)
    (lacks-at kept made cell damage (tail_same k m (take (length kept) kept) (take (length kept) made) same) at is)

-- all cells are the same
pub same-all : (kept made : List KeptCell) → take (length kept) kept ≡ take (length kept) made → slice_get made (length kept) ≡ None → kept ≡ made
same-all [] [] same at = refl
same-all [] (m ∷ made) same at = cc
same-all (k ∷ kept) [] same at = cc
same-all (k ∷ kept) (m ∷ made) same at =
    let one = head_same k m (take (length kept) kept) (take (length kept) made) same in
    let rest = same-all kept made (tail_same k m (take (length kept) kept) (take (length kept) made) same) at in
    λ i. one i ∷ rest i

-- one more cell is the same
take-at : (cells : List KeptCell) (place : ℕ) (cell : KeptCell) → slice_get cells place ≡ Some cell → (take (suc place) cells ≡ take place cells ++ cell ∷ []) × (suc place ≤ length cells)
take-at [] place cell at = cc
take-at (c ∷ cells) zero cell at = ((let own : c ≡ cell = cc in ap (λ x. x ∷ []) own), omega arith)
take-at (c ∷ cells) (suc place) cell at = (let rest = take-at cells place cell at in (ap (λ l. c ∷ l) rest.0, omega (arith, rest.1)))

pub record SoFar (kept made : List KeptCell) (place : ℕ) : Type 0 where
  pub within : place ≤ length made
  pub same : take place kept ≡ take place made

pub one-more : (kept made : List KeptCell) (place : ℕ) (cell : KeptCell) → take place kept ≡ take place made → slice_get kept place ≡ Some cell → slice_get made place ≡ Some cell
    → SoFar kept made (place + 1)
one-more kept made place cell same at other =
    let first = take-at kept place cell at in
    let second = take-at made place cell other in
    record {
      within = omega (arith, second.1);
      same = ap (λ n. take n kept) (add-one place) ∙ (first.0 ∙ (ap (λ l. l ++ cell ∷ []) same ∙ (sym second.0 ∙ ap (λ n. take n made) (sym (add-one place)))));
    }
