-- Texts in pairs.
use Rattle.std.proofs.Common.{◌≡◌, ℕ, zero, suc, ◌+◌, ◌*◌, ◌<◌, List, [], ◌∷◌, ◌++◌, length, refl, sym, ap, ◌∙◌, arith}
use Rattle.std.specs.Prelude.{get_or}
use Rattle.std.proofs.lemmas.List.{get_or_default}
use Rattle.std.specs.List.Sorted.{IsStrictlySortedBy}
use Rattle.item_fields.specs.Names.{NamesRise, ArePaired, in_pairs}

-- without texts there are no pairs
pub none_paired : (texts : List (List ℕ)) → texts ≡ [] → ArePaired texts
unfolding IsStrictlySortedBy
none_paired texts none = rw none (record { even = refl; rising = tt })

-- there are twice as many texts as pairs
pub pairs_count : (texts : List (List ℕ)) (pairs : List (List ℕ × List ℕ)) → ArePaired texts → in_pairs texts ≡ pairs
    → length pairs + length pairs ≡ length texts
pairs_count texts pairs are is = rw (sym is) are.even

-- the pair at an index
pub first_at : (texts : List (List ℕ)) (i : ℕ) → i < length (in_pairs texts)
    → get_or texts (2 * i) [] ≡ (get_or (in_pairs texts) i ([], [])).0
first_at [] i within = (let none : ⊥ = omega (arith, within) in absurd none)
first_at (name ∷ []) i within = (let none : ⊥ = omega (arith, within) in absurd none)
first_at (name ∷ text ∷ texts) zero within = refl
first_at (name ∷ text ∷ texts) (suc i) within =
    let at : 2 * suc i ≡ suc (suc (2 * i)) = omega arith in
    ap (λ n. get_or (name ∷ text ∷ texts) n []) at ∙ first_at texts i (omega (arith, within))

pub second_at : (texts : List (List ℕ)) (i : ℕ) → i < length (in_pairs texts)
    → get_or texts (2 * i + 1) [] ≡ (get_or (in_pairs texts) i ([], [])).1
second_at [] i within = (let none : ⊥ = omega (arith, within) in absurd none)
second_at (name ∷ []) i within = (let none : ⊥ = omega (arith, within) in absurd none)
second_at (name ∷ text ∷ texts) zero within = refl
second_at (name ∷ text ∷ texts) (suc i) within =
    let at : 2 * suc i + 1 ≡ suc (suc (2 * i + 1)) = omega arith in
    ap (λ n. get_or (name ∷ text ∷ texts) n []) at ∙ second_at texts i (omega (arith, within))

length_one : {X : Type 0} (xs : List X) (x : X) → length (xs ++ x ∷ []) ≡ suc (length xs)
length_one [] x = refl
length_one (y ∷ ys) x = ap suc (length_one ys x)

length_two : {X : Type 0} (xs : List X) (x y : X) → length ((xs ++ x ∷ []) ++ y ∷ []) ≡ suc (suc (length xs))
length_two xs x y = length_one (xs ++ x ∷ []) y ∙ ap suc (length_one xs x)

-- a name and a text at an index are its pair
pub pair_at : (pairs : List (List ℕ × List ℕ)) (i : ℕ) (name text : List ℕ) → i < length pairs
    → name ≡ (get_or pairs i ([], [])).0 → text ≡ (get_or pairs i ([], [])).1 → (name, text) ≡ get_or pairs i (name, text)
pair_at pairs i name text within first second =
    ap (λ n. (n, text)) first ∙ ap (λ t. ((get_or pairs i ([], [])).0, t)) second ∙ get_or_default pairs i ([], []) (name, text) within

-- one more pair
paired_push : (texts : List (List ℕ)) (name text : List ℕ) → length (in_pairs texts) + length (in_pairs texts) ≡ length texts
    → in_pairs ((texts ++ name ∷ []) ++ text ∷ []) ≡ in_pairs texts ++ (name, text) ∷ []
paired_push [] name text even = refl
paired_push (one ∷ []) name text even = (let none : ⊥ = omega (arith, even) in absurd none)
paired_push (one ∷ two ∷ texts) name text even = ap (λ pairs. (one, two) ∷ pairs) (paired_push texts name text (omega (arith, even)))

pub pairs_grow : (texts more new : List (List ℕ)) (name text : List ℕ) → ArePaired texts → more ≡ texts ++ name ∷ []
    → new ≡ more ++ text ∷ [] → in_pairs new ≡ in_pairs texts ++ (name, text) ∷ []
pairs_grow texts more new name text are first second = rw (second, first) (paired_push texts name text are.even)

pub paired_grow : (texts more new : List (List ℕ)) (name text : List ℕ) → ArePaired texts → more ≡ texts ++ name ∷ []
    → new ≡ more ++ text ∷ [] → NamesRise (in_pairs texts ++ (name, text) ∷ []) → ArePaired new
paired_grow texts more new name text are first second rising =
    let grown = pairs_grow texts more new name text are first second in
    let count : length new ≡ suc (suc (length texts)) = rw (second, first) (length_two texts name text) in
    let pairs : length (in_pairs new) ≡ suc (length (in_pairs texts)) = ap length grown ∙ length_one (in_pairs texts) (name, text) in
    record { even = rw pairs (omega (arith, count, are.even)); rising = rw grown rising }
