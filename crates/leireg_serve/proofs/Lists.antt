-- Two lists, place by place.
use Rattle.std.proofs.Common.{◌≡◌, ℕ, suc, ◌+◌, ◌<◌, List, [], ◌∷◌, ◌++◌, length, drop, take, All, Option, None, Some, MatchOption, IsSomeAnd, slice_get, slice_index_or, refl, sym, ap, ◌∙◌, subst, arith}
use Rattle.std.specs.List.{AllZip}
use Rattle.std.proofs.Math.Seq.{take-length}
use Rattle.std.proofs.lemmas.List.{append-nil, length-append}
use Rattle.std.proofs.lemmas.List.Elements.{All-cons, All-head, All-nil, All-push, All-tail}
use Rattle.std.proofs.lemmas.Slice.Zip.{AllZip-left}

pub zip_from_places : {A : Type 0} (R : A → A → Type 0) (xs ys : List A) → length ys ≡ length xs
    → ((k : ℕ) (d : A) → k < length xs → R (slice_index_or xs k d) (slice_index_or ys k d)) → AllZip R xs ys
zip_from_places R [] [] even each = cc
zip_from_places R [] (y ∷ ys) even each = absurd (omega (arith, even))
zip_from_places R (x ∷ xs) [] even each = absurd (omega (arith, even))
zip_from_places {A} R (x ∷ xs) (y ∷ ys) even each =
    (each 0 x (omega arith), zip_from_places R xs ys (omega (arith, even)) (λ k d less. each (suc k) d (omega (arith, less))))

no_rest : {A : Type 0} (xs : List A) → drop (length xs) xs ≡ []
no_rest [] = refl
no_rest (x ∷ xs) = no_rest xs

-- a list of n items that was lent whole, and came back
pub zip_lent : {A : Type 0} (R : A → A → Type 0) (n : ℕ) (xs lent back : List A) → lent ≡ xs → length lent ≡ n → length back ≡ length lent
    → ((k : ℕ) (d : A) → k < length lent → R (slice_index_or lent k d) (slice_index_or back k d))
    → AllZip R xs (take n (back ++ drop (length back) xs))
zip_lent {A} R n xs lent back same long count each =
    let Z : List A → Type 0 = λ l. AllZip R l (take n (back ++ drop (length back) xs)) in
    let none : drop (length back) xs ≡ [] = ap (λ (m : ℕ). drop m xs) (count ∙ ap length same) ∙ no_rest xs in
    let joined : back ++ drop (length back) xs ≡ back = ap (λ (l : List A). back ++ l) none ∙ append-nil back in
    let taken : take n (back ++ drop (length back) xs) ≡ back =
    ap (take n) joined ∙ ap (λ (m : ℕ). take m back) (sym (count ∙ long)) ∙ take-length back in
    subst Z same (subst (λ (l : List A). AllZip R lent l) (sym taken) (zip_from_places R lent back count each))

some_and : {A : Type 0} (found : Option A) (P : A → Type 0) → IsSomeAnd found P → (y : A) × (found ≡ Some y) × P y
some_and None P is = absurd is
some_and (Some y) P is = (y, refl, is)

pub zip_get : {A : Type 0} (R : A → A → Type 0) (xs ys : List A) (i : ℕ) (x : A) → AllZip R xs ys → slice_get xs i ≡ Some x
    → (y : A) × (slice_get ys i ≡ Some y) × R x y
zip_get {A} R xs ys i x zipped at =
    some_and (slice_get ys i) (R x)
    (subst (λ (o : Option A). MatchOption o (Unit {0}) (λ z. IsSomeAnd (slice_get ys i) (R z))) at (AllZip-left R xs ys zipped i))

pub zip_all : {A : Type 0} (R : A → A → Type 0) (P Q : A → Type 0) → ((x y : A) → R x y → P x → Q y) → (xs ys : List A) → AllZip R xs ys → All P xs → All Q ys
zip_all R P Q turns [] [] zipped all = All-nil Q
zip_all R P Q turns [] (y ∷ ys) zipped all = absurd zipped
zip_all R P Q turns (x ∷ xs) [] zipped all = absurd zipped
zip_all R P Q turns (x ∷ xs) (y ∷ ys) zipped all =
    All-cons Q y ys (turns x y zipped.0 (All-head P x xs all)) (zip_all R P Q turns xs ys zipped.1 (All-tail P x xs all))

-- a list of n items that have a property, and one more
pub grown : {A : Type 0} (P : A → Type 0) (n : ℕ) (xs now : List A) (x : A) → now ≡ xs ++ x ∷ [] → P x → (length xs ≡ n) × All P xs
    → (length now ≡ n + 1) × All P now
grown P n xs now x is has (long, all) =
    let longer = ap length is in
    let more = length-append xs (x ∷ []) in
    (omega (arith, longer, more, long), subst (All P) (sym is) (All-push P xs x all has))
