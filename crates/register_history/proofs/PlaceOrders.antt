-- The places of kept cells are in the order of the keys of the cells.
use Rattle.std.proofs.Common.{◌≡◌, ℕ, ◌<◌, List, [], ◌∷◌, ◌++◌, length, Bool, true, false, ◌&&◌, nat_lt, refl, sym, ap, ◌∙◌, arith}
use Rattle.std.proofs.lemmas.Bool.{ltb-true}
use Rattle.std.specs.Cmp.{nat_cmp_is}
use Rattle.std.specs.Cmp.Lexicographic.{slice_cmp}
use Rattle.std.specs.Ordering.{nat_cmp, ordering_then}
use Rattle.std.specs.declared.cmp.Ordering.{Ordering}
use Rattle.std.specs.declared.cmp.Ordering.TheVariants.{Less, Equal, Greater}
use mathlib.Core.Bool.{true≢false}
use Rattle.lei_shapes.specs.declared.lists.RelationType.{RelationType}
use Rattle.lei_shapes.specs.Lists.{exception_category_text, relation_type_text}
use Rattle.lei_records.specs.declared.view.RowKey.{RowKey}
use Rattle.lei_records.specs.Tables.{key_cmp}
use Rattle.register_table.specs.Held.{cell_key}
use Rattle.register_history.specs.Kept.{IsKey, place_in}

then-equal : (o : Ordering) → ordering_then o Equal ≡ o
then-equal Less = refl
then-equal Equal = refl
then-equal Greater = refl

then-then : (a b c : Ordering) → ordering_then (ordering_then a b) c ≡ ordering_then a (ordering_then b c)
then-then Less b c = refl
then-then Equal b c = refl
then-then Greater b c = refl

-- texts of the same length before others
long-same : (a b x y : List ℕ) → length a ≡ length b → slice_cmp nat_cmp (a ++ x) (b ++ y) ≡ ordering_then (slice_cmp nat_cmp a b) (slice_cmp nat_cmp x y)
long-same [] [] x y sizes = refl
long-same [] (d ∷ b) x y sizes = absurd (omega (arith, sizes))
long-same (c ∷ a) [] x y sizes = absurd (omega (arith, sizes))
long-same (c ∷ a) (d ∷ b) x y sizes =
    ap (ordering_then (nat_cmp c d)) (long-same a b x y (omega (arith, sizes))) ∙ sym (then-then (nat_cmp c d) (slice_cmp nat_cmp a b) (slice_cmp nat_cmp x y))

-- texts of bytes greater than a space, before a space
above : List ℕ → Bool
above [] = true
above (b ∷ text) = nat_lt 32 b && above text

first : (p q : Bool) → p && q ≡ true → p ≡ true
first true q is = refl
first false q is = absurd (true≢false (sym is))

second : (p q : Bool) → p && q ≡ true → q ≡ true
second true q is = is
second false q is = absurd (true≢false (sym is))

lower : (n : ℕ) → 32 < n → nat_cmp 32 n ≡ Less
lower n less = sym (nat_cmp_is 32 n Less less)

higher : (n : ℕ) → 32 < n → nat_cmp n 32 ≡ Greater
higher n less = sym (nat_cmp_is n 32 Greater less)

spaced : (a b x y : List ℕ) → above a ≡ true → above b ≡ true → slice_cmp nat_cmp (a ++ 32 ∷ x) (b ++ 32 ∷ y) ≡ ordering_then (slice_cmp nat_cmp a b) (slice_cmp nat_cmp x y)
unfolding above
spaced [] [] x y of_a of_b = refl
spaced [] (d ∷ b) x y of_a of_b =
    ap (λ o. ordering_then o (slice_cmp nat_cmp x (b ++ 32 ∷ y))) (lower d (ltb-true 32 d (first (nat_lt 32 d) (above b) of_b)))
spaced (c ∷ a) [] x y of_a of_b =
    ap (λ o. ordering_then o (slice_cmp nat_cmp (a ++ 32 ∷ x) y)) (higher c (ltb-true 32 c (first (nat_lt 32 c) (above a) of_a)))
spaced (c ∷ a) (d ∷ b) x y of_a of_b =
    ap (ordering_then (nat_cmp c d)) (spaced a b x y (second (nat_lt 32 c) (above a) of_a) (second (nat_lt 32 d) (above b) of_b))
    ∙ sym (then-then (nat_cmp c d) (slice_cmp nat_cmp a b) (slice_cmp nat_cmp x y))

type-above : (kind : RelationType) → above (relation_type_text kind) ≡ true
unfolding above
type-above RelationType.IsDirectlyConsolidatedBy = refl
type-above RelationType.IsUltimatelyConsolidatedBy = refl
type-above RelationType.IsInternationalBranchOf = refl
type-above RelationType.IsFundManagedBy = refl
type-above RelationType.IsSubfundOf = refl
type-above RelationType.IsFeederTo = refl

-- the places of two keys are in the order of the keys
pub place-order : (a b : RowKey) → IsKey a → IsKey b → slice_cmp nat_cmp (place_in (cell_key a)) (place_in (cell_key b)) ≡ key_cmp (cell_key a) (cell_key b)
place-order (RowKey.Rec lei) (RowKey.Rec other) of_a of_b = sym (then-equal (slice_cmp nat_cmp lei other))
place-order (RowKey.Rel start kind end) (RowKey.Rel from type last) of_a of_b =
    long-same start from (32 ∷ (relation_type_text kind ++ 32 ∷ end)) (32 ∷ (relation_type_text type ++ 32 ∷ last)) (of_a.0.len ∙ sym of_b.0.len)
    ∙ ap (ordering_then (slice_cmp nat_cmp start from))
    (spaced (relation_type_text kind) (relation_type_text type) end last (type-above kind) (type-above type)
    ∙ ap (ordering_then (slice_cmp nat_cmp (relation_type_text kind) (relation_type_text type))) (sym (then-equal (slice_cmp nat_cmp end last))))
place-order (RowKey.Exc lei category) (RowKey.Exc other group) of_a of_b =
    long-same lei other (32 ∷ exception_category_text category) (32 ∷ exception_category_text group) (of_a.len ∙ sym of_b.len)
    ∙ ap (ordering_then (slice_cmp nat_cmp lei other)) (sym (then-equal (slice_cmp nat_cmp (exception_category_text category) (exception_category_text group))))
place-order (RowKey.Rec lei) (RowKey.Rel from type last) of_a of_b = refl
place-order (RowKey.Rel start kind end) (RowKey.Rec other) of_a of_b = refl
place-order (RowKey.Rec lei) (RowKey.Exc other group) of_a of_b = refl
place-order (RowKey.Exc lei category) (RowKey.Rec other) of_a of_b = refl
place-order (RowKey.Rel start kind end) (RowKey.Exc other group) of_a of_b = refl
place-order (RowKey.Exc lei category) (RowKey.Rel from type last) of_a of_b = refl
