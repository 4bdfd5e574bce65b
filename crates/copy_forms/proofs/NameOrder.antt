-- The names of a sheet's fields in JSON rise in byte order.
use Rattle.std.proofs.Common.{◌≡◌, ℕ, zero, suc, ◌+◌, ◌<◌, Bool, true, false, ◌&&◌, List, [], ◌∷◌, length, get_or, refl, sym, subst, arith}
use Rattle.std.specs.Cmp.Lexicographic.{slice_cmp, nat_list_cmp_total}
use Rattle.std.specs.List.Sorted.{IsStrictlySortedBy}
use Rattle.std.specs.Ordering.{is_lt, nat_cmp}
use Rattle.std.specs.declared.cmp.Ordering.{Ordering}
use Rattle.std.proofs.lemmas.Bool.{false≢true}
use Rattle.std.proofs.lemmas.Map.Keys.{sorted_from_all_adjacent}
use Rattle.lei_code.specs.Texts.{Text}
use Rattle.item_fields.specs.Fields.{exception_fields, fields, relation_fields}
use Rattle.register_words.specs.declared.sheets.Sheet.{Sheet}
use Rattle.copy_forms.specs.Json.{json_names}

-- whether each name comes before the next one
adjacent : List Text → Bool
adjacent [] = true
adjacent (x ∷ []) = true
adjacent (x ∷ y ∷ texts) = is_lt (slice_cmp nat_cmp x y) && adjacent (y ∷ texts)

both : (a b : Bool) → (a && b) ≡ true → (a ≡ true) × (b ≡ true)
both true b e = (refl, e)
both false b e = absurd (false≢true e)

less : (o : Ordering) → is_lt o ≡ true → o ≡ Ordering.Less
less Ordering.Less e = refl
less Ordering.Equal e = absurd (false≢true e)
less Ordering.Greater e = absurd (false≢true e)

adjacent-at : (texts : List Text) (k : ℕ) → adjacent texts ≡ true → suc k < length texts
    → slice_cmp nat_cmp (get_or texts k []) (get_or texts (suc k) []) ≡ Ordering.Less
unfolding adjacent
adjacent-at [] k all within = absurd (omega arith)
adjacent-at (x ∷ []) k all within = absurd (omega arith)
adjacent-at (x ∷ y ∷ texts) zero all within = less (slice_cmp nat_cmp x y) (both (is_lt (slice_cmp nat_cmp x y)) (adjacent (y ∷ texts)) all).0
adjacent-at (x ∷ y ∷ texts) (suc k) all within =
    adjacent-at (y ∷ texts) k (both (is_lt (slice_cmp nat_cmp x y)) (adjacent (y ∷ texts)) all).1 (omega arith)

names-adjacent : (sheet : Sheet) → adjacent (json_names sheet) ≡ true
unfolding adjacent fields relation_fields exception_fields
names-adjacent Sheet.Lei = refl
names-adjacent Sheet.Rr = refl
names-adjacent Sheet.Repex = refl

pub names-rise : (sheet : Sheet) → IsStrictlySortedBy (slice_cmp nat_cmp) (json_names sheet)
names-rise sheet = sorted_from_all_adjacent nat_list_cmp_total (json_names sheet) []
    (λ k within. let next : k + 1 ≡ suc k = omega arith in
    let F : ℕ → Type 0 = λ n. slice_cmp nat_cmp (get_or (json_names sheet) k []) (get_or (json_names sheet) n []) ≡ Ordering.Less in
    subst F (sym next) (adjacent-at (json_names sheet) k (names-adjacent sheet) (omega arith)))
