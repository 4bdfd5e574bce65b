-- The places of kept cells: two keys have two places, and names are ASCII.
use Rattle.std.proofs.Common.{◌≡◌, ℕ, zero, suc, ◌<◌, List, [], ◌∷◌, ◌++◌, length, Bool, true, false, not, ◌&&◌, ◌==◌, nat_lt, refl, sym, ap, subst, ◌∙◌, arith}
use Rattle.std.specs.Str.{IsAscii}
use Rattle.std.proofs.lemmas.Bool.{ltb-true}
use Rattle.std.proofs.lemmas.Bool.Decides.{nat_tests}
use mathlib.Core.Bool.{true≢false}
use Rattle.lei_code.specs.Code.{IsValid}
use Rattle.lei_code.proofs.Places.{code_is_ascii}
use Rattle.lei_shapes.specs.declared.lists.ExceptionCategory.{ExceptionCategory}
use Rattle.lei_shapes.specs.declared.lists.RelationType.{RelationType}
use Rattle.lei_shapes.specs.Lists.{exception_category_text, relation_type_text}
use Rattle.lei_values.specs.KeptTables.{cell_place}
use Rattle.lei_records.specs.declared.view.RowKey.{RowKey}
use Rattle.register_table.specs.declared.touched.Touched.{Touched}
use Rattle.register_table.specs.Held.{cell_key}
use Rattle.register_history.specs.Kept.{IsKey, kept_cell, key_kind, key_name, place_in}

-- the place of a kept cell is that of its key
pub place-kept : (told : Touched) → cell_place (kept_cell told) ≡ place_in (cell_key told.key)
place-kept told = by_key told.key where
  by_key : (key : RowKey) → key_kind key ∷ key_name key ≡ place_in (cell_key key)
  by_key (RowKey.Rec lei) = refl
  by_key (RowKey.Rel start kind end) = refl
  by_key (RowKey.Exc lei category) = refl

-- ---- texts up to a space

no_space : List ℕ → Bool
no_space [] = true
no_space (b ∷ text) = not (b == 32) && no_space text

second : (p q : Bool) → p && q ≡ true → q ≡ true
second true q is = is
second false q is = absurd (true≢false (sym is))

head_same : (c d : ℕ) (a b : List ℕ) → c ∷ a ≡ d ∷ b → c ≡ d
head_same c d a b is = cc

tail_same : (c d : ℕ) (a b : List ℕ) → c ∷ a ≡ d ∷ b → a ≡ b
tail_same c d a b is = cc

spaced : (c : ℕ) (text : List ℕ) → 32 ≡ c → no_space (c ∷ text) ≡ true → ⊥
unfolding no_space
spaced c text same none = absurd (true≢false (sym (subst (λ d. no_space (d ∷ text) ≡ true) (sym same) none)))

-- a text without a space before a space is determined by the position of the space
cut_same : (a b x y : List ℕ) → no_space a ≡ true → no_space b ≡ true → a ++ 32 ∷ x ≡ b ++ 32 ∷ y → (a ≡ b) × (x ≡ y)
unfolding no_space
cut_same [] [] x y of_a of_b is = (refl, tail_same 32 32 x y is)
cut_same [] (d ∷ b) x y of_a of_b is = absurd (spaced d b (head_same 32 d x (b ++ 32 ∷ y) is) of_b)
cut_same (c ∷ a) [] x y of_a of_b is = absurd (spaced c a (sym (head_same c 32 (a ++ 32 ∷ x) y is)) of_a)
cut_same (c ∷ a) (d ∷ b) x y of_a of_b is =
    let rest = cut_same a b x y (second (not (c == 32)) (no_space a) of_a) (second (not (d == 32)) (no_space b) of_b) (tail_same c d (a ++ 32 ∷ x) (b ++ 32 ∷ y) is) in
    let first = head_same c d (a ++ 32 ∷ x) (b ++ 32 ∷ y) is in
    (ap (λ e. e ∷ a) first ∙ ap (λ t. d ∷ t) rest.0, rest.1)

-- texts of the same length before others are determined
length_same : (a b x y : List ℕ) → length a ≡ length b → a ++ x ≡ b ++ y → (a ≡ b) × (x ≡ y)
length_same [] [] x y sizes is = (refl, is)
length_same [] (d ∷ b) x y sizes is = absurd (omega (arith, sizes))
length_same (c ∷ a) [] x y sizes is = absurd (omega (arith, sizes))
length_same (c ∷ a) (d ∷ b) x y sizes is =
    let rest = length_same a b x y (omega (arith, sizes)) (tail_same c d (a ++ x) (b ++ y) is) in
    let first = head_same c d (a ++ x) (b ++ y) is in
    (ap (λ e. e ∷ a) first ∙ ap (λ t. d ∷ t) rest.0, rest.1)

type_alone : (kind : RelationType) → no_space (relation_type_text kind) ≡ true
unfolding no_space
type_alone RelationType.IsDirectlyConsolidatedBy = refl
type_alone RelationType.IsUltimatelyConsolidatedBy = refl
type_alone RelationType.IsInternationalBranchOf = refl
type_alone RelationType.IsFundManagedBy = refl
type_alone RelationType.IsSubfundOf = refl
type_alone RelationType.IsFeederTo = refl

-- ---- two keys have two places

rec_apart : (x y : List ℕ) (P : Type 0) → 1 ∷ x ≡ 2 ∷ y → P
rec_apart x y P is = let e : 1 ≡ 2 = head_same 1 2 x y is in absurd (omega (arith, e))

exc_apart : (x y : List ℕ) (P : Type 0) → 1 ∷ x ≡ 3 ∷ y → P
exc_apart x y P is = let e : 1 ≡ 3 = head_same 1 3 x y is in absurd (omega (arith, e))

rel_apart : (x y : List ℕ) (P : Type 0) → 2 ∷ x ≡ 3 ∷ y → P
rel_apart x y P is = let e : 2 ≡ 3 = head_same 2 3 x y is in absurd (omega (arith, e))

pub same_place : (a b : RowKey) → IsKey a → IsKey b → place_in (cell_key a) ≡ place_in (cell_key b) → cell_key a ≡ cell_key b
same_place (RowKey.Rec lei) (RowKey.Rec other) of_a of_b is = ap (λ l. (1 ∷ []) ∷ l ∷ []) (tail_same 1 1 lei other is)
same_place (RowKey.Rel start kind end) (RowKey.Rel from type last) of_a of_b is =
    let starts = length_same start from (32 ∷ (relation_type_text kind ++ 32 ∷ end)) (32 ∷ (relation_type_text type ++ 32 ∷ last)) (of_a.0.len ∙ sym of_b.0.len)
    (tail_same 2 2 (start ++ 32 ∷ (relation_type_text kind ++ 32 ∷ end)) (from ++ 32 ∷ (relation_type_text type ++ 32 ∷ last)) is) in
    let rest = cut_same (relation_type_text kind) (relation_type_text type) end last (type_alone kind) (type_alone type)
    (tail_same 32 32 (relation_type_text kind ++ 32 ∷ end) (relation_type_text type ++ 32 ∷ last) starts.1) in
    ap (λ s. (2 ∷ []) ∷ s ∷ relation_type_text kind ∷ end ∷ []) starts.0
    ∙ (ap (λ t. (2 ∷ []) ∷ from ∷ t ∷ end ∷ []) rest.0 ∙ ap (λ e. (2 ∷ []) ∷ from ∷ relation_type_text type ∷ e ∷ []) rest.1)
same_place (RowKey.Exc lei category) (RowKey.Exc other group) of_a of_b is =
    let leis = length_same lei other (32 ∷ exception_category_text category) (32 ∷ exception_category_text group) (of_a.len ∙ sym of_b.len)
    (tail_same 3 3 (lei ++ 32 ∷ exception_category_text category) (other ++ 32 ∷ exception_category_text group) is) in
    ap (λ l. (3 ∷ []) ∷ l ∷ exception_category_text category ∷ []) leis.0
    ∙ ap (λ c. (3 ∷ []) ∷ other ∷ c ∷ []) (tail_same 32 32 (exception_category_text category) (exception_category_text group) leis.1)
same_place (RowKey.Rec lei) (RowKey.Rel from type last) of_a of_b is = rec_apart _ _ _ is
same_place (RowKey.Rel start kind end) (RowKey.Rec other) of_a of_b is = rec_apart _ _ _ (sym is)
same_place (RowKey.Rec lei) (RowKey.Exc other group) of_a of_b is = exc_apart _ _ _ is
same_place (RowKey.Exc lei category) (RowKey.Rec other) of_a of_b is = exc_apart _ _ _ (sym is)
same_place (RowKey.Rel start kind end) (RowKey.Exc other group) of_a of_b is = rel_apart _ _ _ is
same_place (RowKey.Exc lei category) (RowKey.Rel from type last) of_a of_b is = rel_apart _ _ _ (sym is)

-- ---- names are ASCII

all_ascii : List ℕ → Bool
all_ascii [] = true
all_ascii (b ∷ text) = nat_lt b 128 && all_ascii text

both : (p q : Bool) → p ≡ true → q ≡ true → p && q ≡ true
both p q of_p of_q = rw (of_p, of_q) refl

first : (p q : Bool) → p && q ≡ true → p ≡ true
first true q is = refl
first false q is = absurd (true≢false (sym is))

small : (b : ℕ) → b < 128 → nat_lt b 128 ≡ true
small b less = grind (arith, nat_tests)

ascii_all : (text : List ℕ) → IsAscii text → all_ascii text ≡ true
unfolding all_ascii
ascii_all [] ascii = refl
ascii_all (b ∷ text) ascii = both (nat_lt b 128) (all_ascii text) (small b (ascii 0)) (ascii_all text (λ i. ascii (suc i)))

all_is_ascii : (text : List ℕ) → all_ascii text ≡ true → IsAscii text
unfolding all_ascii
all_is_ascii [] is i = omega arith
all_is_ascii (b ∷ text) is zero = ltb-true b 128 (first (nat_lt b 128) (all_ascii text) is)
all_is_ascii (b ∷ text) is (suc i) = all_is_ascii text (second (nat_lt b 128) (all_ascii text) is) i

joined_ascii : (a b : List ℕ) → all_ascii a ≡ true → all_ascii b ≡ true → all_ascii (a ++ 32 ∷ b) ≡ true
unfolding all_ascii
joined_ascii [] b of_a of_b = of_b
joined_ascii (c ∷ a) b of_a of_b =
    both (nat_lt c 128) (all_ascii (a ++ 32 ∷ b)) (first (nat_lt c 128) (all_ascii a) of_a) (joined_ascii a b (second (nat_lt c 128) (all_ascii a) of_a) of_b)

type_ascii : (kind : RelationType) → all_ascii (relation_type_text kind) ≡ true
unfolding all_ascii
type_ascii RelationType.IsDirectlyConsolidatedBy = refl
type_ascii RelationType.IsUltimatelyConsolidatedBy = refl
type_ascii RelationType.IsInternationalBranchOf = refl
type_ascii RelationType.IsFundManagedBy = refl
type_ascii RelationType.IsSubfundOf = refl
type_ascii RelationType.IsFeederTo = refl

category_ascii : (category : ExceptionCategory) → all_ascii (exception_category_text category) ≡ true
unfolding all_ascii
category_ascii ExceptionCategory.DirectAccountingConsolidationParent = refl
category_ascii ExceptionCategory.UltimateAccountingConsolidationParent = refl

pub type_is_ascii : (kind : RelationType) → IsAscii (relation_type_text kind)
type_is_ascii kind = all_is_ascii (relation_type_text kind) (type_ascii kind)

pub category_is_ascii : (category : ExceptionCategory) → IsAscii (exception_category_text category)
category_is_ascii category = all_is_ascii (exception_category_text category) (category_ascii category)

pub lei_ascii : (lei : List ℕ) → IsValid lei → IsAscii lei
lei_ascii lei valid = code_is_ascii lei valid.characters

lei_all : (lei : List ℕ) → IsValid lei → all_ascii lei ≡ true
lei_all lei valid = ascii_all lei (lei_ascii lei valid)

pub name_ascii : (key : RowKey) → IsKey key → IsAscii (key_name key)
name_ascii (RowKey.Rec lei) is = lei_ascii lei is
name_ascii (RowKey.Rel start kind end) is =
    all_is_ascii _ (joined_ascii start (relation_type_text kind ++ 32 ∷ end) (lei_all start is.0)
    (joined_ascii (relation_type_text kind) end (type_ascii kind) (lei_all end is.1)))
name_ascii (RowKey.Exc lei category) is = all_is_ascii _ (joined_ascii lei (exception_category_text category) (lei_all lei is) (category_ascii category))
