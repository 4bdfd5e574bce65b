-- Lines as keys and texts in two lists.
use Rattle.std.proofs.Common.{◌≡◌, ℕ, zero, suc, ◌-◌, ◌≤◌, Option, None, Some, List, [], ◌∷◌, ◌++◌, length, map, refl, sym, ap, ◌∙◌, arith, length-append, Bor}
use Rattle.std.specs.Prelude.{option_map, option_copied, reverse}
use Rattle.std.specs.List.{slice_get}
use Rattle.std.proofs.lemmas.List.{map-append, reverse-append, reverse-reverse}
use Rattle.lei_records.specs.declared.view.RowKey.{RowKey}
use Rattle.lei_records.specs.Tables.{KeyTexts, key_cmp}
use Rattle.copy_csv.specs.declared.rows.RowTexts.{RowTexts}
use Rattle.golden_shelf.specs.Beside.{lines_in}
use Rattle.golden_shelf.specs.Keys.{key_texts}
use Rattle.golden_shelf.specs.Lines.{KeyedLine}
use Rattle.golden_shelf.specs.Walks.{first_order, past}
use Rattle.std.specs.FinMap.Entries.{by_order}
use Rattle.std.specs.declared.cmp.Ordering.{Ordering}

pub length_lines : (keys : List RowKey) (texts : List RowTexts) → length keys ≡ length texts → length (lines_in keys texts) ≡ length texts
length_lines [] [] same = refl
length_lines [] (t ∷ texts) same = absurd (omega arith)
length_lines (k ∷ keys) [] same = absurd (omega arith)
length_lines (k ∷ keys) (t ∷ texts) same = ap suc (length_lines keys texts (omega arith))

pub texts_lines : (keys : List RowKey) (texts : List RowTexts) → length keys ≡ length texts → map (λ (line : KeyedLine). line.1) (lines_in keys texts) ≡ texts
texts_lines [] [] same = refl
texts_lines [] (t ∷ texts) same = absurd (omega arith)
texts_lines (k ∷ keys) [] same = absurd (omega arith)
texts_lines (k ∷ keys) (t ∷ texts) same = ap (λ l. t ∷ l) (texts_lines keys texts (omega arith))

pub keys_lines : (keys : List RowKey) (texts : List RowTexts) → length keys ≡ length texts → map (λ (line : KeyedLine). line.0) (lines_in keys texts) ≡ map key_texts keys
keys_lines [] [] same = refl
keys_lines [] (t ∷ texts) same = absurd (omega arith)
keys_lines (k ∷ keys) [] same = absurd (omega arith)
keys_lines (k ∷ keys) (t ∷ texts) same = ap (λ l. key_texts k ∷ l) (keys_lines keys texts (omega arith))

pub push_lines : (keys : List RowKey) (texts : List RowTexts) (key : RowKey) (t : RowTexts) → length keys ≡ length texts
    → lines_in (keys ++ key ∷ []) (texts ++ t ∷ []) ≡ lines_in keys texts ++ (key_texts key, t) ∷ []
push_lines [] [] key t same = refl
push_lines [] (u ∷ texts) key t same = absurd (omega arith)
push_lines (k ∷ keys) [] key t same = absurd (omega arith)
push_lines (k ∷ keys) (u ∷ texts) key t same = ap (λ l. (key_texts k, u) ∷ l) (push_lines keys texts key t (omega arith))

pub popped : (keys front : List RowKey) (texts begin : List RowTexts) (key : RowKey) (t : RowTexts)
    → keys ≡ front ++ key ∷ [] → texts ≡ begin ++ t ∷ [] → length keys ≡ length texts
    → lines_in keys texts ≡ lines_in front begin ++ (key_texts key, t) ∷ []
popped keys front texts begin key t is are same =
    let same_front : length front ≡ length begin = shorter front begin key t (sym (ap length is) ∙ same ∙ ap length are) in
    ap (λ l. lines_in l texts) is ∙ ap (λ l. lines_in (front ++ key ∷ []) l) are ∙ push_lines front begin key t same_front
  where
    shorter : (front : List RowKey) (begin : List RowTexts) (key : RowKey) (t : RowTexts) → length (front ++ key ∷ []) ≡ length (begin ++ t ∷ [])
        → length front ≡ length begin
    shorter front begin key t e = omega (arith, length-append front (key ∷ []), length-append begin (t ∷ []))

-- the texts of the key at an index
get_key : (keys : List RowKey) (n : ℕ) → option_map key_texts (slice_get keys n) ≡ slice_get (map key_texts keys) n
get_key [] n = refl
get_key (k ∷ keys) zero = refl
get_key (k ∷ keys) (suc n) = get_key keys n

copied : (found : Option (Bor RowKey)) → option_map (λ (key : Bor RowKey). key_texts key.now) found ≡ option_map key_texts (option_copied found)
copied None = refl
copied (Some key) = refl

pub last_key : (keys : List RowKey) (texts : List RowTexts) (found : Option (Bor RowKey)) → length keys ≡ length texts
    → option_copied found ≡ slice_get keys (length keys - 1)
    → option_map (λ (key : Bor RowKey). key_texts key.now) found
    ≡ slice_get (map (λ (line : KeyedLine). line.0) (lines_in keys texts)) (length (lines_in keys texts) - 1)
last_key keys texts found same is =
    copied found ∙ ap (option_map key_texts) is ∙ get_key keys (length keys - 1)
    ∙ ap (λ l. slice_get l (length keys - 1)) (sym (keys_lines keys texts same))
    ∙ ap (λ n. slice_get (map (λ (line : KeyedLine). line.0) (lines_in keys texts)) (n - 1)) (same ∙ sym (length_lines keys texts same))

-- the last item of a list; for lines in reverse order this is the first line
get_last : {X : Type 0} (xs : List X) (x : X) (n : ℕ) → n ≡ length xs → slice_get (xs ++ x ∷ []) n ≡ Some x
get_last [] x n is = ap (slice_get (x ∷ [])) is
get_last (y ∷ xs) x n is = ap (slice_get (y ∷ xs ++ x ∷ [])) is ∙ get_last xs x (length xs) refl

map_length : {X Y : Type 0} (f : X → Y) (xs : List X) → length (map f xs) ≡ length xs
map_length f [] = refl
map_length f (x ∷ xs) = ap suc (map_length f xs)

of_reversed : (k : KeyTexts) (rest : List KeyedLine)
    → option_map (key_cmp k) (slice_get (map (λ (line : KeyedLine). line.0) (reverse rest)) (length (reverse rest) - 1)) ≡ first_order k rest
of_reversed k [] = refl
of_reversed k (line ∷ rest) =
    ap (option_map (key_cmp k))
    (ap (λ l. slice_get (map (λ (line : KeyedLine). line.0) l) (length l - 1)) (reverse-append (line ∷ []) rest)
    ∙ ap (λ l. slice_get l (length (reverse rest ++ line ∷ []) - 1)) (map-append (λ (line : KeyedLine). line.0) (reverse rest) (line ∷ []))
    ∙ get_last (map (λ (line : KeyedLine). line.0) (reverse rest)) line.0 (length (reverse rest ++ line ∷ []) - 1)
    (let a = length-append (reverse rest) (line ∷ []) in let b = map_length (λ (line : KeyedLine). line.0) (reverse rest) in omega (arith, a, b)))

pub first_of : (k : KeyTexts) (back rest : List KeyedLine) (found : Option KeyTexts) → reverse back ≡ rest
    → found ≡ slice_get (map (λ (line : KeyedLine). line.0) back) (length back - 1) → option_map (key_cmp k) found ≡ first_order k rest
first_of k back rest found is at =
    ap (option_map (key_cmp k)) (at ∙ ap (λ l. slice_get (map (λ (line : KeyedLine). line.0) l) (length l - 1)) (sym (reverse-reverse back) ∙ ap reverse is))
    ∙ of_reversed k rest

pub length_past : (k : KeyTexts) (lines : List KeyedLine) → length (past k lines) ≤ length lines
length_past k [] = omega arith
length_past k (e ∷ es) = by (key_cmp k e.0)
  where
    by : (o : Ordering) → length (by_order o (e ∷ es) es (e ∷ es)) ≤ length (e ∷ es)
    by Ordering.Less = omega arith
    by Ordering.Equal = omega arith
    by Ordering.Greater = omega arith
