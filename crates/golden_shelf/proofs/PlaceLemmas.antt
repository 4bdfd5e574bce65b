-- Places of lines: a search between two places, and lines whose texts are replaced.
use Rattle.std.proofs.Common.{◌≡◌, ℕ, zero, suc, ◌+◌, ◌<◌, ◌≤◌, true, ◌&&◌, cond, Option, None, Some, List, [], ◌∷◌, length, map, take, drop, refl, sym, ap, subst, ◌∙◌, arith, Bor}
use Rattle.std.specs.Prelude.{IfSome, is_some, nat_lt, option_map, unwrap_or}
use Rattle.golden_shelf.proofs.LineParts.{length_lines}
use Rattle.std.specs.FinMap.Entries.{below_all, by_order, find, is_sorted, put}
use Rattle.std.specs.List.{slice_get, slice_index_or, slice_set}
use Rattle.std.specs.Cmp.{tied_itself}
use Rattle.std.specs.Ordering.{is_eq, is_lt}
use Rattle.std.specs.declared.cmp.Ordering.{Ordering}
use Rattle.std.proofs.lemmas.Bool.{false≢true, lt-ltb}
use Rattle.lei_records.specs.declared.view.RowKey.{RowKey}
use Rattle.lei_records.specs.Tables.{KeyTexts, key_cmp}
use Rattle.copy_csv.specs.declared.rows.RowTexts.{RowTexts}
use Rattle.copy_csv.proofs.RowLemmas.{key_total}
use Rattle.golden_shelf.specs.Beside.{lines_in}
use Rattle.golden_shelf.specs.Keys.{key_texts}
use Rattle.golden_shelf.specs.Lines.{AreSorted, KeyedLine}
use Rattle.golden_shelf.specs.Places.{IsLinePlace, key_of, line_texts_at, with_texts_at}
use Rattle.golden_shelf.proofs.Woven.{AreBelow, back, below_trans, both, find_none, higher, key_same, less}

absurd_none : {X Y : Type 0} (x : X) → None ≡ Some x → Y
absurd_none x e = absurd (false≢true (ap is_some e))

some_is : {X : Type 0} (x y : X) → Some x ≡ Some y → x ≡ y
some_is x y e = ap (λ o. unwrap_or o x) e

-- ---- a search between two places

-- the key at a place
pub key_at : (keys : List RowKey) (texts : List RowTexts) (n : ℕ) (k : RowKey) → length keys ≡ length texts → n < length keys
    → k ≡ slice_index_or keys n k → key_of (lines_in keys texts) n ≡ Some (key_texts k)
key_at [] texts n k same lt is = absurd (omega (arith, lt))
key_at (x ∷ keys) [] n k same lt is = absurd (omega (arith, same))
key_at (x ∷ keys) (t ∷ texts) zero k same lt is = ap (λ k. Some (key_texts k)) (sym is)
key_at (x ∷ keys) (t ∷ texts) (suc n) k same lt is = key_at keys texts n k (omega (arith, same)) (omega (arith, lt)) is

-- a key before all of some lines is before the key at any of their places
before_at : (k j : KeyTexts) (lines : List KeyedLine) (n : ℕ) → below_all key_cmp k lines ≡ true → key_of lines n ≡ Some j → key_cmp k j ≡ Ordering.Less
before_at k j [] n e at = absurd_none j at
before_at k j (x ∷ lines) zero e at =
    ap (key_cmp k) (sym (some_is x.0 j at)) ∙ less (key_cmp k x.0) (both (is_lt (key_cmp k x.0)) (below_all key_cmp k lines) e).0
before_at k j (x ∷ lines) (suc n) e at = before_at k j lines n (both (is_lt (key_cmp k x.0)) (below_all key_cmp k lines) e).1 at

-- if the key at a place is before another one, so are all keys up to this place
pub below_until : (k j : KeyTexts) (lines : List KeyedLine) (n : ℕ) → AreSorted lines → key_of lines n ≡ Some j → key_cmp k j ≡ Ordering.Greater
    → AreBelow k (take (n + 1) lines)
below_until k j [] n sorted at gt = absurd_none j at
below_until k j (x ∷ lines) zero sorted at gt = (ap (key_cmp k) (some_is x.0 j at) ∙ gt, tt)
below_until k j (x ∷ lines) (suc n) sorted at gt =
    let parts = both (below_all key_cmp x.0 lines) (is_sorted key_cmp lines) sorted in
    let one : suc n + 1 ≡ suc (n + 1) = omega arith in
    subst (λ m. AreBelow k (take m (x ∷ lines))) (sym one)
    (higher k j x.0 gt (back x.0 j (before_at x.0 j lines n parts.0 at)), below_until k j lines n parts.1 at gt)

-- if it is after the other one, so are all keys from this place on
pub above_from : (k j : KeyTexts) (lines : List KeyedLine) (n : ℕ) → AreSorted lines → key_of lines n ≡ Some j → key_cmp k j ≡ Ordering.Less
    → below_all key_cmp k (drop n lines) ≡ true
above_from k j [] n sorted at lt = absurd_none j at
above_from k j (x ∷ lines) zero sorted at lt =
    let parts = both (below_all key_cmp x.0 lines) (is_sorted key_cmp lines) sorted in
    let first : key_cmp k x.0 ≡ Ordering.Less = ap (key_cmp k) (some_is x.0 j at) ∙ lt in
    ap (λ b. b && below_all key_cmp k lines) (ap is_lt first) ∙ below_trans k x.0 lines first parts.0
above_from k j (x ∷ lines) (suc n) sorted at lt =
    above_from k j lines n (both (below_all key_cmp x.0 lines) (is_sorted key_cmp lines) sorted).1 at lt

-- if it is the same, the other key is at this place
pub same_at : (k j : KeyTexts) (lines : List KeyedLine) (n : ℕ) → key_of lines n ≡ Some j → key_cmp k j ≡ Ordering.Equal → key_of lines n ≡ Some k
same_at k j lines n at eq = at ∙ ap Some (sym (key_same k j eq))

-- if each line is before a key or after it, the key isn't found
pub nowhere : (k : KeyTexts) (lines : List KeyedLine) (low high : ℕ) → high ≤ low → low ≤ high → AreBelow k (take low lines)
    → below_all key_cmp k (drop high lines) ≡ true → find key_cmp k lines ≡ None
nowhere k lines low high more less below above =
    by lines low below (ap (λ n. below_all key_cmp k (drop n lines)) (omega (arith, more, less)) ∙ above)
  where
    by : (lines : List KeyedLine) (n : ℕ) → AreBelow k (take n lines) → below_all key_cmp k (drop n lines) ≡ true → find key_cmp k lines ≡ None
    by lines zero below above = find_none k lines above
    by [] (suc n) below above = refl
    by (x ∷ lines) (suc n) below above =
        ap (λ o. cond (is_eq o) (Some x.1) (find key_cmp k lines)) below.0 ∙ by lines n below.1 above

-- what is found under the key at a place
pub find_at_place : (k : KeyTexts) (lines : List KeyedLine) (n : ℕ) → AreSorted lines → key_of lines n ≡ Some k → find key_cmp k lines ≡ line_texts_at lines n
find_at_place k [] n sorted at = absurd_none k at
find_at_place k (x ∷ lines) zero sorted at =
    ap (λ j. cond (is_eq (key_cmp k j)) (Some x.1) (find key_cmp k lines)) (some_is x.0 k at)
    ∙ ap (λ o. cond (is_eq o) (Some x.1) (find key_cmp k lines)) (tied_itself key_total k)
find_at_place k (x ∷ lines) (suc n) sorted at =
    let parts = both (below_all key_cmp x.0 lines) (is_sorted key_cmp lines) sorted in
    ap (λ o. cond (is_eq o) (Some x.1) (find key_cmp k lines)) (back x.0 k (before_at x.0 k lines n parts.0 at))
    ∙ find_at_place k lines n parts.1 at

-- the texts at a place, from the list of texts
pub texts_at_place : (keys : List RowKey) (texts : List RowTexts) (n : ℕ) → length keys ≡ length texts
    → line_texts_at (lines_in keys texts) n ≡ slice_get texts n
texts_at_place [] [] n same = refl
texts_at_place [] (t ∷ texts) n same = absurd (omega (arith, same))
texts_at_place (x ∷ keys) [] n same = absurd (omega (arith, same))
texts_at_place (x ∷ keys) (t ∷ texts) zero same = refl
texts_at_place (x ∷ keys) (t ∷ texts) (suc n) same = texts_at_place keys texts n (omega (arith, same))

-- ---- texts that are replaced

pub exchanged : (keys : List RowKey) (texts : List RowTexts) (n : ℕ) (t : RowTexts) → length keys ≡ length texts
    → lines_in keys (slice_set texts n t) ≡ with_texts_at (lines_in keys texts) n t
exchanged [] texts n t same = refl
exchanged (x ∷ keys) [] n t same = absurd (omega (arith, same))
exchanged (x ∷ keys) (u ∷ texts) zero t same = refl
exchanged (x ∷ keys) (u ∷ texts) (suc n) t same = ap (λ l. (key_texts x, u) ∷ l) (exchanged keys texts n t (omega (arith, same)))

-- other texts at the place of a key result from a change of this key
pub put_there : (k : KeyTexts) (lines : List KeyedLine) (n : ℕ) (t : RowTexts) → AreSorted lines → key_of lines n ≡ Some k
    → with_texts_at lines n t ≡ put key_cmp k t lines
put_there k [] n t sorted at = absurd_none k at
put_there k (x ∷ lines) zero t sorted at =
    sym (ap (λ o. by_order o ((k, t) ∷ x ∷ lines) ((x.0, t) ∷ lines) (x ∷ put key_cmp k t lines))
    (ap (key_cmp k) (some_is x.0 k at) ∙ tied_itself key_total k))
put_there k (x ∷ lines) (suc n) t sorted at =
    let parts = both (below_all key_cmp x.0 lines) (is_sorted key_cmp lines) sorted in
    ap (λ l. x ∷ l) (put_there k lines n t parts.1 at)
    ∙ sym (ap (λ o. by_order o ((k, t) ∷ x ∷ lines) ((x.0, t) ∷ lines) (x ∷ put key_cmp k t lines)) (back x.0 k (before_at x.0 k lines n parts.0 at)))

pub length_with_texts : (lines : List KeyedLine) (n : ℕ) (t : RowTexts) → length (with_texts_at lines n t) ≡ length lines
length_with_texts [] n t = refl
length_with_texts (x ∷ lines) zero t = refl
length_with_texts (x ∷ lines) (suc n) t = ap suc (length_with_texts lines n t)

-- the texts that were there before
pub found_texts : (keys : List RowKey) (texts : List RowTexts) (n : ℕ) (t d : RowTexts) → length keys ≡ length texts → n < length texts
    → t ≡ slice_index_or texts n d → Some t ≡ line_texts_at (lines_in keys texts) n
found_texts [] [] n t d same lt is = absurd (omega (arith, lt))
found_texts [] (u ∷ texts) n t d same lt is = absurd (omega (arith, same))
found_texts (x ∷ keys) [] n t d same lt is = absurd (omega (arith, lt))
found_texts (x ∷ keys) (u ∷ texts) zero t d same lt is = ap Some is
found_texts (x ∷ keys) (u ∷ texts) (suc n) t d same lt is = found_texts keys texts n t d (omega (arith, same)) (omega (arith, lt)) is

-- the key at a place, from the slice of keys
pub place_key : (lines : List KeyedLine) (keys ks : List RowKey) (texts : List RowTexts) (n : ℕ) (x : RowKey) → lines_in keys texts ≡ lines → ks ≡ keys
    → length keys ≡ length texts → n < length ks → x ≡ slice_index_or ks n x → key_of lines n ≡ Some (key_texts x)
place_key lines keys ks texts n x view same even lt is =
    ap (λ l. key_of l n) (sym view) ∙ ap (λ l. key_of (lines_in l texts) n) (sym same)
    ∙ key_at ks texts n x (ap length same ∙ even) lt is

-- there are as many lines as keys
pub place_count : (lines : List KeyedLine) (keys ks : List RowKey) (texts : List RowTexts) → lines_in keys texts ≡ lines → ks ≡ keys
    → length keys ≡ length texts → length lines ≡ length ks
place_count lines keys ks texts view same even = sym (ap length view) ∙ length_lines keys texts even ∙ sym even ∙ sym (ap length same)

-- what is found under a key whose place is known
pub under_place : (k : KeyTexts) (lines : List KeyedLine) (n : ℕ) (found : Option (Bor RowTexts)) → AreSorted lines → IsLinePlace k lines (Some n)
    → option_map (λ (t : Bor RowTexts). t.now) found ≡ line_texts_at lines n → option_map (λ (t : Bor RowTexts). t.now) found ≡ find key_cmp k lines
under_place k lines n found sorted place is = is ∙ sym (find_at_place k lines n sorted place.1)

pub texts_got : (lines : List KeyedLine) (n : ℕ) → slice_get (map (λ (line : KeyedLine). line.1) lines) n ≡ line_texts_at lines n
texts_got [] n = refl
texts_got (x ∷ lines) zero = refl
texts_got (x ∷ lines) (suc n) = texts_got lines n

there_is : {X : Type 0} (xs : List X) (n : ℕ) (x : X) → n < length xs → x ≡ slice_index_or xs n x → Some x ≡ slice_get xs n
there_is [] n x lt is = absurd (omega (arith, lt))
there_is (y ∷ xs) zero x lt is = ap Some is
there_is (y ∷ xs) (suc n) x lt is = there_is xs n x (omega (arith, lt)) is

-- what a slice returns for an index that it has
pub got : {X : Type 0} (xs : List X) (n : ℕ) (found : Option (Bor X)) → n < length xs → is_some found ≡ nat_lt n (length xs)
    → IfSome found (λ x. x.now ≡ slice_index_or xs n x.now) → option_map (λ (t : Bor X). t.now) found ≡ slice_get xs n
got xs n None lt some is = absurd (false≢true (some ∙ lt-ltb n (length xs) lt))
got xs n (Some t) lt some is = there_is xs n t.now lt is
