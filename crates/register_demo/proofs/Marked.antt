-- Places of marks, and the digits after them.
use Rattle.std.proofs.Common.{◌≡◌, ℕ, suc, ◌+◌, ◌-◌, ◌<◌, Bool, true, cond, List, [], ◌∷◌, ◌++◌, length, drop, take, get_or, Option, Some, None, add-one, append_assoc, ap, sym, subst, ◌∙◌, arith}
use Rattle.std.specs.Prelude.{slice_get, take_while}
use Rattle.std.specs.List.{prefix_len}
use Rattle.std.proofs.Math.Seq.{drop-cons}
use Rattle.std.proofs.lemmas.List.{length-drop, take_all, take_more}
use Rattle.memchr.specs.Find.{FindsNeedle, matches}
use Rattle.memchr.proofs.lemmas.MatchLemmas.{matches-first, matches-none}
use Rattle.register_demo.specs.Marks.{text_after, text_after_place}

-- the text after the place that a search finds
pub found : (mark text : List ℕ) (place : Option ℕ) → FindsNeedle text mark 0 place → text_after_place mark text place ≡ text_after mark text
found mark text None is = sym (ap (λ places. text_after_place mark text (slice_get places 0)) (matches-none text mark 0 is))
found mark text (Some at) is = sym (ap (λ places. text_after_place mark text (slice_get places 0)) (matches-first text mark 0 at is.0 is.1))

-- the part of a text from a place to its end
pub to-end : (text : List ℕ) (at : ℕ) → take (length text - at) (drop at text) ≡ drop at text
to-end text at = take_all (length text - at) (drop at text) (omega (arith, length-drop at text))

-- the prefix of a list whose elements pass a test, if its first element does
front : (test : ℕ → Bool) (x : ℕ) (xs : List ℕ) → test x ≡ true → take_while test (x ∷ xs) ≡ x ∷ take_while test xs
front test x xs passes = let P : Bool → Type 0 = λ b. take (cond b (1 + prefix_len test xs) 0) (x ∷ xs) ≡ x ∷ take_while test xs in
    subst P (sym passes) (ap (λ n. take n (x ∷ xs)) (one-more (prefix_len test xs)))
  where
    one-more : (n : ℕ) → 1 + n ≡ suc n
    one-more n = omega arith

-- one more of the bytes that pass a test
pub one-more : (test : ℕ → Bool) (xs : List ℕ) (i : ℕ) → i < length xs → test (get_or xs i 0) ≡ true
    → take i xs ++ take_while test (drop i xs) ≡ take_while test xs → take (i + 1) xs ++ take_while test (drop (i + 1) xs) ≡ take_while test xs
one-more test xs i within passes is =
    let x = get_or xs i 0 in
    let rest = drop (i + 1) xs in
    let cut : drop i xs ≡ x ∷ rest = drop-cons xs i 0 within ∙ ap (λ k. x ∷ drop k xs) (sym (add-one i)) in
    ap (λ ys. ys ++ take_while test rest) (take_more xs i 0 within) ∙ append_assoc (take i xs) (x ∷ []) (take_while test rest)
    ∙ ap (λ ys. take i xs ++ ys) (sym (ap (take_while test) cut ∙ front test x rest passes)) ∙ is
