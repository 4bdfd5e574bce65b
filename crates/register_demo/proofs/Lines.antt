-- Lines that are appended one after the other.
use Rattle.std.proofs.Common.{◌≡◌, ℕ, List, [], ◌∷◌, ◌++◌, ap, refl, sym, ◌∙◌, append_assoc}
use Rattle.std.specs.Prelude.{decimal}
use Rattle.std.proofs.lemmas.List.{append-nil}
use Rattle.register_demo.specs.Summary.{lines_text, summary_line}

-- the lines of two lists
pub lines-append : (xs ys : List (List ℕ × List ℕ)) → lines_text (xs ++ ys) ≡ lines_text xs ++ lines_text ys
lines-append [] ys = refl
lines-append (x ∷ xs) ys = ap (λ text. summary_line x ++ text) (lines-append xs ys) ∙ sym (append_assoc (summary_line x) (lines_text xs) (lines_text ys))

-- no lines yet
pub no-lines : (old : List ℕ) → old ≡ old ++ lines_text []
no-lines old = sym (append-nil old)

-- one more line with a name and a text
pub put-text : (lines : List (List ℕ × List ℕ)) (name text own : List ℕ) (old before out : List ℕ) → before ≡ old ++ lines_text lines → text ≡ own
    → out ≡ before ++ lines_text ((name, text) ∷ []) → out ≡ old ++ lines_text (lines ++ (name, own) ∷ [])
put-text lines name text own old before out is same put =
    put ∙ ap (λ xs. before ++ lines_text ((name, xs) ∷ [])) same ∙ ap (λ xs. xs ++ lines_text ((name, own) ∷ [])) is
    ∙ append_assoc old (lines_text lines) (lines_text ((name, own) ∷ [])) ∙ ap (λ xs. old ++ xs) (sym (lines-append lines ((name, own) ∷ [])))

-- one more line with a name and a number
pub put-number : (lines : List (List ℕ × List ℕ)) (name : List ℕ) (n m : ℕ) (old before out : List ℕ) → before ≡ old ++ lines_text lines → n ≡ m
    → out ≡ before ++ lines_text ((name, decimal n) ∷ []) → out ≡ old ++ lines_text (lines ++ (name, decimal m) ∷ [])
put-number lines name n m old before out is same put = put-text lines name (decimal n) (decimal m) old before out is (ap decimal same) put

-- three parts of lines
pub three-parts : (xs ys zs : List (List ℕ × List ℕ)) (first second out : List ℕ) → first ≡ lines_text xs → second ≡ first ++ lines_text ys
    → out ≡ second ++ lines_text zs → out ≡ lines_text (xs ++ (ys ++ zs))
three-parts xs ys zs first second out a b c =
    c ∙ ap (λ text. text ++ lines_text zs) (b ∙ ap (λ text. text ++ lines_text ys) a) ∙ append_assoc (lines_text xs) (lines_text ys) (lines_text zs)
    ∙ ap (λ text. lines_text xs ++ text) (sym (lines-append ys zs)) ∙ sym (lines-append xs (ys ++ zs))
