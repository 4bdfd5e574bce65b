-- How the number of a text grows by a character, and how that changes its remainder modulo 97.
use Rattle.std.proofs.Common.{◌≡◌, ℕ, ◌+◌, ◌-◌, ◌*◌, ◌/◌, ◌%◌, ◌<◌, ◌≤◌, List, [], ◌∷◌, ◌++◌, length, get_or, take, fold, refl, ◌∙◌, arith}
use Rattle.std.proofs.lemmas.Bool.Decides.{nat_tests}
use Rattle.std.proofs.lemmas.Grind.{flat_map-append, fold-append}
use Rattle.std.proofs.lemmas.List.{take_more}
use Rattle.lei_code.specs.Number.{digits_for, number}

digits_for-digit : (c : ℕ) → 48 ≤ c → c ≤ 57 → digits_for c ≡ (c - 48) ∷ []
digits_for-digit c low high = grind (arith, nat_tests)

digits_for-letter : (c : ℕ) → 65 ≤ c → c ≤ 90 → digits_for c ≡ (c - 55) / 10 ∷ (c - 55) % 10 ∷ []
digits_for-letter c low high = grind (arith, nat_tests)

-- one more character: its digits continue the number so far
number-push : (text : List ℕ) (c : ℕ) → number (text ++ c ∷ []) ≡ fold (λ n digit. 10 * n + digit) (number text) (digits_for c ++ [])
unfolding number
number-push text c = simp (flat_map-append, fold-append)

pub number-nil : number [] ≡ 0
unfolding number
number-nil = refl

pub number-digit : (text : List ℕ) (c : ℕ) → 48 ≤ c → c ≤ 57 → number (text ++ c ∷ []) ≡ 10 * number text + (c - 48)
number-digit text c low high = number-push text c ∙ rw digits_for-digit

pub number-letter : (text : List ℕ) (c : ℕ) → 65 ≤ c → c ≤ 90 → number (text ++ c ∷ []) ≡ 100 * number text + (c - 55)
number-letter text c low high = number-push text c ∙ rw digits_for-letter (omega arith)

-- the remainder after one more character of a text, from a number with the remainder of those before it
pub next_digit : (text : List ℕ) (i r n : ℕ) → i < length text → 48 ≤ get_or text i 0 → get_or text i 0 ≤ 57 → r % 97 ≡ n % 97 → n % 97 ≡ number (take i text) % 97
    → (r * 10 + (get_or text i 0 - 48)) % 97 ≡ number (take (i + 1) text) % 97
next_digit text i r n within low high same so_far =
    rw (take_more text i 0 within) (let e = number-digit (take i text) (get_or text i 0) low high in omega arith)

pub next_letter : (text : List ℕ) (i r n : ℕ) → i < length text → 65 ≤ get_or text i 0 → get_or text i 0 ≤ 90 → r % 97 ≡ n % 97 → n % 97 ≡ number (take i text) % 97
    → (r * 100 + (get_or text i 0 - 65) + 10) % 97 ≡ number (take (i + 1) text) % 97
next_letter text i r n within low high same so_far =
    rw (take_more text i 0 within) (let e = number-letter (take i text) (get_or text i 0) low high in omega arith)
