-- The check digits that are computed for a text of 18 characters make it a code.
use Rattle.std.proofs.Common.{◌≡◌, ℕ, ◌+◌, ◌-◌, ◌*◌, ◌/◌, ◌%◌, ◌<◌, ◌≤◌, List, [], ◌∷◌, ◌++◌, length, get_or, ap, sym, ◌∙◌, arith, append_assoc, length-append}
use Rattle.std.proofs.Math.ListN.{get_or-append}
use Rattle.std.proofs.lemmas.Bool.Decides.{nat_tests}
use Rattle.std.proofs.lemmas.List.{get_or-append_right}
use Rattle.std.specs.Prelude.{codes, IsTrue}
use Rattle.lei_code.specs.Number.{number}
use Rattle.lei_code.specs.Code.{may_be_at, IsWellFormed, IsValid}
use Rattle.lei_code.specs.Digits.{two_digits, digits}
use Rattle.lei_code.proofs.Numbers.{number-nil, number-digit}
use Rattle.lei_code.proofs.Faults.{character_fault-at, character_fault-none}
use Rattle.lei_code.proofs.Places.{IsWellFormedTo, may_be_at-digit, well_formed_more}

push-two : (text : List ℕ) (a b : ℕ) → text ++ a ∷ b ∷ [] ≡ (text ++ a ∷ []) ++ b ∷ []
push-two text a b = sym (append_assoc text (a ∷ []) (b ∷ []))

-- two digits more
pub number-two : (text : List ℕ) (tens ones : ℕ) → tens ≤ 9 → ones ≤ 9 → number (text ++ (48 + tens) ∷ (48 + ones) ∷ []) ≡ 100 * number text + (10 * tens + ones)
number-two text tens ones t o =
    let first = number-digit text (48 + tens) (omega arith) (omega arith) in
    let second = number-digit (text ++ (48 + tens) ∷ []) (48 + ones) (omega arith) (omega arith) in
    rw (push-two text (48 + tens) (48 + ones)) (omega arith)

-- the number followed by `00`
pub number-zeros : (text : List ℕ) → number (text ++ codes "00") ≡ 100 * number text
number-zeros text = number-two text 0 0 (omega arith) (omega arith) ∙ omega arith

number-two_digits : (text : List ℕ) (n : ℕ) → n < 100 → number (text ++ two_digits n) ≡ 100 * number text + n
number-two_digits text n small = number-two text (n / 10) (n % 10) (omega arith) (omega arith) ∙ omega arith

pub number-digits : (text : List ℕ) → number (text ++ digits text) ≡ 100 * number text + (98 - (100 * number text) % 97)
unfolding digits
number-digits text = rw (number-zeros text) (number-two_digits text (98 - (100 * number text) % 97) (omega arith))

-- the digits as a number of their own
pub number-own_digits : (text : List ℕ) → number (digits text) ≡ 98 - (100 * number text) % 97
unfolding digits
number-own_digits text =
    rw (number-zeros text)
    (let own = number-two_digits [] (98 - (100 * number text) % 97) (omega arith) in let none = number-nil in omega arith)

pub at_least_2 : (text : List ℕ) → 2 ≤ number (digits text)
at_least_2 text = let own = number-own_digits text in omega arith

pub at_most_98 : (text : List ℕ) → number (digits text) ≤ 98
at_most_98 text = let own = number-own_digits text in omega arith

well_formed-push_two : (text : List ℕ) (tens ones : ℕ) → length text ≡ 18 → IsWellFormed text → tens ≤ 9 → ones ≤ 9 → IsWellFormed (text ++ (48 + tens) ∷ (48 + ones) ∷ [])
well_formed-push_two text tens ones len all t o =
    let whole : List ℕ = text ++ (48 + tens) ∷ (48 + ones) ∷ [] in
    let front : IsWellFormedTo whole 18 = λ place low high.
    let before : place - 1 < length text = omega arith in
    rw (get_or-append text ((48 + tens) ∷ (48 + ones) ∷ []) 0 (place - 1) before) (all.each place low (omega arith)) in
    let at_18 : get_or whole 18 0 ≡ 48 + tens = get_or-append_right text ((48 + tens) ∷ (48 + ones) ∷ []) 18 18 0 len (omega arith) in
    let at_19 : get_or whole 19 0 ≡ 48 + ones = get_or-append_right text ((48 + tens) ∷ (48 + ones) ∷ []) 18 19 0 len (omega arith) in
    let to_19 = well_formed_more whole 18 front (rw at_18 (may_be_at-digit 19 (48 + tens) (omega arith) (omega arith))) in
    let to_20 = well_formed_more whole 19 to_19 (rw at_19 (may_be_at-digit 20 (48 + ones) (omega arith) (omega arith))) in
    record { each = λ place low high. to_20 place low (omega (arith, length-append text ((48 + tens) ∷ (48 + ones) ∷ []))) }

remainder-digits : (text : List ℕ) → number (text ++ digits text) % 97 ≡ 1
remainder-digits text = let whole = number-digits text in omega arith

-- a text of 18 good characters with its digits is a code
pub IsValid-digits : (text : List ℕ) → length text ≡ 18 → IsWellFormed text → IsValid (text ++ digits text)
unfolding digits
IsValid-digits text len all =
    let n : ℕ = 98 - number (text ++ codes "00") % 97 in
    record {
      len = simp length-append (omega arith);
      characters = well_formed-push_two text (n / 10) (n % 10) len all (omega arith) (omega arith);
      check = remainder-digits text;
    }

-- the digits from the remainder of the text alone
pub digits-value : (text : List ℕ) (r : ℕ) → r ≡ number text % 97 → two_digits (98 - r * 100 % 97) ≡ digits text
unfolding digits
digits-value text r e = rw (number-zeros text) (ap (λ k. two_digits (98 - k)) (omega arith))

-- the same for the digits that were computed
pub IsValid-made : (text made : List ℕ) → length text ≡ 18 → IsWellFormed text → made ≡ digits text → IsValid (text ++ made)
IsValid-made text made len all e = rw e (IsValid-digits text len all)

pub made_at_least_2 : (text : List ℕ) (r : ℕ) → r ≡ number text % 97 → 2 ≤ number (two_digits (98 - r * 100 % 97))
made_at_least_2 text r e = rw (digits-value text r e) (at_least_2 text)

pub made_at_most_98 : (text : List ℕ) (r : ℕ) → r ≡ number text % 97 → number (two_digits (98 - r * 100 % 97)) ≤ 98
made_at_most_98 text r e = rw (digits-value text r e) (at_most_98 text)

-- the rules of `check_digits`
pub ruleset made_digits = (character_fault-at, character_fault-none, digits-value, made_at_least_2, made_at_most_98)

is_digit-at_end : (place c : ℕ) → 18 < place → IsTrue (may_be_at place c) → (48 ≤ c) × (c ≤ 57)
is_digit-at_end place c late stands = (grind (arith, nat_tests), grind (arith, nat_tests))

-- the character after 18 others, and the one after that
at_19 : (text : List ℕ) (a b : ℕ) → length text ≡ 18 → IsWellFormed (text ++ a ∷ b ∷ []) → (48 ≤ a) × (a ≤ 57)
at_19 text a b len all =
    let here : get_or (text ++ a ∷ b ∷ []) 18 0 ≡ a = get_or-append_right text (a ∷ b ∷ []) 18 18 0 len (omega arith) in
    is_digit-at_end 19 a (omega arith) (rw here at (all.each 19 (omega arith) (omega (arith, length-append text (a ∷ b ∷ [])))))

at_20 : (text : List ℕ) (a b : ℕ) → length text ≡ 18 → IsWellFormed (text ++ a ∷ b ∷ []) → (48 ≤ b) × (b ≤ 57)
at_20 text a b len all =
    let here : get_or (text ++ a ∷ b ∷ []) 19 0 ≡ b = get_or-append_right text (a ∷ b ∷ []) 18 19 0 len (omega arith) in
    is_digit-at_end 20 b (omega arith) (rw here at (all.each 20 (omega arith) (omega (arith, length-append text (a ∷ b ∷ [])))))

-- two digits that represent a number are its two digits
two_digits-of : (a b n : ℕ) → 48 ≤ a → a ≤ 57 → 48 ≤ b → b ≤ 57 → n ≡ 10 * (a - 48) + (b - 48) → a ∷ b ∷ [] ≡ two_digits n
two_digits-of a b n low_a high_a low_b high_b e =
    let tens : a ≡ 48 + n / 10 = omega arith in
    let ones : b ≡ 48 + n % 10 = omega arith in
    cc

number-of_two : (text : List ℕ) (a b : ℕ) → 48 ≤ a → a ≤ 57 → 48 ≤ b → b ≤ 57 → number (text ++ a ∷ b ∷ []) ≡ 100 * number text + (10 * (a - 48) + (b - 48))
number-of_two text a b low_a high_a low_b high_b =
    let first = number-digit text a low_a high_a in
    let second = number-digit (text ++ a ∷ []) b low_b high_b in
    rw (push-two text a b) (omega arith)

digits-are : (text : List ℕ) → two_digits (98 - (100 * number text) % 97) ≡ digits text
unfolding digits
digits-are text = rw (number-zeros text)

-- of the check digits 02 to 98, only the computed ones make a code
pub digits-unique : (text made : List ℕ) → length text ≡ 18 → IsValid (text ++ made) → 2 ≤ number made → number made ≤ 98 → made ≡ digits text
digits-unique text [] len valid low high = absurd (omega (arith, valid.len, length-append text []))
digits-unique text (a ∷ []) len valid low high = absurd (omega (arith, valid.len, length-append text (a ∷ [])))
digits-unique text (a ∷ b ∷ c ∷ more) len valid low high = absurd (omega (arith, valid.len, length-append text (a ∷ b ∷ c ∷ more)))
digits-unique text (a ∷ b ∷ []) len valid low high =
    let x = at_19 text a b len valid.characters in
    let y = at_20 text a b len valid.characters in
    let whole = number-of_two text a b x.0 x.1 y.0 y.1 in
    let own = number-of_two [] a b x.0 x.1 y.0 y.1 in
    let none = number-nil in
    let check = valid.check in
    two_digits-of a b (98 - (100 * number text) % 97) x.0 x.1 y.0 y.1 (omega arith) ∙ digits-are text
