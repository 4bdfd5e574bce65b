-- The numbers of short texts.
use Rattle.std.specs.Prelude.{ℕ, ◌+◌, ◌*◌, ◌==◌, ◌&&◌, Bool, List, [], ◌∷◌, length, nat_le, nat_lt, Option, Some, None, option_and_then, option_map, if◌then◌else◌}
use Rattle.std.specs.List.{list_all}

-- The number whose digits in base 256 are those of the number `n`, followed by these digits.
abbrev pub number_after : ℕ → List ℕ → ℕ
number_after n [] = n
number_after n (digit ∷ digits) = number_after (n * 256 + digit) digits

-- The list has at most 15 members, and each is below 256.
abbrev pub is_short : List ℕ → Bool
is_short text = nat_le (length text) 15 && list_all (λ byte. nat_lt byte 256) text

-- The number of a short list: its digits in base 256 are 1 and then the members of the list. A list that is longer, or
-- has a member of 256 or more, has no number.
unfoldable pub packed : List ℕ → Option ℕ
packed text = if is_short text then Some (number_after 1 text) else None

-- The numbers of two short lists. If one of them isn't short, there are none.
unfoldable pub packed_pair : List ℕ → List ℕ → Option (ℕ × ℕ)
packed_pair text other = option_and_then (λ n. option_map (λ m. (n, m)) (packed other)) (packed text)

-- The two pairs of numbers are the same.
abbrev pub is_same_pair : ℕ × ℕ → ℕ × ℕ → Bool
is_same_pair numbers others = numbers.0 == others.0 && numbers.1 == others.1

-- What an index has for two texts that have these numbers, or that aren't both short.
abbrev pub by_numbers : {X : Type 0} → (ℕ × ℕ → X) → X → Option (ℕ × ℕ) → X
by_numbers short long None = long
by_numbers short long (Some numbers) = short numbers

-- What an index has for two texts: what is under their numbers if both are short, and what is under the texts
-- otherwise.
abbrev pub at_pair : {X : Type 0} → (ℕ × ℕ → X) → (List ℕ → List ℕ → X) → List ℕ → List ℕ → X
at_pair short long text other = by_numbers short (long text other) (packed_pair text other)
