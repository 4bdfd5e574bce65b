-- What is found in words, or why nothing is found.
use Rattle.std.specs.Prelude.{◌≡◌, Option, Some, None, Result, MatchResult}
use Rattle.program_words.specs.declared.fault.WordsFault.{WordsFault}
use Rattle.program_words.specs.declared.fault.WordsFault.TheVariants as faults

-- Words are refused if nothing is found in them. Memory may run out for any words.
abbrev pub Refuses : {A : Type 0} → Option A → WordsFault → Type 0
Refuses found faults.Usage = found ≡ None
Refuses found faults.NoMemory = Unit {0}

-- The possible results for words with this finding, by the meaning that a result has.
abbrev pub FindsWords : {A R : Type 0} → (R → A) → Option A → Result R WordsFault → Type 0
FindsWords reading found result = MatchResult result (λ value. found ≡ Some (reading value)) (Refuses found)
