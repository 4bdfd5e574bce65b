-- How one more byte changes the remainder and the state of the places checked so far.
use Rattle.lei_code.proofs.Numbers.{number-nil, next_digit, next_letter}
use Rattle.lei_code.proofs.Places.{may_be_at-digit, may_be_at-letter, well_formed_more}

-- the rules of `remainder_of`
pub ruleset remainder_steps = (number-nil, next_digit, next_letter, may_be_at-digit, may_be_at-letter, well_formed_more)
