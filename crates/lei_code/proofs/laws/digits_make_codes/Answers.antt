use Rattle.lei_code.proofs.Made.{IsValid-digits, at_least_2, at_most_98, digits-unique}
use Rattle.lei_code.proofs.laws.digits_make_codes.Goals as goal

pub returns-clause-valid : goal.returns-clause-valid
returns-clause-valid c = IsValid-digits

pub returns-clause-at_least_2 : goal.returns-clause-at_least_2
returns-clause-at_least_2 c = at_least_2

pub returns-clause-at_most_98 : goal.returns-clause-at_most_98
returns-clause-at_most_98 c = at_most_98

pub returns-clause-only : goal.returns-clause-only
returns-clause-only c = digits-unique
