use Rattle.short_texts.proofs.NumberLemmas.{packed-one, packed_pair-one}
use Rattle.short_texts.proofs.laws.a_number_is_of_one_list.Goals as goal

pub returns-clause-one : goal.returns-clause-one
returns-clause-one c = packed-one

pub returns-clause-pair : goal.returns-clause-pair
returns-clause-pair c = packed_pair-one
