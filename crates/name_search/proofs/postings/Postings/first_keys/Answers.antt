use Rattle.name_search.proofs.RisingLemmas.{none_rise}
use Rattle.name_search.proofs.postings.Postings.first_keys.Goals as goal

pub returns-in-None-clause-rising : goal.returns-in-None-clause-rising
returns-in-None-clause-rising c = none_rise
