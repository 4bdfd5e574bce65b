use Rattle.name_search.proofs.RisingLemmas.{keys_of_both}
use Rattle.name_search.proofs.gathering.gather_both.Goals as goal

pub gather_each-requires-clause-covers : goal.gather_each-requires-clause-covers
gather_each-requires-clause-covers c = λ key name found matches.
    keys_of_both c.args.first.now c.args.later.now.keys c.put_list.new.keys.keys c.put_set.new.keys.keys
    c.in_ok-put_list.ensures.put c.put_set.ensures.stay c.in_ok-put_set.ensures.put key (c.requires.covers key name found matches)
