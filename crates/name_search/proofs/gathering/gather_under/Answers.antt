use Rattle.std.proofs.Common.{◌++◌, ap, sym, ◌∙◌}
use Rattle.std.specs.Option.{option_map}
use Rattle.std.proofs.lemmas.List.{append-nil}
use Rattle.name_search.specs.Keys.{is_one_of_keys}
use Rattle.name_search.specs.Walks.{keys_in}
use Rattle.name_search.proofs.gathering.gather_under.Goals as goal

pub gather_both-requires-clause-covers : goal.gather_both-requires-clause-covers
gather_both-requires-clause-covers c = λ key name found matches.
    sym (ap (λ o. is_one_of_keys key (c.args.first.now ++ keys_in (option_map (λ keys. keys.now) o))) c.in-Some.is) ∙ c.requires.covers key name found matches

pub gather_rising-requires-clause-covers : goal.gather_rising-requires-clause-covers
gather_rising-requires-clause-covers c = λ key name found matches.
    sym (ap (λ o. is_one_of_keys key (c.args.first.now ++ keys_in (option_map (λ keys. keys.now) o))) c.in-None.is ∙ ap (is_one_of_keys key) (append-nil c.args.first.now))
    ∙ c.requires.covers key name found matches
