use Rattle.std.proofs.Common.{ap, arith, subst, ◌∙◌}
use Rattle.std.proofs.lemmas.List.{take_all}
use Rattle.name_search.specs.Gathering.{GathersPage}
use Rattle.name_search.specs.Searching.{is_match}
use Rattle.name_search.specs.Walks.{walk_keys}
use Rattle.name_search.proofs.WalkLemmas.{walk_is}
use Rattle.name_search.proofs.gathering.gather_rising.Goals as goal

pub returns : goal.returns
returns c =
    subst (λ l. GathersPage c.args.start l c.loop-key.gathered.matches c.loop-key.gathered.names.items)
    (ap (walk_keys (is_match c.args.wanted.now) c.args.rows.now) (take_all c.loop-key.key-index c.args.keys.now (omega arith))
    ∙ walk_is (is_match c.args.wanted.now) c.args.rows.now c.args.keys.now c.requires.sorted c.requires.rising c.requires.covers)
    c.loop-key.invariant.gathers
