use Rattle.std.proofs.Common.{◌≡◌, ap, map, rules, subst, ◌∙◌}
use Rattle.std.specs.Map.Iter.{deref}
use Rattle.std.proofs.lemmas.Map.Iter.{iter_end}
use Rattle.name_search.specs.Gathering.{GathersPage}
use Rattle.name_search.specs.Searching.{is_match}
use Rattle.name_search.specs.Walks.{walk_keys}
use Rattle.name_search.proofs.WalkLemmas.{walk_is}
use Rattle.name_search.proofs.gathering.gather_each.Goals as goal

pub returns : goal.returns
returns c =
    let all : map deref c.loop-key.yielded ≡ c.args.keys.now.keys = search (rules, iter_end) in
    subst (λ l. GathersPage c.args.start l c.loop-key.gathered.matches c.loop-key.gathered.names.items)
    (ap (walk_keys (is_match c.args.wanted.now) c.args.rows.now) all
    ∙ walk_is (is_match c.args.wanted.now) c.args.rows.now c.args.keys.now.keys c.requires.sorted c.len-count.ensures.ordered c.requires.covers)
    c.loop-key.invariant.gathers
