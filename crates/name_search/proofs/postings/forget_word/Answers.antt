use Rattle.std.proofs.Common.{◌≡◌, Some, rules}
use Rattle.name_search.specs.Keys.{get_by_word}
use Rattle.name_search.proofs.NotedLemmas.{takes_updated}
use Rattle.name_search.proofs.postings.forget_word.Goals as goal

pub returns-in-Some : goal.returns-in-Some
returns-in-Some c =
    let was : get_by_word c.args.later.now c.args.word.now ≡ Some c.in-Some.keys.now = search rules in
    let after = c.get_mut.follows.lender c.remove.new.self in
    takes_updated c.args.later.now after c.args.word.now c.args.key.now c.remove.new.self c.in-Some.keys.now ((c.get_mut.follows.holds c.remove.new.self).3 (search rules)) was
    c.remove.ensures.updates.0
