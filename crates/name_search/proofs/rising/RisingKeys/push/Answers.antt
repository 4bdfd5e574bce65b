use Rattle.name_search.proofs.RisingLemmas.{pushed_is_key}
use Rattle.name_search.proofs.rising.RisingKeys.push.Goals as goal

pub returns-clause-is_there : goal.returns-clause-is_there
returns-clause-is_there c = λ is.
    pushed_is_key c.self.inside.keys.items c.push.new.self.items c.args.key.now _ c.in_ok-share.ensures c.in_ok-push.ensures.items
