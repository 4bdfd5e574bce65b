use Rattle.std.proofs.Common.{ap, ◌∙◌}
use Rattle.worker_pool.proofs.Answering.{all_return, of_ok}
use Rattle.worker_pool.proofs.lists.map_list.Goals as goal

pub returns-clause-answers : goal.returns-clause-answers
returns-clause-answers g c =
    let slice = ap (λ it. it.slice.now) c.map.ensures.base ∙ c.par_iter.ensures in
    let h = c.in_ok-collect.ensures in
    let chain = h.1 in
    of_ok c.in_ok-collect.field-0 _ _ _ h.2 (λ v k.
    rw k.2 (all_return g.F.Fn c.args.work _ c.map.ensures.f c.args.list.now chain.0 h.0 k.0 (chain.1 ∙ slice) k.1 chain.2))
