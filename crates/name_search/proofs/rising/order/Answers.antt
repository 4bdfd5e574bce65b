use Rattle.std.proofs.Common.{sym, ◌∙◌}
use Rattle.name_search.proofs.RisingLemmas.{rise_alone, rise_at}
use Rattle.name_search.proofs.rising.order.Goals as goal

pub returns-in-Some-clause-greater : goal.returns-in-Some-clause-greater
returns-in-Some-clause-greater c = λ above.
    rise_at c.args.keys.now c.args.key.now c.in-Some.last.now c.requires (sym c.in-Some.ensures.value) (sym c.cmp.ensures ∙ above)

pub returns-in-None-clause-greater : goal.returns-in-None-clause-greater
returns-in-None-clause-greater c = λ above. rise_alone c.args.keys.now c.args.key.now (sym c.in-None.ensures.value)
