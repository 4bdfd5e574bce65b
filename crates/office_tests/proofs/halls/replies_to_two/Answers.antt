use Rattle.office_tests.proofs.PassNumbers.{two_back}
use Rattle.office_tests.proofs.halls.replies_to_two.Goals as goal

pub close-requires-clause-all : goal.close-requires-clause-all
close-requires-clause-all g c =
    let opened = c.in-Ok.ensures in
    let called = c.call_in_turn-first in
    two_back _ _ _ _ _ _ _ _ c.in-Some-pop.first c.in-Some.second called.result.0 called.result.1 opened.all.0 opened.all.1
    opened.number opened.count c.in-Some.ensures.items c.in-Some-pop.ensures.items c.push_reserved.ensures.items
    c.push_reserved-2.ensures.items called.ensures.first.0 called.ensures.first.1 called.ensures.second.0
    called.ensures.second.1
