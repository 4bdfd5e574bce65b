use Rattle.std.proofs.Common.{◌≡◌, ◌-◌, ◌≤◌}
use Rattle.successor_rules.specs.Walks.{walk_over}
use Rattle.successor_rules.proofs.WalkLemmas.{walk_in}
use Rattle.successor_rules.proofs.walks.follow.Given as goal

-- the walk from this member, with the members left, has the same result as the whole walk
abbrev pub invariant-loop : goal.invariant-loop
invariant-loop g l =
    let answers = g.C.Chain.answers l.chain in
    let cell = g.C.Chain.cell l.chain in
    record {
      goes_on : walk_in (200 - l.counter) answers cell l.avoid l.member ≡ walk_over answers cell l.avoid l.from;
      few : l.counter ≤ 200;
    }
