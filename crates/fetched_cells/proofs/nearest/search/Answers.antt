use Rattle.std.proofs.Common.{◌≡◌, ◌<◌, ◌≤◌, ◌-◌, ◌+◌, ◌++◌, arith, drop, length, rules, subst, suc}
use Rattle.successor_rules.specs.Levels.{known_nexts}
use Rattle.fetched_cells.specs.Nearest.{new_ones}
use Rattle.fetched_cells.proofs.NearestLemmas.{Searched, searched_all, searched_end, searched_many, searched_next, sought}
use Rattle.fetched_cells.proofs.nearest.search.Goals as goal
use Rattle.fetched_cells.proofs.nearest.search.Goals.{then-len-gt-MOST_LEIS-via-then-len-gt-MOST_LEIS, then-len-gt-MOST_LEIS-via-else-len-gt-MOST_LEIS+then-before-len}

-- there are enough, or the last level has no new LEI
pub returns-then-len-gt-MOST_LEIS : goal.returns-then-len-gt-MOST_LEIS
returns-then-len-gt-MOST_LEIS g c =
    let nexts = known_nexts (g.B.Branches.answers c.args.branches.now) in
    let met = c.loop.met.items in
    let n = 201 - c.loop.counter in
    elim c.then-len-gt-MOST_LEIS.branch [
      | then-len-gt-MOST_LEIS-via-then-len-gt-MOST_LEIS w ↦
          let many : 201 < length met = search rules in
          searched_many nexts n met c.loop.before (sought nexts c.args.own.now) c.loop.invariant.searched many
      | then-len-gt-MOST_LEIS-via-else-len-gt-MOST_LEIS+then-before-len w ↦
          let end : length met ≤ c.loop.before = search rules in
          searched_end nexts n met c.loop.before (sought nexts c.args.own.now) c.loop.invariant.searched end
    ]

pub loop-preserved : goal.loop-preserved
loop-preserved g c =
    let nexts = known_nexts (g.B.Branches.answers c.args.branches.now) in
    let met = c.loop.met.items in
    let less : c.loop.counter < 201 = search rules in
    let left : 201 - c.loop.counter ≡ suc (201 - (c.loop.counter + 1)) = omega arith in
    let level : c.in_ok-level.level.keys ≡ new_ones nexts met (drop c.loop.before met) = search rules in
    let pushed : c.push_all.new.met.items ≡ met ++ c.in_ok-level.level.keys = search rules in
    let place : length met ≡ c.len-before.result = search rules in
    let all = sought nexts c.args.own.now in
    record {
      searched = subst (λ before. Searched nexts (201 - (c.loop.counter + 1)) c.push_all.new.met.items before all) place
          (searched_next nexts (201 - (c.loop.counter + 1)) met c.loop.before all
          (subst (λ n. Searched nexts n met c.loop.before all) left c.loop.invariant.searched)
          c.in_ok-level.level.keys c.push_all.new.met.items level pushed);
      few = omega arith;
    }

-- all levels were searched
pub returns : goal.returns
returns g c =
    let nexts = known_nexts (g.B.Branches.answers c.args.branches.now) in
    let over : 201 ≤ c.loop.counter = search rules in
    let none : 201 - c.loop.counter ≡ 0 = omega arith in
    searched_all nexts c.loop.met.items c.loop.before (sought nexts c.args.own.now)
    (subst (λ n. Searched nexts n c.loop.met.items c.loop.before (sought nexts c.args.own.now)) none c.loop.invariant.searched)
