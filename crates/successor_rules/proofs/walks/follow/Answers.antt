use Rattle.std.proofs.Common.{arith, rules, ◌≡◌, ◌<◌, true, false, ◌∙◌}
use Rattle.std.specs.Str.{bytes_eq}
use Rattle.successor_rules.specs.declared.walks.Walked.{Walked}
use Rattle.lei_records.specs.declared.view.Seen.{Seen}
use Rattle.successor_rules.proofs.WalkLemmas.{stop-meets, stop-ends, stop-lacks, one_step, walk_in-zero}
use Rattle.successor_rules.proofs.walks.follow.Goals as goal

-- src/walks.rt:49:13
pub returns-then-eq : goal.returns-then-eq
returns-then-eq g c =
    let less : c.loop.counter < 200 = search rules in
    let met : bytes_eq c.args.avoid.now c.loop.member ≡ true = search rules in
    stop-meets (g.C.Chain.answers c.args.chain.now) (g.C.Chain.cell c.args.chain.now) c.args.avoid.now c.loop.member _ c.loop.counter
    less c.loop.invariant.goes_on met

-- src/walks.rt:53:28
pub returns-in-Empty : goal.returns-in-Empty
returns-in-Empty g c =
    let less : c.loop.counter < 200 = search rules in
    let other : bytes_eq c.args.avoid.now c.loop.member ≡ false = search rules in
    let is : g.C.Chain.answers c.args.chain.now c.loop.member ≡ Seen.Empty = search rules in
    stop-ends (g.C.Chain.answers c.args.chain.now) (g.C.Chain.cell c.args.chain.now) c.args.avoid.now c.loop.member _ c.loop.counter
    less c.loop.invariant.goes_on other is

-- src/walks.rt:54:30
pub returns-in-Missing : goal.returns-in-Missing
returns-in-Missing g c =
    let less : c.loop.counter < 200 = search rules in
    let other : bytes_eq c.args.avoid.now c.loop.member ≡ false = search rules in
    let is : g.C.Chain.answers c.args.chain.now c.loop.member ≡ Seen.Missing = search rules in
    let key : Walked.Missing c.key.result ≡ Walked.Missing (g.C.Chain.cell c.args.chain.now c.loop.member) = search rules in
    key ∙ stop-lacks (g.C.Chain.answers c.args.chain.now) (g.C.Chain.cell c.args.chain.now) c.args.avoid.now c.loop.member _ c.loop.counter
    less c.loop.invariant.goes_on other is

-- src/walks.rt:47:5
pub loop-preserved : goal.loop-preserved
loop-preserved g c =
    let less : c.loop.counter < 200 = search rules in
    let other : bytes_eq c.args.avoid.now c.loop.member ≡ false = search rules in
    let is : g.C.Chain.answers c.args.chain.now c.loop.member ≡ Seen.Held c.in-Held.next = search rules in
    record {
      goes_on = one_step (g.C.Chain.answers c.args.chain.now) (g.C.Chain.cell c.args.chain.now) c.args.avoid.now c.loop.member _ c.loop.counter
          c.in-Held.next less c.loop.invariant.goes_on other is;
      few = omega arith;
    }

-- src/walks.rt:43:1
pub returns : goal.returns
returns g c = search (rules, walk_in-zero)
