use Rattle.std.proofs.Common.{rules, ◌≡◌, ◌<◌, ◌≤◌, [], length, get_or, arith, take, ◌∙◌}
use Rattle.successor_rules.specs.Levels.{held_nexts, known_nexts}
use Rattle.successor_rules.proofs.StageLemmas.{begun, joined, cut_at_once, cut_then, joined-longer, one_asked, reached_all}
use Rattle.successor_rules.proofs.spreading.reach.Goals as goal

-- the first level has too many
pub returns-then-not-add_all : goal.returns-then-not-add_all
returns-then-not-add_all g c =
    let nexts = known_nexts (g.B.Branches.answers c.args.branches.now) in
    let many : 200 < length (joined c.args.own.now [] c.args.from.now) = search rules in
    let cut : c.add_all.new.self ≡ take 200 (joined c.args.own.now [] c.args.from.now) = search rules in
    cut ∙ cut_at_once nexts c.args.own.now c.args.from.now many

pub loop-asked-init : goal.loop-asked-init
loop-asked-init g c =
    let is : c.add_all.new.self ≡ joined c.args.own.now [] c.args.from.now = search rules in
    record {
      stage = begun (known_nexts (g.B.Branches.answers c.args.branches.now)) c.args.own.now c.args.from.now c.add_all.new.self is;
      within = omega arith;
    }

-- what one of them names is too many
pub returns-then-not-add_named : goal.returns-then-not-add_named
returns-then-not-add_named g c =
    let answers = g.B.Branches.answers c.args.branches.now in
    let found = c.loop-asked.found in
    let less : c.loop-asked.asked < length found = search rules in
    let is : c.at.result ≡ get_or found c.loop-asked.asked [] = search rules in
    let few : length found ≤ 200 = search rules in
    let many : 200 < length (joined c.args.own.now found (held_nexts (answers c.at.result))) = search rules in
    let cut : c.add_named.new.found ≡ take 200 (joined c.args.own.now found (held_nexts (answers c.at.result))) = search rules in
    cut ∙ cut_then (known_nexts answers) c.args.own.now c.args.from.now c.loop-asked.asked found c.at.result c.loop-asked.invariant.stage less is few many

pub loop-asked-preserved : goal.loop-asked-preserved
loop-asked-preserved g c =
    let answers = g.B.Branches.answers c.args.branches.now in
    let found = c.loop-asked.found in
    let less : c.loop-asked.asked < length found = search rules in
    let is : c.at.result ≡ get_or found c.loop-asked.asked [] = search rules in
    let added : c.add_named.new.found ≡ joined c.args.own.now found (held_nexts (answers c.at.result)) = search rules in
    record {
      stage = one_asked (known_nexts answers) c.args.own.now c.args.from.now c.loop-asked.asked found c.at.result c.loop-asked.invariant.stage less is
          c.add_named.new.found added;
      within = joined-longer c.args.own.now found (held_nexts (answers c.at.result)) c.add_named.new.found c.loop-asked.asked added less;
    }

-- all were looked up
pub returns : goal.returns
returns g c =
    let few : length c.loop-asked.found ≤ 200 = search rules in
    let whole : length c.loop-asked.found ≤ c.loop-asked.asked = search rules in
    let enough : c.loop-asked.asked ≤ 201 = omega (arith, few, whole, c.loop-asked.invariant.within) in
    reached_all (known_nexts (g.B.Branches.answers c.args.branches.now)) c.args.own.now c.args.from.now c.loop-asked.asked c.loop-asked.found
    c.loop-asked.invariant.stage whole enough few
