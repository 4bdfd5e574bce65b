use Rattle.std.proofs.Common.{rules, ◌≡◌, ◌<◌, ◌≤◌, ◌||◌, cond, [], length, get_or, Some, None, sym, ap, ◌∙◌}
use Rattle.std.specs.Option.{option_or}
use Rattle.successor_rules.specs.declared.walks.Walked.{Walked}
use Rattle.successor_rules.specs.Levels.{held_nexts, lacks_nexts}
use Rattle.successor_rules.specs.Walks.{unless_lacking}
use Rattle.successor_rules.proofs.LevelLemmas.{has}
use Rattle.successor_rules.proofs.StageLemmas.{asked_all, asked_none, asked_one, asked_too_many, first_too_many, joined}
use Rattle.successor_rules.proofs.spreading.spread_from.Goals as goal
use Rattle.successor_rules.proofs.spreading.spread_from.Goals.{then-is_met, else-is_met}

-- the first level has too many
pub returns-then-not-add_all : goal.returns-then-not-add_all
returns-then-not-add_all g c =
    let many : 200 < length (joined c.args.own.now [] c.args.from.now) = search rules in
    first_too_many (g.B.Branches.answers c.args.branches.now) c.args.own.now c.args.from.now (g.B.Branches.cell c.args.branches.now) many

pub loop-asked-init : goal.loop-asked-init
loop-asked-init g c =
    asked_none (g.B.Branches.answers c.args.branches.now) c.args.own.now c.args.from.now c.add_all.new.self c.is_among-is_met.result
    (search rules) (search rules)

-- what one of them names is too many
pub returns-then-not-add_named : goal.returns-then-not-add_named
returns-then-not-add_named g c =
    let answers = g.B.Branches.answers c.args.branches.now in
    let less : c.loop-asked.asked < length c.loop-asked.found = search rules in
    let is : c.at-lei.result ≡ get_or c.loop-asked.found c.loop-asked.asked [] = search rules in
    let few : length c.loop-asked.found ≤ 200 = search rules in
    let many : 200 < length (joined c.args.own.now c.loop-asked.found (held_nexts (answers c.at-lei.result))) = search rules in
    asked_too_many answers c.args.own.now c.args.from.now c.loop-asked.asked c.loop-asked.found c.loop-asked.is_met c.loop-asked.lacking
    c.at-lei.result c.loop-asked.invariant less is (g.B.Branches.cell c.args.branches.now) few many

pub loop-asked-preserved : goal.loop-asked-preserved
loop-asked-preserved g c =
    let answers = g.B.Branches.answers c.args.branches.now in
    let less : c.loop-asked.asked < length c.loop-asked.found = search rules in
    let is : c.at-lei.result ≡ get_or c.loop-asked.found c.loop-asked.asked [] = search rules in
    let added : c.add_named.new.found ≡ joined c.args.own.now c.loop-asked.found (held_nexts (answers c.at-lei.result)) = search rules in
    let met : c.if-is_met.is_met ≡ (c.loop-asked.is_met || has (held_nexts (answers c.at-lei.result)) c.args.own.now) =
    elim c.if-is_met.branch [ then-is_met w ↦ search rules | else-is_met w ↦ search rules ] in
    let lack : c.or-lacking.result ≡ option_or c.loop-asked.lacking (cond (lacks_nexts (answers c.at-lei.result)) (Some c.at-lei.result) None) =
    search rules in
    asked_one answers c.args.own.now c.args.from.now c.loop-asked.asked c.loop-asked.found c.loop-asked.is_met c.loop-asked.lacking
    c.at-lei.result c.loop-asked.invariant less is c.add_named.new.found c.if-is_met.is_met c.or-lacking.result added met lack

-- all were looked up
pub returns-in-Some : goal.returns-in-Some
returns-in-Some g c =
    let cell = g.B.Branches.cell c.args.branches.now in
    let few : length c.loop-asked.found ≤ 200 = search rules in
    let whole : length c.loop-asked.found ≤ c.loop-asked.asked = search rules in
    let lack : c.loop-asked.lacking ≡ Some c.in-Some.lei = search rules in
    ap Walked.Missing c.key.ensures
    ∙ (ap (λ o. unless_lacking cell o (cond c.loop-asked.is_met Walked.Meets Walked.Ends)) (sym lack)
    ∙ asked_all (g.B.Branches.answers c.args.branches.now) c.args.own.now c.args.from.now c.loop-asked.asked c.loop-asked.found
    c.loop-asked.is_met c.loop-asked.lacking cell c.loop-asked.invariant few whole)

pub returns-in-None : goal.returns-in-None
returns-in-None g c =
    let cell = g.B.Branches.cell c.args.branches.now in
    let few : length c.loop-asked.found ≤ 200 = search rules in
    let whole : length c.loop-asked.found ≤ c.loop-asked.asked = search rules in
    let lack : c.loop-asked.lacking ≡ None = search rules in
    c.end_by.ensures
    ∙ (ap (λ o. unless_lacking cell o (cond c.loop-asked.is_met Walked.Meets Walked.Ends)) (sym lack)
    ∙ asked_all (g.B.Branches.answers c.args.branches.now) c.args.own.now c.args.from.now c.loop-asked.asked c.loop-asked.found
    c.loop-asked.is_met c.loop-asked.lacking cell c.loop-asked.invariant few whole)
