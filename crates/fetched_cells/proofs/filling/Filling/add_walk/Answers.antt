use Rattle.std.proofs.Common.{◌≡◌, ◌<◌, ◌-◌, [], ◌∷◌, arith, refl, rules, subst}
use Rattle.lei_records.specs.declared.view.CellKey.{CellKey}
use Rattle.lei_records.specs.declared.view.Seen.{Seen}
use Rattle.fetched_cells.specs.Filling.{AddsCells, member_keys}
use Rattle.fetched_cells.proofs.FillLemmas.{Goes}
use Rattle.fetched_cells.proofs.WalkLemmas.{walk_all, walk_ends, walk_full, walk_on}
use Rattle.fetched_cells.proofs.filling.Filling.add_walk.Goals as goal

pub returns-then-self-eq0 : goal.returns-then-self-eq0
returns-then-self-eq0 g c =
    let whole = g.V.View.cells c.args.view.now in
    let cell = g.C.Chain.cell c.args.chain.now in
    let answers = g.C.Chain.answers c.args.chain.now in
    let less : c.loop.counter < 200 = search rules in
    let added = subst (λ (key : CellKey). AddsCells whole c.loop.self c.add.new.self (key ∷ [])) c.key.ensures c.in_ok-add.ensures in
    walk_full whole cell answers c.args.self.now c.loop.self c.add.new.self c.loop.member (member_keys 200 cell answers c.args.first.now)
    c.loop.counter less c.loop.invariant.goes added c.if-self-eq0.true

pub returns-in-Empty : goal.returns-in-Empty
returns-in-Empty g c =
    let whole = g.V.View.cells c.args.view.now in
    let cell = g.C.Chain.cell c.args.chain.now in
    let answers = g.C.Chain.answers c.args.chain.now in
    let less : c.loop.counter < 200 = search rules in
    let added = subst (λ (key : CellKey). AddsCells whole c.loop.self c.add.new.self (key ∷ [])) c.key.ensures c.in_ok-add.ensures in
    let is : answers c.loop.member ≡ Seen.Empty = search rules in
    walk_ends whole cell answers c.args.self.now c.loop.self c.add.new.self c.loop.member (member_keys 200 cell answers c.args.first.now)
    c.loop.counter less c.loop.invariant.goes added Seen.Empty is refl

pub returns-in-Missing : goal.returns-in-Missing
returns-in-Missing g c =
    let whole = g.V.View.cells c.args.view.now in
    let cell = g.C.Chain.cell c.args.chain.now in
    let answers = g.C.Chain.answers c.args.chain.now in
    let less : c.loop.counter < 200 = search rules in
    let added = subst (λ (key : CellKey). AddsCells whole c.loop.self c.add.new.self (key ∷ [])) c.key.ensures c.in_ok-add.ensures in
    let is : answers c.loop.member ≡ Seen.Missing = search rules in
    walk_ends whole cell answers c.args.self.now c.loop.self c.add.new.self c.loop.member (member_keys 200 cell answers c.args.first.now)
    c.loop.counter less c.loop.invariant.goes added Seen.Missing is refl

pub loop-preserved : goal.loop-preserved
loop-preserved g c =
    let whole = g.V.View.cells c.args.view.now in
    let cell = g.C.Chain.cell c.args.chain.now in
    let answers = g.C.Chain.answers c.args.chain.now in
    let less : c.loop.counter < 200 = search rules in
    let added = subst (λ (key : CellKey). AddsCells whole c.loop.self c.add.new.self (key ∷ [])) c.key.ensures c.in_ok-add.ensures in
    let is : answers c.loop.member ≡ Seen.Held c.in-Held.next = search rules in
    record {
      goes = walk_on whole cell answers c.args.self.now c.loop.self c.add.new.self c.loop.member (member_keys 200 cell answers c.args.first.now)
          c.loop.counter less c.loop.invariant.goes added c.in-Held.next is;
      few = omega arith;
    }

pub returns : goal.returns
returns g c =
    let whole = g.V.View.cells c.args.view.now in
    let cell = g.C.Chain.cell c.args.chain.now in
    let answers = g.C.Chain.answers c.args.chain.now in
    let none : 200 - c.loop.counter ≡ 0 = omega arith in
    walk_all whole cell answers c.args.self.now c.loop.self c.loop.member (member_keys 200 cell answers c.args.first.now)
    (subst (λ n. Goes whole c.args.self.now c.loop.self (member_keys n cell answers c.loop.member) (member_keys 200 cell answers c.args.first.now))
    none c.loop.invariant.goes)
