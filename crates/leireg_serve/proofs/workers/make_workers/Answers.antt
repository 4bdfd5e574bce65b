use Rattle.std.proofs.Common.{rules, ◌≡◌, length, ap, refl, arith}
use Rattle.leireg_serve.proofs.Apart.{made_begin, made_desks, made_next, made_passes}
use Rattle.leireg_serve.proofs.workers.make_workers.Goals as goal

pub loop-desk-init : goal.loop-desk-init
loop-desk-init g c = (made_begin _ _ _ _ _ _ c.requires.empty (search rules) (search rules) c.requires.even, c.requires.room)

pub unreachable-requires : goal.unreachable-requires
unreachable-requires g c =
    let some = ap length (c.in-Some.ensures.steps).0 in
    let even = c.loop-desk.invariant.0.even in
    let none : length c.loop-desk.passes.rest.items ≡ 0 = search rules in
    omega (arith, some, even, none)

pub push_reserved-requires : goal.push_reserved-requires
push_reserved-requires g c =
    let count = c.loop-desk.invariant.0.count in
    let room = c.loop-desk.invariant.1 in
    let more = ap length (c.in-Some.ensures.steps).0 in
    omega (arith, count, room, more)

pub loop-desk-preserved : goal.loop-desk-preserved
loop-desk-preserved g c = (
  made_next _ _ _ _ _ _ _ _ _ _ c.in-Some-next.pass c.loop-desk.invariant.0 (c.in-Some.ensures.steps).0 c.in-Some-next.ensures.items
      refl refl c.push_reserved.ensures.items,
  search rules,
)

pub returns-clause-desks : goal.returns-clause-desks
returns-clause-desks g c = made_desks _ _ _ _ _ _ c.loop-desk.invariant.0 (search rules)

pub returns-clause-passes : goal.returns-clause-passes
returns-clause-passes g c = made_passes _ _ _ _ _ _ c.loop-desk.invariant.0 (search rules)

pub returns-clause-router : goal.returns-clause-router
returns-clause-router g c = c.loop-desk.invariant.0.routed
