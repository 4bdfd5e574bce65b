use Rattle.std.proofs.Common.{rules, map, ap, ◌∙◌, arith}
use Rattle.leireg_serve.specs.Ends.{joint_end}
use Rattle.leireg_serve.proofs.Apart.{apart_all, apart_begin, apart_next, apart_room, apart_room_too}
use Rattle.leireg_serve.proofs.workers.take_apart.Goals as goal

pub loop-worker-init : goal.loop-worker-init
loop-worker-init g c = (apart_begin _ _ _ _ c.requires.no_desks c.requires.no_passes (search rules) c.requires.passes, c.requires.room.0, c.requires.room.1)

pub push_reserved-requires : goal.push_reserved-requires
push_reserved-requires g c =
    let more = apart_room _ _ _ _ _ _ _ _ c.loop-worker.invariant.0 (c.in-Some.ensures.steps).0 in
    let room = c.loop-worker.invariant.1 in
    omega (arith, more, room)

pub push_reserved-requires-in-loop-worker : goal.push_reserved-requires-in-loop-worker
push_reserved-requires-in-loop-worker g c =
    let more = apart_room_too _ _ _ _ _ _ _ _ c.loop-worker.invariant.0 (c.in-Some.ensures.steps).0 in
    let room = c.loop-worker.invariant.2 in
    omega (arith, more, room)

pub loop-worker-preserved : goal.loop-worker-preserved
loop-worker-preserved g c = (
  apart_next _ _ _ _ _ _ _ _ _ _ _ _ c.loop-worker.invariant.0 (c.in-Some.ensures.steps).0 c.in-Some-pass.is c.push_reserved.ensures.items
      c.push_reserved-in-loop-worker.ensures.items c.both-end.ensures,
  search rules,
  search rules,
)

pub returns-clause-desks : goal.returns-clause-desks
returns-clause-desks g c =
    let apart = c.loop-worker.invariant.0 in
    let all = apart_all _ _ _ _ _ _ apart (search rules) in
    apart.of_desks ∙ ap (map (λ worker. worker.desk)) all

pub returns-clause-passes : goal.returns-clause-passes
returns-clause-passes g c =
    let apart = c.loop-worker.invariant.0 in
    let all = apart_all _ _ _ _ _ _ apart (search rules) in
    apart.of_passes ∙ ap (map (λ worker. worker.pass)) all

pub returns-clause-end : goal.returns-clause-end
returns-clause-end g c =
    let apart = c.loop-worker.invariant.0 in
    let all = apart_all _ _ _ _ _ _ apart (search rules) in
    apart.of_ends ∙ ap (λ workers. joint_end (map (λ worker. worker.end) workers)) all
