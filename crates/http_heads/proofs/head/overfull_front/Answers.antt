use Rattle.std.proofs.Common.{refl, inl, inr, ap}
use Rattle.std.specs.Prelude.{Err}
use Rattle.http_heads.proofs.Rooms.{roomy, crowded_here, too_many, whole}
use Rattle.http_heads.proofs.head.overfull_front.Goals as goal

pub returns-in-Ok-Complete : goal.returns-in-Ok-Complete
returns-in-Ok-Complete c =
    let found = whole c.args.front.now c.parse_request.new.headers _ _ c.in-Ok-Complete.field-0-is c.in-Ok-Complete.ensures.complete in
    inr (inr (found.0, _, found.1.reads, too_many found.0 (crowded_here c.args.front.now found.0 _ c.requires.many found.1.reads)))

pub returns-in-Err : goal.returns-in-Err
returns-in-Err c =
    inr (inl (
      c.in-Err.ensures.invalid (λ is. roomy c.args.front.now c.requires.few (c.in-Err.ensures.too_many (ap Err is))),
      refl,
    ))
