use Rattle.std.proofs.Common.{ℕ, List, subst}
use Rattle.http_heads.specs.Heads.{IsFrontRead}
use Rattle.http_heads.proofs.MoreBytes.{front_read}
use Rattle.http_heads.proofs.Rooms.{whole}
use Rattle.http_heads.proofs.head.read_head.Goals as goal

pub returns-in-Err-TooManyHeaders : goal.returns-in-Err-TooManyHeaders
returns-in-Err-TooManyHeaders c =
    subst (λ (l : List ℕ). IsFrontRead l c.args.bytes.now c.overfull_front.result) c.front_of-front.ensures.front c.overfull_front.ensures

pub returns-in-Ok-Complete : goal.returns-in-Ok-Complete
returns-in-Ok-Complete c =
    front_read c.args.bytes.now c.front_of-front.result.now c.parse_request.new.headers _ c.head_found.result c.front_of-front.ensures.front
    (whole c.front_of-front.result.now c.parse_request.new.headers _ _ c.in-Ok-Complete.field-0-is c.in-Ok-Complete.ensures.complete)
    c.head_found.ensures
