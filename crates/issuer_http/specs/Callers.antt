-- What serving a connection does if a caller puts its requests to the office of a hall.
use Rattle.std.specs.Prelude.{ℕ, ℤ, List, Option}
use Rattle.register_words.specs.declared.reply.Reply.{Reply}
use Rattle.register_words.specs.declared.request.Asked.{Asked}
use Rattle.request_loop.specs.Sessions.{Session}
use Rattle.request_loop.specs.Serving as any
use Rattle.lei_hall.specs.Calling.{AskTurn, GrewBy, IsSamePass}
use Rattle.lei_hall.specs.Passes.{HallPass}
use Rattle.issuer_http.specs.Serving.{ServesBy}
use Rattle.issuer_http.specs.declared.ended.Ended.{Ended}

-- What serving does by the turns of a pass, which stays the same one. The following holds for any session that leads
-- from its state before to its state after. What the pass was told grew by one member for each request that was put to
-- the office, in order. One turn for each of these leads from one state to the other.
pub record ServesCaller (before : any.Progress HallPass) (left : Option (List ℕ)) (after : any.Progress HallPass)
    (left_now : Option (List ℕ)) (ended : Ended) : Type 0 where
  pub serves : ServesBy AskTurn before left after left_now ended
  pub same : IsSamePass before.who after.who
  pub grew : (asks : List Asked) (moments : List ℤ) (replies : List Reply)
      → Session AskTurn before.who asks moments replies after.who
      → GrewBy before.who asks moments replies after.who
