-- What an input asks, and the replies to it.
use Rattle.std.specs.Prelude.{◌≡◌, ℕ, ℤ, List, [], ◌∷◌, ◌++◌, Option, option_map}
use Rattle.lei_outside.specs.Told.{Grows}
use Rattle.request_loop.specs.Frames.{Frames, asks_of}
use Rattle.request_loop.specs.Sessions.{Session}
use Rattle.request_loop.specs.declared.frames.Want.{Want}
use Rattle.line_reading.specs.Lines.{Line}
use Rattle.line_reading.specs.declared.framing.NoEnd.{NoEnd}
use Rattle.query_reading.specs.Meanings.{asked_at_end, line_says}
use Rattle.query_reading.specs.QueryFrames.{IsFirstLine, IsStartOfQuery, query_rules, query_want}
use Rattle.query_reading.specs.Replies.{all_bytes}
use Rattle.query_reading.specs.declared.asked.QueryAsked.{QueryAsked}
use Rattle.query_reading.specs.declared.grammar.LineMeaning.{LineMeaning}
use Rattle.query_reading.specs.declared.reply.QueryReply.{QueryReply}

-- These bytes ask this, in order: first their complete frames, one after another, and then the line that is left. That
-- line lacks its end or a part of its packet.
pub record AsksInOrder {Q H : Type 0} (says : Line → LineMeaning Q H) (bytes : List ℕ)
    (asks : List (QueryAsked Q H)) : Type 0 where
  pub frames : List (Option (Want (QueryAsked Q H) NoEnd))
  pub rest : List ℕ
  pub line : Line
  pub are : Frames (query_rules says) bytes frames rest
  pub begun : IsStartOfQuery says rest
  pub line_is : IsFirstLine rest line
  pub asks_are : asks ≡ asks_of (frames ++ option_map query_want (asked_at_end (line_says says line)) ∷ [])

-- All that these bytes ask was answered, in order, by steps from one state of the answerer to another. The written
-- bytes are those of the replies, in order.
pub record AnswersInput {A Q H : Type 0} (step : A → QueryAsked Q H → List ℤ → QueryReply → A → Type 0)
    (says : Line → LineMeaning Q H) (old : A) (written : Option (List ℕ)) (bytes : List ℕ) (new : A)
    (written_now : Option (List ℕ)) : Type 0 where
  pub asks : List (QueryAsked Q H)
  pub asks_are : AsksInOrder says bytes asks
  pub moments : List ℤ
  pub replies : List QueryReply
  pub session : Session step old asks moments replies new
  pub writes : Grows written written_now (all_bytes replies)
