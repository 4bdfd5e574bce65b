-- Replies to lines from an office.
use Rattle.std.specs.Prelude.{◌≡◌, ℕ, ℤ, List}
use Rattle.register_words.specs.declared.reply.Reply.{Reply}
use Rattle.register_words.specs.declared.request.Asked.{Asked}
use Rattle.register_history.specs.State.{OfficeState}
use Rattle.register_history.specs.Legal.{OfficeSession}
use Rattle.line_reading.specs.LineRuns.{AreTextsOf}
use Rattle.line_reading.specs.Replies.{reply_texts}

-- These replies answer what was asked, in order, at these moments, from the first office to the second. These bytes are
-- their texts, in order.
pub record AnswersInBytes (old : OfficeState) (asks : List Asked) (moments : List ℤ) (replies : List Reply)
    (written : List ℕ)
    (new : OfficeState) : Type 0 where
  pub session : OfficeSession old asks moments replies new
  pub texts : written ≡ reply_texts asks replies

-- The same, except that perhaps only a prefix of the last reply's text is among these bytes.
pub record AnswersCutShort (old : OfficeState) (asks : List Asked) (moments : List ℤ) (replies : List Reply)
    (written : List ℕ) (new : OfficeState) : Type 0 where
  pub session : OfficeSession old asks moments replies new
  pub texts : AreTextsOf asks replies written
