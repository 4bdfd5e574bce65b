-- How lines were answered, by any answerer.
use Rattle.std.specs.Prelude.{◌≡◌, ℕ, ℤ, List, [], ◌∷◌, ◌++◌, length, take, ◌==◌, if◌then◌else◌}
use Rattle.lei_outside.specs.Told.{Grows}
use Rattle.register_words.specs.declared.reply.Reply.{Reply}
use Rattle.register_words.specs.declared.request.Asked.{Asked}
use Rattle.request_loop.specs.Moments.{ClockGives}
use Rattle.request_loop.specs.Serving.{Progress}
use Rattle.request_loop.specs.Sessions.{Session}
use Rattle.line_reading.specs.Lines.{Line}
use Rattle.line_reading.specs.Requests.{line_asks}
use Rattle.line_reading.specs.Replies.{reply_text, reply_texts}

-- What lines ask, in order; an empty line asks nothing.
abbrev pub asks_of_lines : List Line → List Asked
asks_of_lines [] = []
asks_of_lines (line ∷ others) = if length line == 0 then asks_of_lines others else line_asks line
    ∷ asks_of_lines others

-- The texts of the replies to what was asked, in order. Of the last text perhaps only a prefix is there.
abbrev pub AreTextsOf : List Asked → List Reply → List ℕ → Type 0
AreTextsOf [] replies written = written ≡ []
AreTextsOf (asked ∷ asks) [] written = written ≡ []
AreTextsOf (asked ∷ asks) (reply ∷ []) written = (n : ℕ) × (written ≡ take n (reply_text asked reply))
AreTextsOf (asked ∷ asks) (reply ∷ next ∷ replies) written =
    (rest : List ℕ) × (written ≡ reply_text asked reply ++ rest) × AreTextsOf asks (next ∷ replies) rest

-- Since the start these lines were answered, in order, at moments of the clock. The bytes that were written are the
-- replies, in order.
pub record AnsweredLines {A : Type 0} (step : A → Asked → List ℤ → Reply → A → Type 0) (start : Progress A)
    (all : List Line)
    (now : Progress A) : Type 0 where
  pub moments : List ℤ
  pub gives : ClockGives start.given now.given moments
  pub replies : List Reply
  pub session : Session step start.who (asks_of_lines all) moments replies now.who
  pub writes : Grows start.written now.written (reply_texts (asks_of_lines all) replies)

-- The same for only a prefix of these lines. The bytes that were written are the replies to them, and of the last
-- reply perhaps only a prefix.
pub record AnsweredFront {A : Type 0} (step : A → Asked → List ℤ → Reply → A → Type 0) (start : Progress A)
    (all : List Line)
    (now : Progress A) : Type 0 where
  pub front : List Line
  pub rest : List Line
  pub parts : all ≡ front ++ rest
  pub moments : List ℤ
  pub gives : ClockGives start.given now.given moments
  pub replies : List Reply
  pub session : Session step start.who (asks_of_lines front) moments replies now.who
  pub texts : List ℕ
  pub are_texts : AreTextsOf (asks_of_lines front) replies texts
  pub writes : Grows start.written now.written texts
