-- Lines as the frames of an input.
use Rattle.std.proofs.Common.{append_assoc, ap, ◌∙◌}
use Rattle.std.specs.Prelude.{◌≡◌, ◌⊎◌, ◌<◌, ◌≤◌, ◌+◌, ◌==◌, ℕ, List, [], ◌∷◌, ◌++◌, length, take, Bool, true, false, Option, None, Some, if◌then◌else◌}
use Rattle.register_words.specs.Readings.{MayWantMemory, ReadsAs, RefusesBy}
use Rattle.register_words.specs.declared.reply.Refusal.{Refusal}
use Rattle.register_words.specs.declared.reply.Refusal.TheVariants.{NoMemory}
use Rattle.register_words.specs.declared.reply.Reply.{Reply}
use Rattle.register_words.specs.declared.reply.Reply.TheVariants.{Words}
use Rattle.register_words.specs.declared.request.Asked.{Asked}
use Rattle.register_words.specs.declared.request.Asked.TheVariants.{Refuse}
use Rattle.request_loop.specs.Frames.{AreRefused, Frames, Rules, bytes_of_replies}
use Rattle.request_loop.specs.declared.frames.Want.{Want}
use Rattle.line_reading.specs.Limits.{line_limit}
use Rattle.line_reading.specs.Lines.{HasNoEnd, IsCutAtEnd, Line, line_of}
use Rattle.line_reading.specs.Replies.{reply_bytes, reply_text}
use Rattle.line_reading.specs.Requests.{line_asks}
use Rattle.line_reading.specs.declared.framing.NoEnd.{NoEnd}

-- ---- what a line wants

-- What a line wants that asks this: the session goes on after the reply.
abbrev pub want_for : Asked → Want Asked NoEnd
want_for what = record { asked = what; ends = None }

-- A line wants what it asks, and an empty line nothing.
abbrev pub want_of_line : Line → Option (Want Asked NoEnd)
want_of_line line = if length line == 0 then None else Some (want_for (line_asks line))

-- The bytes start with a line and its end, and the line wants this.
abbrev pub IsLine : List ℕ → Option (Want Asked NoEnd) → List ℕ → Type 0
IsLine bytes frame rest = (part : List ℕ) × IsCutAtEnd bytes part rest × (frame ≡ want_of_line (line_of part))

-- What was read of a line is what it wants, or a refusal if there was no memory for what it asks.
abbrev pub IsReadOf : Line → Option (Want Asked NoEnd) → Type 0
IsReadOf line frame =
    (frame ≡ want_of_line line)
    ⊎ ((0 < length line) × MayWantMemory (line_asks line) × (frame ≡ Some (want_for (Refuse NoMemory))))

-- How an input is cut into lines, and what is written for the replies. The bytes after the last LF are a line without
-- its end.
abbrev pub line_rules : Rules Asked Reply NoEnd
line_rules = record {
  whole = IsLine;
  begun = HasNoEnd;
  ends = IsReadOf;
  reads_as = ReadsAs;
  refuses = RefusesBy;
  text = λ want reply. reply_text want.asked reply;
}

-- A line with its end stays one if more bytes follow it.
pub line_whole_on : (bytes rest more : List ℕ) (frame : Option (Want Asked NoEnd)) → IsLine bytes frame rest
    → IsLine (bytes ++ more) frame (rest ++ more)
line_whole_on bytes rest more frame is = (
  is.0,
  record {
    parts = ap (λ xs. xs ++ more) is.1.parts ∙ append_assoc (is.0 ++ 10 ∷ []) rest more;
    none = is.1.none;
  },
  is.2,
)

-- ---- what is held of a line

-- These bytes have no line's end up to where they were searched, and all of them are held. Or the bytes of a line that
-- is too long were dropped, and what came after them is held.
abbrev pub HoldsLines : Bool → ℕ → List ℕ → List ℕ → Type 0
HoldsLines false seen held bytes = (held ≡ bytes) × (seen ≤ length held) × HasNoEnd (take seen held)
HoldsLines true seen held bytes =
    (dropped : List ℕ) × (bytes ≡ dropped ++ held) × HasNoEnd dropped × (line_limit + 1 < length dropped)

-- ---- lines that are refused

-- A line was taken: it is empty, or it is refused and the bytes of its reply were appended to these.
abbrev pub TakesLine : Line → List ℕ → List ℕ → Type 0
TakesLine line texts texts_now =
    ((length line ≡ 0) × (texts_now ≡ texts))
    ⊎ ((0 < length line) × (refusal : Refusal) × (line_asks line ≡ Refuse refusal)
    × (texts_now ≡ texts ++ reply_bytes (Words refusal) false))

-- The bytes start with lines that are empty or refused, and continue with the rest. These are the bytes of the replies
-- to them.
pub record GathersRefused (bytes rest texts : List ℕ) : Type 0 where
  pub frames : List (Option (Want Asked NoEnd))
  pub replies : List Reply
  pub are : Frames line_rules bytes frames rest
  pub refused : AreRefused line_rules frames replies
  pub texts_are : texts ≡ bytes_of_replies line_rules frames replies
