-- Lines of queries, with the packets that come after them, as the frames of an input. This project's profile.
use Rattle.std.proofs.Common.{append_assoc, ap, ◌∙◌}
use Rattle.std.specs.Prelude.{◌≡◌, ◌⊎◌, ◌<◌, ◌≤◌, ◌+◌, ℕ, List, [], ◌∷◌, ◌++◌, length, take, Option, None, Some, option_map}
use Rattle.request_loop.specs.Frames.{Rules}
use Rattle.request_loop.specs.declared.frames.Want.{Want}
use Rattle.line_reading.specs.Lines.{HasNoEnd, IsCutAtEnd, Line, line_of}
use Rattle.line_reading.specs.declared.framing.NoEnd.{NoEnd}
use Rattle.query_reading.specs.Meanings.{asked_at_end, asked_with, line_says, packet_size, query_limit}
use Rattle.query_reading.specs.Replies.{query_bytes}
use Rattle.query_reading.specs.declared.asked.QueryAsked.{QueryAsked}
use Rattle.query_reading.specs.declared.grammar.LineMeaning.{LineMeaning}
use Rattle.query_reading.specs.declared.refusal.QueryRefusal.TheVariants.{NoMemory}
use Rattle.query_reading.specs.declared.reply.QueryReply.{QueryReply}
use Rattle.query_reading.specs.declared.stage.FrameStage.{FrameStage}

-- What is asked, if the session continues after the reply.
abbrev pub query_want : {Q H : Type 0} → QueryAsked Q H → Want (QueryAsked Q H) NoEnd
query_want what = record { asked = what; ends = None }

-- ---- frames

-- The bytes start with a line, its end and its packet, which want this or nothing, and the rest follows.
pub record IsQueryFrame {Q H : Type 0} (says : Line → LineMeaning Q H) (bytes : List ℕ)
    (frame : Option (Want (QueryAsked Q H) NoEnd)) (rest : List ℕ) : Type 0 where
  pub part : List ℕ
  pub packet : List ℕ
  pub ends : IsCutAtEnd bytes part (packet ++ rest)
  pub size : length packet ≡ packet_size (line_says says (line_of part))
  pub frame_is : frame ≡ option_map query_want (asked_with (line_says says (line_of part)) packet)

-- The bytes start with a line and its end, and fewer bytes follow than its packet has.
pub record LacksPacket {Q H : Type 0} (says : Line → LineMeaning Q H) (bytes : List ℕ) : Type 0 where
  pub part : List ℕ
  pub after : List ℕ
  pub ends : IsCutAtEnd bytes part after
  pub short : length after < packet_size (line_says says (line_of part))

-- The bytes are the start of a line that has no end yet, or a packet isn't complete yet.
abbrev pub IsStartOfQuery : {Q H : Type 0} → (Line → LineMeaning Q H) → List ℕ → Type 0
IsStartOfQuery says bytes = HasNoEnd bytes ⊎ LacksPacket says bytes

-- The first line of the bytes, which may lack its end.
abbrev pub IsFirstLine : List ℕ → Line → Type 0
IsFirstLine bytes line =
    (HasNoEnd bytes × (line ≡ bytes))
    ⊎ ((part : List ℕ) × (after : List ℕ) × IsCutAtEnd bytes part after × (line ≡ line_of part))

-- ---- lack of memory

-- Reading it takes memory: each query and each packet may.
abbrev pub TakesMemory : {Q H : Type 0} → QueryAsked Q H → Type 0
TakesMemory (QueryAsked.Refuse refusal) = ⊥
TakesMemory (QueryAsked.Query query) = Unit {0}
TakesMemory (QueryAsked.Packet head packet) = Unit {0}

-- If memory to read what the first asks runs out, the refusal for that is read instead.
abbrev pub QueryReadsAs : {Q H : Type 0} → QueryAsked Q H → QueryAsked Q H → Type 0
QueryReadsAs meant read = TakesMemory meant × (read ≡ QueryAsked.Refuse NoMemory)

-- What is asked was read like this, if anything is asked.
abbrev pub IsReadAs : {Q H : Type 0} → Option (QueryAsked Q H) → Option (QueryAsked Q H) → Type 0
IsReadAs {Q} {H} meant read =
    (read ≡ meant)
    ⊎ ((asked : QueryAsked Q H) × (meant ≡ Some asked) × TakesMemory asked
    × (read ≡ Some (QueryAsked.Refuse NoMemory)))

-- If the input ends with these bytes, which have no complete frame, their only line asks this.
abbrev pub EndsAsked : {Q H : Type 0} → (Line → LineMeaning Q H) → List ℕ → Option (QueryAsked Q H) → Type 0
EndsAsked says bytes read = (line : Line) × IsFirstLine bytes line × IsReadAs (asked_at_end (line_says says line)) read

-- The same, with what is asked as a want.
abbrev pub EndsInput : {Q H : Type 0} → (Line → LineMeaning Q H) → List ℕ
    → Option (Want (QueryAsked Q H) NoEnd) → Type 0
EndsInput {Q} {H} says bytes frame =
    (read : Option (QueryAsked Q H)) × EndsAsked says bytes read × (frame ≡ option_map query_want read)

-- ---- the rules

-- How an input is cut into queries by a grammar, and what is written for the replies.
abbrev pub query_rules : {Q H : Type 0} → (Line → LineMeaning Q H) → Rules (QueryAsked Q H) QueryReply NoEnd
query_rules says = record {
  whole = IsQueryFrame says;
  begun = IsStartOfQuery says;
  ends = EndsInput says;
  reads_as = QueryReadsAs;
  refuses = λ asked reply. ⊥;
  text = λ want reply. query_bytes reply;
}

-- A complete frame stays complete if more bytes come after it.
pub query_whole_on : {Q H : Type 0} (says : Line → LineMeaning Q H) (bytes rest more : List ℕ)
    (frame : Option (Want (QueryAsked Q H) NoEnd)) → IsQueryFrame says bytes frame rest
    → IsQueryFrame says (bytes ++ more) frame (rest ++ more)
query_whole_on says bytes rest more frame is = record {
  part = is.part;
  packet = is.packet;
  ends = record {
    parts = ap (λ xs. xs ++ more) is.ends.parts
        ∙ (append_assoc (is.part ++ 10 ∷ []) (is.packet ++ rest) more
        ∙ ap (λ xs. (is.part ++ 10 ∷ []) ++ xs) (append_assoc is.packet rest more));
    none = is.ends.none;
  };
  size = is.size;
  frame_is = is.frame_is;
}

-- ---- what is held of an incomplete frame

-- The bytes since the last frame are held up to here, depending on how far the frame was read. In a line all of them
-- are held, and in a line that is too long, those after a front that was dropped. In a packet all of it is held, and in
-- a skipped packet, those after a front.
abbrev pub HoldsQuery : {Q H : Type 0} → (Line → LineMeaning Q H) → FrameStage H → List ℕ → List ℕ → Type 0
HoldsQuery says (FrameStage.Line seen) held bytes =
    (held ≡ bytes) × (seen ≤ length held) × HasNoEnd (take seen held)
HoldsQuery says FrameStage.LongLine held bytes =
    (dropped : List ℕ) × (bytes ≡ dropped ++ held) × HasNoEnd dropped × (query_limit + 1 < length dropped)
HoldsQuery says (FrameStage.Packet head size) held bytes =
    (part : List ℕ) × IsCutAtEnd bytes part held × (line_says says (line_of part) ≡ Some (LineMeaning.Packet head size))
    × (0 < size)
HoldsQuery says (FrameStage.Skipped refusal left) held bytes =
    (part : List ℕ) × (dropped : List ℕ) × IsCutAtEnd bytes part (dropped ++ held)
    × (line_says says (line_of part) ≡ Some (LineMeaning.Skipped refusal (length dropped + left))) × (0 < left)
