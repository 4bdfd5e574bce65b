-- What lines say, and what they ask with the packets that come after them. This project's profile.
use Rattle.std.specs.Prelude.{◌≡◌, ◌⊎◌, ◌<◌, ◌≤◌, ℕ, ◌==◌, List, length, nat_lt, if◌then◌else◌, Option, Some, None}
use Rattle.line_reading.specs.Lines.{Line}
use Rattle.query_reading.specs.declared.asked.QueryAsked.{QueryAsked}
use Rattle.query_reading.specs.declared.grammar.LineMeaning.{LineMeaning}
use Rattle.query_reading.specs.declared.refusal.QueryRefusal.TheVariants.{NoMemory, TooLong, Truncated}

-- A line has at most 4,096 bytes without its end.
abbrev pub query_limit : ℕ
query_limit = 4_096

-- What a line says by a grammar: an empty line says nothing, and a line that is too long is refused, whatever it
-- contains.
abbrev pub line_says : {Q H : Type 0} → (Line → LineMeaning Q H) → Line → Option (LineMeaning Q H)
line_says says line =
    if length line == 0 then None
    else (if nat_lt query_limit (length line) then Some (LineMeaning.Refused TooLong) else Some (says line))

-- A query without a packet.
abbrev pub IsWholeQuery : {Q H : Type 0} → LineMeaning Q H → Type 0
IsWholeQuery (LineMeaning.Refused refusal) = ⊥
IsWholeQuery (LineMeaning.Query query) = Unit {0}
IsWholeQuery (LineMeaning.Packet head size) = ⊥
IsWholeQuery (LineMeaning.Skipped refusal size) = ⊥

-- What a line says was read; or it is a query without a packet, and memory ran out, which is its refusal.
abbrev pub IsMeaning : {Q H : Type 0} → (Line → LineMeaning Q H) → Line → Option (LineMeaning Q H) → Type 0
IsMeaning says line read =
    (read ≡ line_says says line)
    ⊎ ((0 < length line) × (length line ≤ query_limit) × IsWholeQuery (says line)
    × (read ≡ Some (LineMeaning.Refused NoMemory)))

-- How many bytes after the line's end are its packet.
abbrev pub packet_size : {Q H : Type 0} → Option (LineMeaning Q H) → ℕ
packet_size None = 0
packet_size (Some (LineMeaning.Refused refusal)) = 0
packet_size (Some (LineMeaning.Query query)) = 0
packet_size (Some (LineMeaning.Packet head size)) = size
packet_size (Some (LineMeaning.Skipped refusal size)) = size

-- What is asked by a line that says this, if these bytes are its packet. Nobody reads a packet that is skipped.
abbrev pub asked_with : {Q H : Type 0} → Option (LineMeaning Q H) → List ℕ → Option (QueryAsked Q H)
asked_with None packet = None
asked_with (Some (LineMeaning.Refused refusal)) packet = Some (QueryAsked.Refuse refusal)
asked_with (Some (LineMeaning.Query query)) packet = Some (QueryAsked.Query query)
asked_with (Some (LineMeaning.Packet head size)) packet = Some (QueryAsked.Packet head packet)
asked_with (Some (LineMeaning.Skipped refusal size)) packet = Some (QueryAsked.Refuse refusal)

-- What is asked by a line that says this, if the input ends before its packet does.
abbrev pub asked_at_end : {Q H : Type 0} → Option (LineMeaning Q H) → Option (QueryAsked Q H)
asked_at_end None = None
asked_at_end (Some (LineMeaning.Refused refusal)) = Some (QueryAsked.Refuse refusal)
asked_at_end (Some (LineMeaning.Query query)) = Some (QueryAsked.Query query)
asked_at_end (Some (LineMeaning.Packet head size)) = Some (QueryAsked.Refuse Truncated)
asked_at_end (Some (LineMeaning.Skipped refusal size)) = Some (QueryAsked.Refuse refusal)
