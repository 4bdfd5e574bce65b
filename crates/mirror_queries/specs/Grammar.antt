-- What a line to a mirror says. This project's profile.
use Rattle.std.specs.Prelude.{ℕ, List, codes, if◌then◌else◌, Option, None, Some, ◌||◌}
use Rattle.std.specs.Str.{bytes_eq}
use Rattle.register_words.specs.Words.{number_within, sheet_named}
use Rattle.register_words.specs.declared.sheets.Sheet.{Sheet}
use Rattle.line_reading.specs.Lines.{Line}
use Rattle.line_reading.specs.Requests.{cut_at_space}
use Rattle.query_reading.specs.declared.grammar.LineMeaning.{LineMeaning}
use Rattle.query_reading.specs.declared.refusal.QueryRefusal.TheVariants.{NoRoute, Path, TooLong}
use Rattle.lei_mirror.specs.declared.packet.PacketKind.{PacketKind}
use Rattle.mirror_queries.specs.declared.grammar.PacketHead.{PacketHead}
use Rattle.mirror_queries.specs.declared.grammar.ShowQuery.{ShowQuery}

-- What lines to a mirror say: which table is asked for, or the kind and the table of a packet.
abbrev pub MirrorMeaning : Type 0
MirrorMeaning = LineMeaning ShowQuery PacketHead

-- The size of a packet: from 1 to 536,870,912 bytes.
abbrev pub mirror_packet_size : List ℕ → Option ℕ
mirror_packet_size word = number_within 1 536_870_912 word

-- A size that is too large for a packet, of up to 10 digits.
abbrev pub large_of : List ℕ → Option ℕ
large_of word = number_within 536_870_913 9_999_999_999 word

-- A packet of a size, or one that is too large and skipped.
abbrev pub packet_by_size : PacketHead → Option ℕ → Option ℕ → MirrorMeaning
packet_by_size head (Some size) large = LineMeaning.Packet head size
packet_by_size head None (Some size) = LineMeaning.Skipped TooLong size
packet_by_size head None None = LineMeaning.Refused Path

-- The same for the word that has the number of bytes.
unfoldable pub packet_of_size : PacketHead → List ℕ → MirrorMeaning
packet_of_size head word = packet_by_size head (mirror_packet_size word) (large_of word)

-- A packet of a table, if the word names one.
abbrev pub packet_by : PacketKind → Option Sheet → List ℕ → MirrorMeaning
packet_by kind None size = LineMeaning.Refused Path
packet_by kind (Some sheet) size = packet_of_size (record { kind = kind; sheet = sheet }) size

-- The same for words that were cut at their first space, if they have one.
abbrev pub packet_in : PacketKind → Option (List ℕ × List ℕ) → MirrorMeaning
packet_in kind None = LineMeaning.Refused Path
packet_in kind (Some parts) = packet_by kind (sheet_named parts.0) parts.1

-- COPY and DELTA: a table, and the number of the bytes that follow.
unfoldable pub packet_of : PacketKind → List ℕ → MirrorMeaning
packet_of kind rest = packet_in kind (cut_at_space rest)

-- The query for the copy of a table, if the word names one.
abbrev pub show_by : Option Sheet → MirrorMeaning
show_by None = LineMeaning.Refused Path
show_by (Some sheet) = LineMeaning.Query (record { sheet = sheet })

-- SHOW: a table.
unfoldable pub show_meaning : List ℕ → MirrorMeaning
show_meaning rest = show_by (sheet_named rest)

-- A first word alone lacks the words that belong to it, or is unknown.
abbrev pub mirror_says_alone : List ℕ → MirrorMeaning
mirror_says_alone word =
    if bytes_eq word (codes "COPY") || bytes_eq word (codes "DELTA") || bytes_eq word (codes "SHOW")
    then LineMeaning.Refused Path
    else LineMeaning.Refused NoRoute

-- What a first word says with what follows its space.
abbrev pub mirror_says_with : List ℕ → List ℕ → MirrorMeaning
mirror_says_with word rest =
    if bytes_eq word (codes "COPY") then packet_of PacketKind.Copy rest
    else (if bytes_eq word (codes "DELTA") then packet_of PacketKind.Delta rest
    else (if bytes_eq word (codes "SHOW") then show_meaning rest else LineMeaning.Refused NoRoute))

-- What a line says after it was cut at its first space, if it has one.
abbrev pub mirror_says_cut : Line → Option (List ℕ × List ℕ) → MirrorMeaning
mirror_says_cut line None = mirror_says_alone line
mirror_says_cut line (Some parts) = mirror_says_with parts.0 parts.1

-- What a line to a mirror says: the first of these that applies. Its first word is unknown; its other words aren't
-- those that belong to the first; its packet is too large; or what it asks.
abbrev pub mirror_says : Line → MirrorMeaning
mirror_says line = mirror_says_cut line (cut_at_space line)
