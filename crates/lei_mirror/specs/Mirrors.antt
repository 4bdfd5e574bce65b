-- What a mirror shows and keeps, and how a packet changes it: this project's profile.
use Rattle.std.specs.Prelude.{◌≡◌, ◌<◌, ◌≤◌, ◌+◌, ℕ, zero, suc, Bool, false, true, ◌||◌, List, [], ◌∷◌, ◌++◌, length, Option, None, Some, is_some, filter, nat_le, nat_lt, sum_by}
use Rattle.std.specs.List.{find, list_any}
use Rattle.std.specs.Option.{option_or}
use Rattle.lei_code.specs.Texts.{Text}
use Rattle.register_words.specs.declared.sheets.Form.{Form}
use Rattle.register_words.specs.declared.sheets.Sheet.{Sheet}
use Rattle.copy_csv.specs.declared.heads.Head.{Head}
use Rattle.copy_forms.specs.Files.{IsCopy}
use Rattle.copy_forms.specs.Patching.{patched, patched_head}
use Rattle.lei_mirror.specs.declared.packet.Packet.{Packet}
use Rattle.lei_mirror.specs.declared.packet.PacketBody.{PacketBody}
use Rattle.lei_mirror.specs.declared.packet.PacketKind.{PacketKind}
use Rattle.lei_mirror.specs.declared.tables.SheetCopy.{SheetCopy}
use Rattle.lei_mirror.specs.declared.tables.Tables.{Tables}
use Rattle.lei_mirror.specs.Packets.{IsPacket, is_copy_of, is_delta_to, is_like}

-- A mirror: the tables that it shows, and the packets of later publications that it keeps, in order of arrival. The
-- tables are all of one publication, whose number is 0 before the first one.
pub record MirrorState : Type 0 where
  pub tables : Tables
  pub kept : List Packet

-- What is shown of a sheet: the head of its copy, or none before the first one, and its rows.
abbrev pub sheet_copy : Tables → Sheet → SheetCopy
sheet_copy tables Sheet.Lei = tables.lei
sheet_copy tables Sheet.Rr = tables.rr
sheet_copy tables Sheet.Repex = tables.repex

-- What is shown of a sheet before the first copy.
abbrev pub empty_copy : SheetCopy
empty_copy = record { head = None; rows = [] }

-- A mirror that has taken nothing.
abbrev pub empty_mirror : MirrorState
empty_mirror = record {
  tables = record { publication = 0; lei = empty_copy; rr = empty_copy; repex = empty_copy };
  kept = [];
}

-- ---- packets that change nothing, and packets for which there is no room

-- A packet changes nothing if its publication isn't after the one that is shown, or if one like it is kept.
abbrev pub is_past : MirrorState → Packet → Bool
is_past state packet =
    nat_le packet.head.publication state.tables.publication || list_any (is_like packet) state.kept

-- The number of bytes of these packets in total.
abbrev pub bytes_in : List Packet → ℕ
bytes_in packets = sum_by (λ packet. packet.size) packets

-- There is no room for a packet if 64 are kept, or if their bytes and its own are more than 536,870,912 in total.
abbrev pub is_mirror_full : MirrorState → Packet → Bool
is_mirror_full state packet =
    nat_le 64 (length state.kept) || nat_lt 536_870_912 (bytes_in state.kept + packet.size)

-- Any other packet is kept, after the others.
abbrev pub with_packet : MirrorState → Packet → MirrorState
with_packet state packet = record { tables = state.tables; kept = state.kept ++ packet ∷ [] }

-- ---- from one publication to a later one

-- The packet that brings a sheet from the publication that is shown to another one. This is the other one's copy, or
-- else the first delta to it from the shown publication or from an earlier one.
abbrev pub packet_for : ℕ → List Packet → ℕ → Sheet → Option Packet
packet_for shown kept number sheet =
    option_or (find (is_copy_of sheet number) kept) (find (is_delta_to sheet number shown) kept)

-- A publication can be shown if it is after the one that is shown, and if a packet brings each sheet to it.
pub record IsReadyToShow (shown : ℕ) (kept : List Packet) (number : ℕ) : Type 0 where
  pub later : shown < number
  pub packets : (sheet : Sheet) → is_some (packet_for shown kept number sheet) ≡ true

-- It is the greatest publication that can be shown.
pub record IsGreatestReady (shown : ℕ) (kept : List Packet) (number : ℕ) : Type 0 where
  pub ready : IsReadyToShow shown kept number
  pub greatest : (other : ℕ) → IsReadyToShow shown kept other → other ≤ number

-- What is shown of a sheet after a packet with this head and this body. These are the rows of a copy, or the rows that
-- were shown, patched by a delta.
abbrev pub copy_with : SheetCopy → Head → PacketBody → SheetCopy
copy_with old head (PacketBody.Copy rows) = record { head = Some head; rows = rows }
copy_with old head (PacketBody.Delta changes) = record {
  head = Some (patched_head head);
  rows = patched old.rows changes;
}

-- The same if there may be no packet.
abbrev pub copy_after : SheetCopy → Option Packet → SheetCopy
copy_after old None = old
copy_after old (Some packet) = copy_with old packet.head packet.body

-- The tables of another publication, each brought there by a packet.
abbrev pub tables_at : Tables → List Packet → ℕ → Tables
tables_at tables kept number = record {
  publication = number;
  lei = copy_after tables.lei (packet_for tables.publication kept number Sheet.Lei);
  rr = copy_after tables.rr (packet_for tables.publication kept number Sheet.Rr);
  repex = copy_after tables.repex (packet_for tables.publication kept number Sheet.Repex);
}

-- The packet is of a publication after this one.
abbrev pub is_ahead : ℕ → Packet → Bool
is_ahead number packet = nat_lt number packet.head.publication

-- The mirror at another publication: packets that aren't ahead of it are dropped.
abbrev pub mirror_at : MirrorState → ℕ → MirrorState
mirror_at state number = record {
  tables = tables_at state.tables state.kept number;
  kept = filter (is_ahead number) state.kept;
}

-- After this many moves no other publication can be shown, and each move was to the greatest one that could be shown
-- before it.
abbrev pub SettlesIn : ℕ → MirrorState → MirrorState → Type 0
SettlesIn zero state settled =
    ((number : ℕ) → IsReadyToShow state.tables.publication state.kept number → ⊥) × (settled ≡ state)
SettlesIn (suc moves) state settled =
    (number : ℕ) × IsGreatestReady state.tables.publication state.kept number
    × SettlesIn moves (mirror_at state number) settled

-- The mirror settles after some number of moves.
pub record Settles (state settled : MirrorState) : Type 0 where
  pub moves : ℕ
  pub settles : SettlesIn moves state settled

-- ---- how a packet changes a mirror

-- A packet is taken. Either it changes nothing, or there is room for it, it is kept, and the mirror moves as far as it
-- can.
pub record TakesPacket (state : MirrorState) (packet : Packet) (taken : MirrorState) : Type 0 where
  pub past : is_past state packet ≡ true → taken ≡ state
  pub room : is_past state packet ≡ false → is_mirror_full state packet ≡ false
  pub settles : is_past state packet ≡ false → Settles (with_packet state packet) taken

-- These bytes are a packet, and it is taken.
pub record TakesBytes (state : MirrorState) (kind : PacketKind) (sheet : Sheet) (bytes : Text)
    (taken : MirrorState) : Type 0 where
  pub packet : Packet
  pub is : IsPacket kind sheet bytes packet
  pub takes : TakesPacket state packet taken

-- These bytes are a packet that would be kept, but there is no room for it.
pub record HasNoRoom (state : MirrorState) (kind : PacketKind) (sheet : Sheet) (bytes : Text) : Type 0 where
  pub packet : Packet
  pub is : IsPacket kind sheet bytes packet
  pub new : is_past state packet ≡ false
  pub full : is_mirror_full state packet ≡ true

-- ---- what a mirror shows

-- The bytes are what is shown of a sheet: its copy in JSON, whose head has the number of the publication that is shown.
pub record IsSheetShown (state : MirrorState) (sheet : Sheet) (bytes : Text) : Type 0 where
  pub head : Head
  pub head_is : (sheet_copy state.tables sheet).head ≡ Some head
  pub number_is : head.publication ≡ state.tables.publication
  pub copy : IsCopy bytes sheet Form.Json head false (sheet_copy state.tables sheet).rows
