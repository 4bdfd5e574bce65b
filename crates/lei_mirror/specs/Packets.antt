-- Packets: copies and deltas of sheets in JSON, as a mirror keeps them.
use Rattle.std.specs.Prelude.{◌≡◌, ◌==◌, ◌&&◌, ℕ, Bool, false, true, length, nat_le}
use Rattle.lei_code.specs.Texts.{Text}
use Rattle.register_words.specs.declared.sheets.Form.{Form}
use Rattle.register_words.specs.declared.sheets.Sheet.{Sheet}
use Rattle.copy_csv.specs.declared.heads.Head.{Head}
use Rattle.copy_forms.specs.Files.{IsCopy, IsDelta}
use Rattle.lei_mirror.specs.declared.packet.PacketBody.{PacketBody}
use Rattle.lei_mirror.specs.declared.packet.Packet.{Packet}
use Rattle.lei_mirror.specs.declared.packet.PacketKind.{PacketKind}

-- The kind of a packet, by what follows its head: rows or changes.
abbrev pub body_kind : PacketBody → PacketKind
body_kind (PacketBody.Copy rows) = PacketKind.Copy
body_kind (PacketBody.Delta changes) = PacketKind.Delta

-- ---- what bytes spell

-- The bytes are the copy, or the delta, of the sheet in JSON with this head and this body.
abbrev pub IsBody : Text → Sheet → PacketKind → Head → PacketBody → Type 0
IsBody bytes sheet PacketKind.Copy head (PacketBody.Copy rows) = IsCopy bytes sheet Form.Json head false rows
IsBody bytes sheet PacketKind.Copy head (PacketBody.Delta changes) = ⊥
IsBody bytes sheet PacketKind.Delta head (PacketBody.Copy rows) = ⊥
IsBody bytes sheet PacketKind.Delta head (PacketBody.Delta changes) =
    IsDelta bytes sheet Form.Json head false changes

-- The bytes are this packet, of this kind and sheet.
pub record IsPacket (kind : PacketKind) (sheet : Sheet) (bytes : Text) (packet : Packet) : Type 0 where
  pub sheet_is : packet.sheet ≡ sheet
  pub size_is : packet.size ≡ length bytes
  pub body_is : IsBody bytes sheet kind packet.head packet.body

-- The bytes aren't a packet of this kind and sheet.
abbrev pub IsNoPacket : PacketKind → Sheet → Text → Type 0
IsNoPacket kind sheet bytes = (packet : Packet) → IsPacket kind sheet bytes packet → ⊥

-- ---- tests

-- Whether two sheets are the same.
abbrev pub is_sheet : Sheet → Sheet → Bool
is_sheet Sheet.Lei Sheet.Lei = true
is_sheet Sheet.Lei Sheet.Rr = false
is_sheet Sheet.Lei Sheet.Repex = false
is_sheet Sheet.Rr Sheet.Lei = false
is_sheet Sheet.Rr Sheet.Rr = true
is_sheet Sheet.Rr Sheet.Repex = false
is_sheet Sheet.Repex Sheet.Lei = false
is_sheet Sheet.Repex Sheet.Rr = false
is_sheet Sheet.Repex Sheet.Repex = true

-- Whether two kinds are the same.
abbrev pub is_kind : PacketKind → PacketKind → Bool
is_kind PacketKind.Copy PacketKind.Copy = true
is_kind PacketKind.Copy PacketKind.Delta = false
is_kind PacketKind.Delta PacketKind.Copy = false
is_kind PacketKind.Delta PacketKind.Delta = true

-- The packet is of this kind and sheet, and of the publication with this number.
abbrev pub is_packet_of : PacketKind → Sheet → ℕ → Packet → Bool
is_packet_of kind sheet number packet =
    is_kind (body_kind packet.body) kind && is_sheet packet.sheet sheet && (packet.head.publication == number)

-- The packet is the copy of this sheet in a publication.
abbrev pub is_copy_of : Sheet → ℕ → Packet → Bool
is_copy_of sheet number packet = is_packet_of PacketKind.Copy sheet number packet

-- The packet is a delta of this sheet to a publication, from one with a number from 1 to `shown`.
abbrev pub is_delta_to : Sheet → ℕ → ℕ → Packet → Bool
is_delta_to sheet number shown packet =
    is_packet_of PacketKind.Delta sheet number packet
    && nat_le 1 packet.head.from && nat_le packet.head.from shown

-- The other packet has the kind, the sheet, the publication and the base of this one. In a copy the base is 0.
abbrev pub is_like : Packet → Packet → Bool
is_like packet other =
    is_packet_of (body_kind packet.body) packet.sheet packet.head.publication other
    && (other.head.from == packet.head.from)
