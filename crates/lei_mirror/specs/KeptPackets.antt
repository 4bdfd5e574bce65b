-- How the packets that a mirror keeps are held.
use Rattle.std.specs.Prelude.{◌≡◌, ℕ}
use Rattle.std.specs.Arc.{arc_value}
use Rattle.lei_code.specs.Texts.{Text}
use Rattle.register_words.specs.declared.sheets.Sheet.{Sheet}
use Rattle.copy_csv.specs.declared.heads.Head.{Head}
use Rattle.lei_mirror.specs.declared.kept_packet.HeldBody.{HeldBody}
use Rattle.lei_mirror.specs.declared.packet.Packet.{Packet}
use Rattle.lei_mirror.specs.declared.packet.PacketKind.{PacketKind}
use Rattle.lei_mirror.specs.Packets.{IsPacket, body_kind}

-- The bytes are this packet, of its own kind and sheet.
abbrev pub IsSpelledBy : Text → Packet → Type 0
IsSpelledBy bytes packet = IsPacket (body_kind packet.body) packet.sheet bytes packet

-- What is held of a packet: bytes that are the packet, or what was read from them.
abbrev pub IsHeldBody : HeldBody → Packet → Type 0
IsHeldBody (HeldBody.Bytes bytes) packet = IsSpelledBy bytes packet
IsHeldBody (HeldBody.Read body) packet = arc_value body ≡ packet.body

-- The kind, the sheet, the head and the size are those of the packet, and its body is held.
pub record IsKeptAs (kind : PacketKind) (sheet : Sheet) (head : Head) (size : ℕ) (body : HeldBody)
    (packet : Packet) : Type 0 where
  pub kind_is : kind ≡ body_kind packet.body
  pub sheet_is : sheet ≡ packet.sheet
  pub head_is : head ≡ packet.head
  pub size_is : size ≡ packet.size
  pub body_is : IsHeldBody body packet
