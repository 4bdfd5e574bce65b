-- What holds for each mirror.
use Rattle.std.specs.Prelude.{◌≡◌, ◌<◌, ◌≤◌, ℕ, List, length, Option, None, Some}
use Rattle.std.specs.List.{All}
use Rattle.register_words.specs.declared.sheets.Sheet.{Sheet}
use Rattle.copy_csv.specs.declared.heads.Head.{Head}
use Rattle.copy_csv.specs.Rows.{AreChanges, AreRows, IsCopyHead, IsDeltaHead}
use Rattle.lei_mirror.specs.declared.packet.PacketBody.{PacketBody}
use Rattle.lei_mirror.specs.declared.packet.Packet.{Packet}
use Rattle.lei_mirror.specs.declared.tables.SheetCopy.{SheetCopy}
use Rattle.lei_mirror.specs.declared.tables.Tables.{Tables}
use Rattle.lei_mirror.specs.Mirrors.{bytes_in, sheet_copy}

-- The head of what is shown: that of a copy with this number, or none if the number is 0.
abbrev pub IsHeadAt : ℕ → Option Head → Type 0
IsHeadAt shown None = shown ≡ 0
IsHeadAt shown (Some head) = IsCopyHead head × (head.publication ≡ shown)

-- What is shown of a sheet: such a head, and rows of the sheet with rising keys.
pub record IsCopyOf (shown : ℕ) (sheet : Sheet) (copy : SheetCopy) : Type 0 where
  pub head_is : IsHeadAt shown copy.head
  pub rows_are : AreRows sheet copy.rows

-- This holds for all three sheets.
abbrev pub AreTables : Tables → Type 0
AreTables tables = (sheet : Sheet) → IsCopyOf tables.publication sheet (sheet_copy tables sheet)

-- The head and the body are those that a copy or a delta of the sheet may have.
abbrev pub IsSoundBody : Sheet → Head → PacketBody → Type 0
IsSoundBody sheet head (PacketBody.Copy rows) = IsCopyHead head × AreRows sheet rows
IsSoundBody sheet head (PacketBody.Delta changes) = IsDeltaHead head × AreChanges sheet changes

-- This holds for a packet.
abbrev pub IsSoundPacket : Packet → Type 0
IsSoundPacket packet = IsSoundBody packet.sheet packet.head packet.body

-- The packets that are kept: sound ones, each of a publication after the one that is shown. There are at most 64 of
-- them, with at most 536,870,912 bytes in total.
pub record AreKeptPackets (shown : ℕ) (kept : List Packet) : Type 0 where
  pub sound : All IsSoundPacket kept
  pub after : All (λ packet. shown < packet.head.publication) kept
  pub few : length kept ≤ 64
  pub small : bytes_in kept ≤ 536_870_912

-- The tables and the kept packets of a mirror.
pub record IsMirror (tables : Tables) (kept : List Packet) : Type 0 where
  pub tables_are : AreTables tables
  pub kept_are : AreKeptPackets tables.publication kept
