-- A mirror that follows a trail of publications.
use Rattle.std.specs.Prelude.{◌≡◌, ◌≤◌, ℕ, Some}
use Rattle.std.specs.List.{All}
use Rattle.lei_code.specs.Texts.{Text}
use Rattle.register_words.specs.declared.sheets.Form.{Form}
use Rattle.register_words.specs.declared.sheets.Sheet.{Sheet}
use Rattle.copy_csv.specs.declared.heads.Head.{Head}
use Rattle.copy_forms.specs.Trails.{Publication, Trail, changes_between, copy_head, copy_of, delta_between, delta_head, publication_at}
use Rattle.lei_mirror.specs.declared.packet.PacketBody.{PacketBody}
use Rattle.lei_mirror.specs.declared.packet.Packet.{Packet}
use Rattle.lei_mirror.specs.declared.packet.PacketKind.{PacketKind}
use Rattle.lei_mirror.specs.declared.tables.SheetCopy.{SheetCopy}
use Rattle.lei_mirror.specs.Mirrors.{MirrorState, sheet_copy}

-- The bytes are the copy of the publication with this number in the trail.
pub record IsCopyAt (trail : Trail) (number : ℕ) (sheet : Sheet) (bytes : Text) : Type 0 where
  pub publication : Publication
  pub at : publication_at trail number ≡ Some publication
  pub bytes_are : bytes ≡ copy_of number publication sheet Form.Json

-- The bytes are the copy of a publication of the trail.
pub record IsCopyOfTrail (trail : Trail) (sheet : Sheet) (bytes : Text) : Type 0 where
  pub number : ℕ
  pub first : 1 ≤ number
  pub copy : IsCopyAt trail number sheet bytes

-- The bytes are the delta between two publications of the trail, or from one to itself.
pub record IsDeltaOfTrail (trail : Trail) (sheet : Sheet) (bytes : Text) : Type 0 where
  pub from : ℕ
  pub number : ℕ
  pub publication : Publication
  pub first : 1 ≤ from
  pub ordered : from ≤ number
  pub at : publication_at trail number ≡ Some publication
  pub bytes_are : bytes ≡ delta_between trail from number publication sheet Form.Json

-- The bytes are a packet of the trail, of this kind and sheet.
abbrev pub IsOfTrail : Trail → PacketKind → Sheet → Text → Type 0
IsOfTrail trail PacketKind.Copy sheet bytes = IsCopyOfTrail trail sheet bytes
IsOfTrail trail PacketKind.Delta sheet bytes = IsDeltaOfTrail trail sheet bytes

-- The head and the body are those of the copy of a publication of the trail, or of the delta between two.
abbrev pub HasOfTrail : Trail → Sheet → Head → Publication → PacketBody → Type 0
HasOfTrail trail sheet head publication (PacketBody.Copy rows) =
    (head ≡ copy_head head.publication publication) × (rows ≡ publication.rows sheet)
HasOfTrail trail sheet head publication (PacketBody.Delta changes) =
    (head ≡ delta_head head.from head.publication publication)
    × (changes ≡ changes_between trail head.from head.publication publication sheet)

-- A packet that is kept is one of the trail.
pub record IsKeptOfTrail (trail : Trail) (packet : Packet) : Type 0 where
  pub publication : Publication
  pub first : 1 ≤ packet.head.publication
  pub at : publication_at trail packet.head.publication ≡ Some publication
  pub has : HasOfTrail trail packet.sheet packet.head publication packet.body

-- What is shown of a sheet is the copy of the publication with this number in the trail.
pub record ShowsCopyOf (trail : Trail) (number : ℕ) (sheet : Sheet) (copy : SheetCopy) : Type 0 where
  pub publication : Publication
  pub at : publication_at trail number ≡ Some publication
  pub head_is : copy.head ≡ Some (copy_head number publication)
  pub rows_are : copy.rows ≡ publication.rows sheet

-- A mirror follows a trail. If it shows a publication, it shows the copy of this publication for each sheet. All
-- packets that it keeps are of the trail.
pub record FollowsTrail (trail : Trail) (state : MirrorState) : Type 0 where
  pub shows : 1 ≤ state.tables.publication → (sheet : Sheet)
      → ShowsCopyOf trail state.tables.publication sheet (sheet_copy state.tables sheet)
  pub keeps : All (IsKeptOfTrail trail) state.kept
