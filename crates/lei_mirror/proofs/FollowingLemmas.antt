-- A mirror that takes packets of a trail keeps following it.
use Rattle.std.proofs.Common.{◌≡◌, ℕ, zero, suc, ◌<◌, ◌≤◌, ◌^◌, Bool, true, false, Option, None, Some, List, [], ◌∷◌, ◌++◌, length, refl, sym, ap, subst, ◌∙◌, arith}
use Rattle.std.specs.Prelude.{is_some}
use Rattle.std.specs.List.{All}
use Rattle.std.proofs.lemmas.Bool.{false≢true}
use Rattle.std.proofs.lemmas.List.Elements.{All-push}
use Rattle.lei_code.specs.Texts.{Text}
use Rattle.register_words.specs.declared.sheets.Form.{Form}
use Rattle.register_words.specs.declared.sheets.Sheet.{Sheet}
use Rattle.copy_csv.specs.declared.heads.Head.{Head}
use Rattle.copy_csv.specs.declared.rows.Change.{Change}
use Rattle.copy_csv.specs.Sheets.{SheetRow}
use Rattle.copy_forms.specs.Files.{IsCopy, IsDelta}
use Rattle.copy_forms.specs.Patching.{patched, patched_head}
use Rattle.copy_forms.specs.Trails.{IsSoundTrail, Publication, Trail, changes_between, copy_head, delta_head, is_wide_in, publication_at}
use Rattle.copy_forms.proofs.BetweenLemmas.{copy_stands, delta_stands, rows_lead}
use Rattle.copy_forms.proofs.CopyLemmas.{copy-same, delta-same}
use Rattle.lei_mirror.specs.declared.packet.PacketBody.{PacketBody}
use Rattle.lei_mirror.specs.declared.packet.Packet.{Packet}
use Rattle.lei_mirror.specs.declared.packet.PacketKind.{PacketKind}
use Rattle.lei_mirror.specs.declared.tables.SheetCopy.{SheetCopy}
use Rattle.lei_mirror.specs.declared.tables.Tables.{Tables}
use Rattle.lei_mirror.specs.Following.{FollowsTrail, HasOfTrail, ShowsCopyOf, IsCopyOfTrail, IsDeltaOfTrail, IsKeptOfTrail, IsOfTrail}
use Rattle.lei_mirror.specs.Mirrors.{IsReadyToShow, MirrorState, SettlesIn, TakesBytes, packet_for, copy_after, copy_with, sheet_copy, is_ahead, is_past, mirror_at, tables_at}
use Rattle.lei_mirror.specs.Packets.{IsBody, IsPacket, is_kind, body_kind}
use Rattle.lei_mirror.proofs.PacketLemmas.{IsPacketFor, packet_for_is}
use Rattle.lei_mirror.proofs.TakingLemmas.{left_good}

module _ (trail : Trail) (on : IsSoundTrail trail) (few : length trail ≤ 1_000_000) where
  -- ---- what is read from a packet of the trail

  copy_kept : (sheet : Sheet) (bytes : Text) → length bytes < 2 ^ 64 → IsCopyOfTrail trail sheet bytes → (head : Head) (rows : List SheetRow)
      → IsCopy bytes sheet Form.Json head false rows → (packet : Packet) → packet.sheet ≡ sheet → packet.head ≡ head → packet.body ≡ PacketBody.Copy rows
      → IsKeptOfTrail trail packet
  copy_kept sheet bytes short of head rows is packet sheet_is head_is body_is =
      let publication : Publication = of.copy.publication in
      let stands : IsCopy bytes sheet Form.Json (copy_head of.number publication) (is_wide_in publication sheet Form.Json) (publication.rows sheet) =
      subst (λ b. IsCopy b sheet Form.Json (copy_head of.number publication) (is_wide_in publication sheet Form.Json) (publication.rows sheet))
      (sym of.copy.bytes_are) (copy_stands trail on few of.number publication of.first of.copy.at sheet Form.Json) in
      let same = copy-same sheet bytes head (copy_head of.number publication) false (is_wide_in publication sheet Form.Json) rows (publication.rows sheet) short is stands in
      let whole : packet.head ≡ copy_head of.number publication = head_is ∙ same.0 in
      let number : packet.head.publication ≡ of.number = ap (λ (h : Head). h.publication) whole in
      record {
        publication = publication;
        first = subst (λ n. 1 ≤ n) (sym number) of.first;
        at = ap (publication_at trail) number ∙ of.copy.at;
        has = subst (HasOfTrail trail packet.sheet packet.head publication) (sym body_is)
            (whole ∙ ap (λ n. copy_head n publication) (sym number), same.1 ∙ ap publication.rows (sym sheet_is));
      }

  delta_kept : (sheet : Sheet) (bytes : Text) → length bytes < 2 ^ 64 → IsDeltaOfTrail trail sheet bytes → (head : Head) (changes : List Change)
      → IsDelta bytes sheet Form.Json head false changes → (packet : Packet) → packet.sheet ≡ sheet → packet.head ≡ head → packet.body ≡ PacketBody.Delta changes
      → IsKeptOfTrail trail packet
  delta_kept sheet bytes short of head changes is packet sheet_is head_is body_is =
      let publication : Publication = of.publication in
      let all : List Change = changes_between trail of.from of.number publication sheet in
      let stands : IsDelta bytes sheet Form.Json (delta_head of.from of.number publication) (is_wide_in publication sheet Form.Json) all =
      subst (λ b. IsDelta b sheet Form.Json (delta_head of.from of.number publication) (is_wide_in publication sheet Form.Json) all)
      (sym of.bytes_are) (delta_stands trail on few of.from of.number publication of.first of.ordered of.at sheet Form.Json) in
      let same = delta-same sheet bytes head (delta_head of.from of.number publication) false (is_wide_in publication sheet Form.Json) changes all short is stands in
      let whole : packet.head ≡ delta_head of.from of.number publication = head_is ∙ same.0 in
      let number : packet.head.publication ≡ of.number = ap (λ (h : Head). h.publication) whole in
      let from : packet.head.from ≡ of.from = ap (λ (h : Head). h.from) whole in
      let first : 1 ≤ of.from = of.first in
      let ordered : of.from ≤ of.number = of.ordered in
      record {
        publication = publication;
        first = omega arith;
        at = ap (publication_at trail) number ∙ of.at;
        has = subst (HasOfTrail trail packet.sheet packet.head publication) (sym body_is) (
          whole ∙ λ i. delta_head (sym from i) (sym number i) publication,
          same.1 ∙ λ i. changes_between trail (sym from i) (sym number i) publication (sym sheet_is i),
        );
      }

  packet_kept : (kind : PacketKind) (sheet : Sheet) (bytes : Text) → length bytes < 2 ^ 64 → IsOfTrail trail kind sheet bytes → (packet : Packet)
      → IsPacket kind sheet bytes packet → IsKeptOfTrail trail packet
  packet_kept kind sheet bytes short of packet is = by kind packet.body refl of is.body_is
    where
      by : (kind : PacketKind) (body : PacketBody) → packet.body ≡ body → IsOfTrail trail kind sheet bytes → IsBody bytes sheet kind packet.head body
          → IsKeptOfTrail trail packet
      by PacketKind.Copy (PacketBody.Copy rows) e of is_body = copy_kept sheet bytes short of packet.head rows is_body packet is.sheet_is refl e
      by PacketKind.Copy (PacketBody.Delta changes) e of is_body = absurd is_body
      by PacketKind.Delta (PacketBody.Copy rows) e of is_body = absurd is_body
      by PacketKind.Delta (PacketBody.Delta changes) e of is_body = delta_kept sheet bytes short of packet.head changes is_body packet is.sheet_is refl e

  -- ---- a move

  -- after a packet of the trail, the sheet shows the copy of this packet's publication
  brought_follows : (shown number : ℕ) (sheet : Sheet) (held : SheetCopy) (packet : Packet) → (1 ≤ shown → ShowsCopyOf trail shown sheet held) → shown < number
      → IsPacketFor (IsKeptOfTrail trail) sheet number shown packet → ShowsCopyOf trail number sheet (copy_with held packet.head packet.body)
  brought_follows shown number sheet held packet shows later is =
      by packet.body is.holds.has is.brings.base
    where
      publication : Publication
      publication = is.holds.publication

      by : (body : PacketBody) → HasOfTrail trail packet.sheet packet.head is.holds.publication body
          → (is_kind (body_kind body) PacketKind.Delta ≡ true → (1 ≤ packet.head.from) × (packet.head.from ≤ shown))
          → ShowsCopyOf trail number sheet (copy_with held packet.head body)
      by (PacketBody.Copy rows) has base = record {
        publication = is.holds.publication;
        at = ap (publication_at trail) (sym is.brings.number_is) ∙ is.holds.at;
        head_is = ap Some (has.0 ∙ ap (λ n. copy_head n is.holds.publication) is.brings.number_is);
        rows_are = has.1 ∙ ap is.holds.publication.rows is.brings.sheet_is;
      }
      by (PacketBody.Delta changes) has base =
          let within : (1 ≤ packet.head.from) × (packet.head.from ≤ shown) = base refl in
          let some : 1 ≤ shown = omega (arith, within.0, within.1) in
          let copied : ShowsCopyOf trail shown sheet held = shows some in
          let at : publication_at trail number ≡ Some is.holds.publication = ap (publication_at trail) (sym is.brings.number_is) ∙ is.holds.at in
          let all : changes ≡ changes_between trail packet.head.from number is.holds.publication sheet =
          has.1 ∙ λ i. changes_between trail packet.head.from (is.brings.number_is i) is.holds.publication (is.brings.sheet_is i) in
          record {
            publication = is.holds.publication;
            at = at;
            head_is = ap Some (ap patched_head has.0 ∙ ap (λ n. copy_head n is.holds.publication) is.brings.number_is);
            rows_are = (λ i. patched (copied.rows_are i) (all i))
                ∙ rows_lead trail on few packet.head.from shown number copied.publication is.holds.publication within.0 within.1 (omega arith) copied.at at sheet;
          }

  sheet_follows : (tables : Tables) (kept : List Packet) (number : ℕ) (sheet : Sheet) (held : SheetCopy) → (1 ≤ tables.publication → ShowsCopyOf trail tables.publication sheet held)
      → All (IsKeptOfTrail trail) kept → IsReadyToShow tables.publication kept number
      → ShowsCopyOf trail number sheet (copy_after held (packet_for tables.publication kept number sheet))
  sheet_follows tables kept number sheet held shows all ready = by (packet_for tables.publication kept number sheet) refl (ready.packets sheet)
    where
      by : (o : Option Packet) → packet_for tables.publication kept number sheet ≡ o → is_some o ≡ true → ShowsCopyOf trail number sheet (copy_after held o)
      by None e none = absurd (false≢true none)
      by (Some packet) e found =
          brought_follows tables.publication number sheet held packet shows ready.later (packet_for_is (IsKeptOfTrail trail) tables.publication kept number sheet packet all e)

  move_follows : (state : MirrorState) (number : ℕ) → FollowsTrail trail state → IsReadyToShow state.tables.publication state.kept number
      → FollowsTrail trail (mirror_at state number)
  move_follows state number is ready = record {
    shows = λ some sheet. by sheet;
    keeps = left_good (IsKeptOfTrail trail) (is_ahead number) state.kept is.keeps;
  }
    where
      by : (sheet : Sheet) → ShowsCopyOf trail number sheet (sheet_copy (tables_at state.tables state.kept number) sheet)
      by Sheet.Lei = sheet_follows state.tables state.kept number Sheet.Lei state.tables.lei (λ some. is.shows some Sheet.Lei) is.keeps ready
      by Sheet.Rr = sheet_follows state.tables state.kept number Sheet.Rr state.tables.rr (λ some. is.shows some Sheet.Rr) is.keeps ready
      by Sheet.Repex = sheet_follows state.tables state.kept number Sheet.Repex state.tables.repex (λ some. is.shows some Sheet.Repex) is.keeps ready

  settles_follows : (moves : ℕ) (state settled : MirrorState) → FollowsTrail trail state → SettlesIn moves state settled → FollowsTrail trail settled
  settles_follows zero state settled is settles = subst (FollowsTrail trail) (sym settles.1) is
  settles_follows (suc moves) state settled is settles =
      let ready : IsReadyToShow state.tables.publication state.kept settles.0 = settles.1.ready in
      settles_follows moves (mirror_at state settles.0) settled (move_follows state settles.0 is ready) settles.2

  -- ---- a packet

  pub take_follows : (state taken : MirrorState) (kind : PacketKind) (sheet : Sheet) (bytes : Text) → length bytes < 2 ^ 64 → IsOfTrail trail kind sheet bytes
      → FollowsTrail trail state → TakesBytes state kind sheet bytes taken → FollowsTrail trail taken
  take_follows state taken kind sheet bytes short of follows takes = by (is_past state takes.packet) refl
    where
      kept : IsKeptOfTrail trail takes.packet
      kept = packet_kept kind sheet bytes short of takes.packet takes.is

      by : (b : Bool) → is_past state takes.packet ≡ b → FollowsTrail trail taken
      by true past = subst (FollowsTrail trail) (sym (takes.takes.past past)) follows
      by false new =
          let settles = takes.takes.settles new in
          settles_follows settles.moves (record { tables = state.tables; kept = state.kept ++ takes.packet ∷ [] }) taken (record {
            shows = follows.shows;
            keeps = All-push (IsKeptOfTrail trail) state.kept takes.packet follows.keeps kept;
          }) settles.settles
