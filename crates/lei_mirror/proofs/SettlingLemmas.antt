-- Moves of a mirror, if packets are dropped only afterwards.
use Rattle.std.proofs.Common.{◌≡◌, ℕ, suc, ◌<◌, ◌≤◌, true, Option, None, Some, List, refl, sym, ap, subst, ◌∙◌, arith}
use Rattle.std.specs.Prelude.{filter, is_some}
use Rattle.std.specs.List.{All}
use Rattle.std.proofs.lemmas.Bool.{false≢true}
use Rattle.std.proofs.lemmas.Bool.Decides.{nat_tests}
use Rattle.register_words.specs.declared.sheets.Sheet.{Sheet}
use Rattle.copy_csv.specs.declared.heads.Head.{Head}
use Rattle.copy_csv.specs.Rows.{IsDeltaHead}
use Rattle.copy_forms.proofs.Merged.{rows_stay}
use Rattle.lei_mirror.specs.declared.packet.PacketBody.{PacketBody}
use Rattle.lei_mirror.specs.declared.packet.Packet.{Packet}
use Rattle.lei_mirror.specs.declared.tables.SheetCopy.{SheetCopy}
use Rattle.lei_mirror.specs.declared.tables.Tables.{Tables}
use Rattle.lei_mirror.specs.Mirrors.{IsGreatestReady, IsReadyToShow, MirrorState, Settles, SettlesIn, packet_for, copy_after, copy_with, is_ahead, mirror_at, tables_at}
use Rattle.lei_mirror.specs.Settling.{SettlesTo, mirror_of}
use Rattle.lei_mirror.specs.States.{AreTables, IsHeadAt, IsCopyOf, IsSoundBody, IsSoundPacket}
use Rattle.lei_mirror.proofs.PacketLemmas.{IsPacketFor, packet_for_filtered, packet_for_is, filtered_twice}

-- ---- tables after a move

-- what is shown of a sheet after a packet of a publication
held_stays : (shown number : ℕ) (sheet : Sheet) (held : SheetCopy) → IsCopyOf shown sheet held → (head : Head) (body : PacketBody) → IsSoundBody sheet head body
    → head.publication ≡ number → IsCopyOf number sheet (copy_with held head body)
held_stays shown number sheet held is head (PacketBody.Copy rows) sound same = record { head_is = (sound.0, same); rows_are = sound.1 }
held_stays shown number sheet held is head (PacketBody.Delta changes) sound same =
    let head_is : IsDeltaHead head = sound.0 in
    record {
      head_is = (record { moment = head_is.moment; publication = head_is.publication; from = refl }, same);
      rows_are = rows_stay sheet held.rows changes is.rows_are sound.1;
    }

brought_stays : (tables : Tables) (kept : List Packet) (number : ℕ) (sheet : Sheet) (held : SheetCopy) → IsCopyOf tables.publication sheet held → All IsSoundPacket kept
    → is_some (packet_for tables.publication kept number sheet) ≡ true → IsCopyOf number sheet (copy_after held (packet_for tables.publication kept number sheet))
brought_stays tables kept number sheet held is sound some = by (packet_for tables.publication kept number sheet) refl some
  where
    by : (o : Option Packet) → packet_for tables.publication kept number sheet ≡ o → is_some o ≡ true → IsCopyOf number sheet (copy_after held o)
    by None e none = absurd (false≢true none)
    by (Some packet) e found =
        let good : IsPacketFor IsSoundPacket sheet number tables.publication packet = packet_for_is IsSoundPacket tables.publication kept number sheet packet sound e in
        held_stays tables.publication number sheet held is packet.head packet.body
        (subst (λ s. IsSoundBody s packet.head packet.body) good.brings.sheet_is good.holds) good.brings.number_is

pub tables_stay : (tables : Tables) (kept : List Packet) (number : ℕ) → AreTables tables → All IsSoundPacket kept → IsReadyToShow tables.publication kept number
    → AreTables (tables_at tables kept number)
tables_stay tables kept number are sound ready Sheet.Lei =
    brought_stays tables kept number Sheet.Lei tables.lei (are Sheet.Lei) sound (ready.packets Sheet.Lei)
tables_stay tables kept number are sound ready Sheet.Rr =
    brought_stays tables kept number Sheet.Rr tables.rr (are Sheet.Rr) sound (ready.packets Sheet.Rr)
tables_stay tables kept number are sound ready Sheet.Repex =
    brought_stays tables kept number Sheet.Repex tables.repex (are Sheet.Repex) sound (ready.packets Sheet.Repex)

-- the number of what is shown is at most that of a publication
pub shown_small : (tables : Tables) → AreTables tables → tables.publication ≤ 1_000_000
shown_small tables are = by tables.lei.head (are Sheet.Lei).head_is
  where
    by : (o : Option Head) → IsHeadAt tables.publication o → tables.publication ≤ 1_000_000
    by None none = omega arith
    by (Some head) is = let last : head.publication ≤ 1_000_000 = is.0.publication.1 in let same : head.publication ≡ tables.publication = is.1 in omega arith

-- ---- packets that are past after a move

after_from : (shown : ℕ) (packet : Packet) (number : ℕ) → shown < number → packet.head.publication ≡ number → is_ahead shown packet ≡ true
after_from shown packet number later same = grind (arith, nat_tests)

kept_packet_for : (tables : Tables) (kept : List Packet) (number : ℕ) → tables.publication < number → (sheet : Sheet)
    → packet_for tables.publication (filter (is_ahead tables.publication) kept) number sheet ≡ packet_for tables.publication kept number sheet
kept_packet_for tables kept number later sheet =
    packet_for_filtered tables.publication (is_ahead tables.publication) kept number sheet (λ packet same. after_from tables.publication packet number later same)

ready_filtered : (tables : Tables) (kept : List Packet) (number : ℕ) → IsReadyToShow tables.publication kept number
    → IsReadyToShow tables.publication (filter (is_ahead tables.publication) kept) number
ready_filtered tables kept number is = record {
  later = is.later;
  packets = λ sheet. ap is_some (kept_packet_for tables kept number is.later sheet) ∙ is.packets sheet;
}

ready_whole : (tables : Tables) (kept : List Packet) (number : ℕ) → IsReadyToShow tables.publication (filter (is_ahead tables.publication) kept) number
    → IsReadyToShow tables.publication kept number
ready_whole tables kept number is = record {
  later = is.later;
  packets = λ sheet. ap is_some (sym (kept_packet_for tables kept number is.later sheet)) ∙ is.packets sheet;
}

after_later : (shown number : ℕ) (packet : Packet) → shown < number → is_ahead number packet ≡ true → is_ahead shown packet ≡ true
after_later shown number packet later e = grind (arith, nat_tests)

moved_mirror : (tables : Tables) (kept : List Packet) (number : ℕ) → tables.publication < number
    → mirror_at (mirror_of tables kept) number ≡ mirror_of (tables_at tables kept number) kept
moved_mirror tables kept number later = λ i. record {
  tables = record {
    publication = number;
    lei = copy_after tables.lei (kept_packet_for tables kept number later Sheet.Lei i);
    rr = copy_after tables.rr (kept_packet_for tables kept number later Sheet.Rr i);
    repex = copy_after tables.repex (kept_packet_for tables kept number later Sheet.Repex i);
  };
  kept = filtered_twice (is_ahead number) (is_ahead tables.publication) (λ packet e. after_later tables.publication number packet later e) kept i;
}

-- ---- what settles the mirror after a move settles it before

-- whatever settles the mirror with the current tables settles it with the others
abbrev pub GoesOn : Tables → List Packet → Tables → Type 0
GoesOn tables kept now = (settled : MirrorState) → Settles (mirror_of now kept) settled → Settles (mirror_of tables kept) settled

pub goes_on : (tables : Tables) (kept : List Packet) (now next : Tables) (number : ℕ) → GoesOn tables kept now → IsGreatestReady now.publication kept number
    → next ≡ tables_at now kept number → GoesOn tables kept next
goes_on tables kept now next number goes is made settled rest =
    let ready : IsReadyToShow now.publication kept number = is.ready in
    let greatest : IsGreatestReady now.publication (filter (is_ahead now.publication) kept) number = record {
      ready = ready_filtered now kept number ready;
      greatest = λ other found. is.greatest other (ready_whole now kept other found);
    } in
    let moved : mirror_of next kept ≡ mirror_at (mirror_of now kept) number =
    ap (λ t. mirror_of t kept) made ∙ sym (moved_mirror now kept number ready.later) in
    goes settled (record {
      moves = suc rest.moves;
      settles = (number, greatest, subst (λ state. SettlesIn rest.moves state settled) moved rest.settles);
    })

pub rests : (tables : Tables) (kept : List Packet) (now : Tables) → GoesOn tables kept now → ((number : ℕ) → IsReadyToShow now.publication kept number → ⊥)
    → SettlesTo tables kept now
rests tables kept now goes none =
    goes (mirror_of now kept) (record { moves = 0; settles = (λ number is. none number (ready_whole now kept number is), refl) })

-- tables that were built from the tables before a move
pub tables_made : (tables : Tables) (kept : List Packet) (number : ℕ) (made : Tables) → AreTables tables → All IsSoundPacket kept
    → IsGreatestReady tables.publication kept number → made ≡ tables_at tables kept number → AreTables made
tables_made tables kept number made are sound is same =
    subst AreTables (sym same) (tables_stay tables kept number are sound is.ready)
