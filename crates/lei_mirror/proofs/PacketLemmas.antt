-- Packets, and those that bring a sheet to a publication.
use Rattle.std.proofs.Common.{◌≡◌, ℕ, ◌==◌, ◌<◌, ◌≤◌, ◌^◌, Bool, true, false, ◌&&◌, ◌||◌, cond, Option, None, Some, List, [], ◌∷◌, length, nat_le, refl, sym, ap, subst, ◌∙◌, arith}
use Rattle.std.specs.Prelude.{filter, is_some, unwrap_or}
use Rattle.std.specs.List.{All, find, list_any}
use Rattle.std.specs.Option.{option_or}
use Rattle.std.proofs.lemmas.Bool.{and_parts, false≢true}
use Rattle.std.proofs.lemmas.Bool.Decides.{nat_tests}
use Rattle.std.proofs.lemmas.List.Elements.{All-head, All-tail}
use Rattle.lei_code.specs.Texts.{Text}
use Rattle.register_words.specs.declared.sheets.Form.{Form}
use Rattle.register_words.specs.declared.sheets.Sheet.{Sheet}
use Rattle.copy_csv.specs.declared.heads.Head.{Head}
use Rattle.copy_csv.specs.declared.rows.Change.{Change}
use Rattle.copy_csv.specs.Sheets.{SheetRow}
use Rattle.copy_forms.specs.Files.{IsCopy, IsDelta}
use Rattle.copy_forms.proofs.CopyLemmas.{copy-same, delta-same}
use Rattle.lei_mirror.specs.declared.packet.PacketBody.{PacketBody}
use Rattle.lei_mirror.specs.declared.packet.Packet.{Packet}
use Rattle.lei_mirror.specs.declared.packet.PacketKind.{PacketKind}
use Rattle.lei_mirror.specs.Mirrors.{packet_for}
use Rattle.lei_mirror.specs.Packets.{IsBody, IsNoPacket, IsPacket, is_copy_of, is_delta_to, is_kind, is_packet_of, is_sheet, body_kind}
use Rattle.lei_mirror.specs.Settling.{IsSoundFor}
use Rattle.lei_mirror.specs.States.{IsSoundPacket}

-- ---- what bytes spell

pub no_copy : (sheet : Sheet) (bytes : Text) → ((head : Head) (wide : Bool) (rows : List SheetRow) → IsCopy bytes sheet Form.Json head wide rows → ⊥)
    → IsNoPacket PacketKind.Copy sheet bytes
no_copy sheet bytes none packet is = by packet.body is.body_is
  where
    by : (body : PacketBody) → IsBody bytes sheet PacketKind.Copy packet.head body → ⊥
    by (PacketBody.Copy rows) is = none packet.head false rows is
    by (PacketBody.Delta changes) is = is

pub no_delta : (sheet : Sheet) (bytes : Text) → ((head : Head) (wide : Bool) (changes : List Change) → IsDelta bytes sheet Form.Json head wide changes → ⊥)
    → IsNoPacket PacketKind.Delta sheet bytes
no_delta sheet bytes none packet is = by packet.body is.body_is
  where
    by : (body : PacketBody) → IsBody bytes sheet PacketKind.Delta packet.head body → ⊥
    by (PacketBody.Copy rows) is = is
    by (PacketBody.Delta changes) is = none packet.head false changes is

-- the same bytes have the same head and the same body
module _ (sheet : Sheet) (bytes : Text) (short : length bytes < 2 ^ 64) where
  same_body : (kind : PacketKind) (head other : Head) (body another : PacketBody) → IsBody bytes sheet kind head body → IsBody bytes sheet kind other another
      → (head ≡ other) × (body ≡ another)
  same_body PacketKind.Copy head other (PacketBody.Copy rows) (PacketBody.Copy others) is are =
      let same = copy-same sheet bytes head other false false rows others short is are in (same.0, ap (λ l. PacketBody.Copy l) same.1)
  same_body PacketKind.Copy head other (PacketBody.Copy rows) (PacketBody.Delta changes) is are = absurd are
  same_body PacketKind.Copy head other (PacketBody.Delta changes) another is are = absurd is
  same_body PacketKind.Delta head other (PacketBody.Copy rows) another is are = absurd is
  same_body PacketKind.Delta head other (PacketBody.Delta changes) (PacketBody.Copy rows) is are = absurd are
  same_body PacketKind.Delta head other (PacketBody.Delta changes) (PacketBody.Delta others) is are =
      let same = delta-same sheet bytes head other false false changes others short is are in (same.0, ap (λ l. PacketBody.Delta l) same.1)

  pub same_packet : (kind : PacketKind) (packet other : Packet) → IsPacket kind sheet bytes packet → IsPacket kind sheet bytes other → packet ≡ other
  same_packet kind packet other is are =
      let same = same_body kind packet.head other.head packet.body other.body is.body_is are.body_is in
      let sheets : packet.sheet ≡ other.sheet = is.sheet_is ∙ sym are.sheet_is in
      let sizes : packet.size ≡ other.size = is.size_is ∙ sym are.size_is in
      λ i. record { sheet = sheets i; head = same.0 i; size = sizes i; body = same.1 i }

-- ---- tests

pub one_sheet : (sheet other : Sheet) → is_sheet sheet other ≡ true → sheet ≡ other
one_sheet Sheet.Lei Sheet.Lei e = refl
one_sheet Sheet.Lei Sheet.Rr e = absurd (false≢true e)
one_sheet Sheet.Lei Sheet.Repex e = absurd (false≢true e)
one_sheet Sheet.Rr Sheet.Lei e = absurd (false≢true e)
one_sheet Sheet.Rr Sheet.Rr e = refl
one_sheet Sheet.Rr Sheet.Repex e = absurd (false≢true e)
one_sheet Sheet.Repex Sheet.Lei e = absurd (false≢true e)
one_sheet Sheet.Repex Sheet.Rr e = absurd (false≢true e)
one_sheet Sheet.Repex Sheet.Repex e = refl

-- numbers that pass the test are equal
one_number : (n m : ℕ) → (n == m) ≡ true → n ≡ m
one_number n m e = grind (arith, nat_tests)

at_most : (n m : ℕ) → nat_le n m ≡ true → n ≤ m
at_most n m e = grind (arith, nat_tests)

-- what the tests of a packet mean
pub record IsPacketOf (kind : PacketKind) (sheet : Sheet) (number : ℕ) (packet : Packet) : Type 0 where
  pub kind_is : is_kind (body_kind packet.body) kind ≡ true
  pub sheet_is : packet.sheet ≡ sheet
  pub number_is : packet.head.publication ≡ number

packet_of : (kind : PacketKind) (sheet : Sheet) (number : ℕ) (packet : Packet) → is_packet_of kind sheet number packet ≡ true
    → IsPacketOf kind sheet number packet
packet_of kind sheet number packet e =
    let parts = and_parts (is_kind (body_kind packet.body) kind && is_sheet packet.sheet sheet) (packet.head.publication == number) e in
    let first = and_parts (is_kind (body_kind packet.body) kind) (is_sheet packet.sheet sheet) parts.0 in
    record {
      kind_is = first.0;
      sheet_is = one_sheet packet.sheet sheet first.1;
      number_is = one_number packet.head.publication number parts.1;
    }

-- a packet that brings a sheet to a publication from the one that is shown
pub record Brings (sheet : Sheet) (number shown : ℕ) (packet : Packet) : Type 0 where
  pub sheet_is : packet.sheet ≡ sheet
  pub number_is : packet.head.publication ≡ number
  pub base : is_kind (body_kind packet.body) PacketKind.Delta ≡ true → (1 ≤ packet.head.from) × (packet.head.from ≤ shown)

copies_bring : (sheet : Sheet) (number shown : ℕ) (packet : Packet) → is_copy_of sheet number packet ≡ true → Brings sheet number shown packet
copies_bring sheet number shown packet e =
    let is : IsPacketOf PacketKind.Copy sheet number packet = packet_of PacketKind.Copy sheet number packet e in
    record {
      sheet_is = is.sheet_is;
      number_is = is.number_is;
      base = no_base packet.body is.kind_is;
    }
  where
    no_base : (body : PacketBody) → is_kind (body_kind body) PacketKind.Copy ≡ true → is_kind (body_kind body) PacketKind.Delta ≡ true
        → (1 ≤ packet.head.from) × (packet.head.from ≤ shown)
    no_base (PacketBody.Copy rows) copied delta = absurd (false≢true delta)
    no_base (PacketBody.Delta changes) copied delta = absurd (false≢true copied)

deltas_bring : (sheet : Sheet) (number shown : ℕ) (packet : Packet) → is_delta_to sheet number shown packet ≡ true → Brings sheet number shown packet
deltas_bring sheet number shown packet e =
    let parts = and_parts (is_packet_of PacketKind.Delta sheet number packet && nat_le 1 packet.head.from) (nat_le packet.head.from shown) e in
    let first = and_parts (is_packet_of PacketKind.Delta sheet number packet) (nat_le 1 packet.head.from) parts.0 in
    let is : IsPacketOf PacketKind.Delta sheet number packet = packet_of PacketKind.Delta sheet number packet first.0 in
    record {
      sheet_is = is.sheet_is;
      number_is = is.number_is;
      base = λ delta. (at_most 1 packet.head.from first.1, at_most packet.head.from shown parts.1);
    }

-- ---- searches

-- what is found has a property of all packets, and passes the test
pub record IsFound (P : Packet → Type 0) (test : Packet → Bool) (packet : Packet) : Type 0 where
  pub holds : P packet
  pub passes : test packet ≡ true

find_good : (P : Packet → Type 0) (test : Packet → Bool) (kept : List Packet) (packet : Packet) → All P kept → find test kept ≡ Some packet
    → IsFound P test packet
find_good P test [] packet all e = cc
find_good P test (x ∷ kept) packet all e = by (find_good P test kept packet (All-tail P x kept all)) (test x) refl e
  where
    by : (find test kept ≡ Some packet → IsFound P test packet) → (b : Bool) → test x ≡ b → cond b (Some x) (find test kept) ≡ Some packet
        → IsFound P test packet
    by others true is e =
        subst (IsFound P test) (ap (λ o. unwrap_or o x) e) (record { holds = All-head P x kept all; passes = is })
    by others false is e = others e

-- a packet that was found brings the sheet there, and has a property of all that are kept
pub record IsPacketFor (P : Packet → Type 0) (sheet : Sheet) (number shown : ℕ) (packet : Packet) : Type 0 where
  pub holds : P packet
  pub brings : Brings sheet number shown packet

pub packet_for_is : (P : Packet → Type 0) (shown : ℕ) (kept : List Packet) (number : ℕ) (sheet : Sheet) (packet : Packet) → All P kept
    → packet_for shown kept number sheet ≡ Some packet → IsPacketFor P sheet number shown packet
packet_for_is P shown kept number sheet packet all e =
    by (find (is_copy_of sheet number) kept) (find (is_delta_to sheet number shown) kept) refl refl e
  where
    by : (o u : Option Packet) → find (is_copy_of sheet number) kept ≡ o → find (is_delta_to sheet number shown) kept ≡ u → option_or o u ≡ Some packet
        → IsPacketFor P sheet number shown packet
    by (Some x) u found other e =
        let is : IsFound P (is_copy_of sheet number) packet = find_good P (is_copy_of sheet number) kept packet all (found ∙ e) in
        record { holds = is.holds; brings = copies_bring sheet number shown packet is.passes }
    by None u found other e =
        let is : IsFound P (is_delta_to sheet number shown) packet = find_good P (is_delta_to sheet number shown) kept packet all (other ∙ e) in
        record { holds = is.holds; brings = deltas_bring sheet number shown packet is.passes }

-- so it is sound if all are
pub packet_for_sound : (shown : ℕ) (kept : List Packet) (number : ℕ) (sheet : Sheet) → All IsSoundPacket kept
    → IsSoundFor sheet (packet_for shown kept number sheet)
packet_for_sound shown kept number sheet all = by (packet_for shown kept number sheet) refl
  where
    by : (o : Option Packet) → packet_for shown kept number sheet ≡ o → IsSoundFor sheet o
    by None e = tt
    by (Some packet) e =
        let is : IsPacketFor IsSoundPacket sheet number shown packet = packet_for_is IsSoundPacket shown kept number sheet packet all e in
        (is.holds, is.brings.sheet_is)

-- a search among packets that pass another test finds the same, if each packet that it looks for passes that test
find_filtered : (test keep : Packet → Bool) → ((packet : Packet) → test packet ≡ true → keep packet ≡ true) → (kept : List Packet)
    → find test (filter keep kept) ≡ find test kept
find_filtered test keep all [] = refl
find_filtered test keep all (x ∷ kept) = by (find_filtered test keep all kept) (keep x) (test x) refl refl
  where
    by : find test (filter keep kept) ≡ find test kept → (k t : Bool) → keep x ≡ k → test x ≡ t
        → find test (cond k (x ∷ filter keep kept) (filter keep kept)) ≡ cond t (Some x) (find test kept)
    by others true true is passes = ap (λ b. cond b (Some x) (find test (filter keep kept))) passes
    by others true false is passes = ap (λ b. cond b (Some x) (find test (filter keep kept))) passes ∙ others
    by others false true is passes = absurd (false≢true (sym is ∙ all x passes))
    by others false false is passes = others

pub filtered_twice : (test keep : Packet → Bool) → ((packet : Packet) → test packet ≡ true → keep packet ≡ true) → (kept : List Packet)
    → filter test (filter keep kept) ≡ filter test kept
filtered_twice test keep all [] = refl
filtered_twice test keep all (x ∷ kept) = by (filtered_twice test keep all kept) (keep x) (test x) refl refl
  where
    by : filter test (filter keep kept) ≡ filter test kept → (k t : Bool) → keep x ≡ k → test x ≡ t
        → filter test (cond k (x ∷ filter keep kept) (filter keep kept)) ≡ cond t (x ∷ filter test kept) (filter test kept)
    by others true true is passes = ap (λ b. cond b (x ∷ filter test (filter keep kept)) (filter test (filter keep kept))) passes ∙ ap (λ l. x ∷ l) others
    by others true false is passes = ap (λ b. cond b (x ∷ filter test (filter keep kept)) (filter test (filter keep kept))) passes ∙ others
    by others false true is passes = absurd (false≢true (sym is ∙ all x passes))
    by others false false is passes = others

pub packet_for_filtered : (shown : ℕ) (keep : Packet → Bool) (kept : List Packet) (number : ℕ) (sheet : Sheet)
    → ((packet : Packet) → packet.head.publication ≡ number → keep packet ≡ true)
    → packet_for shown (filter keep kept) number sheet ≡ packet_for shown kept number sheet
packet_for_filtered shown keep kept number sheet all = λ i.
    option_or
    (find_filtered (is_copy_of sheet number) keep
    (λ packet e. all packet (packet_of PacketKind.Copy sheet number packet e).number_is) kept i)
    (find_filtered (is_delta_to sheet number shown) keep (λ packet e. all packet (deltas_bring sheet number shown packet e).number_is) kept i)

-- if something is found, some packet passes each weaker test
find_any : (test other : Packet → Bool) → ((packet : Packet) → test packet ≡ true → other packet ≡ true) → (kept : List Packet)
    → is_some (find test kept) ≡ true → list_any other kept ≡ true
find_any test other all [] e = absurd (false≢true e)
find_any test other all (x ∷ kept) e = by (find_any test other all kept) (test x) (other x) refl refl e
  where
    by : (is_some (find test kept) ≡ true → list_any other kept ≡ true) → (t o : Bool) → test x ≡ t → other x ≡ o
        → is_some (cond t (Some x) (find test kept)) ≡ true → (o || list_any other kept) ≡ true
    by others t true passes is e = refl
    by others true false passes is e = absurd (false≢true (sym is ∙ all x passes))
    by others false false passes is e = others e

-- the packet is of this publication
abbrev pub is_numbered : ℕ → Packet → Bool
is_numbered number packet = packet.head.publication == number

pub numbered : (packet : Packet) (number : ℕ) → packet.head.publication ≡ number → is_numbered number packet ≡ true
numbered packet number e = grind (arith, nat_tests)

pub packet_for_any : (shown : ℕ) (kept : List Packet) (number : ℕ) (sheet : Sheet) → is_some (packet_for shown kept number sheet) ≡ true
    → list_any (is_numbered number) kept ≡ true
packet_for_any shown kept number sheet e = by (find (is_copy_of sheet number) kept) refl e
  where
    by : (o : Option Packet) → find (is_copy_of sheet number) kept ≡ o → is_some (option_or o (find (is_delta_to sheet number shown) kept)) ≡ true
        → list_any (is_numbered number) kept ≡ true
    by (Some x) found e =
        find_any (is_copy_of sheet number) (is_numbered number)
        (λ packet passes. numbered packet number (packet_of PacketKind.Copy sheet number packet passes).number_is) kept (ap is_some found)
    by None found e =
        find_any (is_delta_to sheet number shown) (is_numbered number)
        (λ packet passes. numbered packet number (deltas_bring sheet number shown packet passes).number_is) kept e
