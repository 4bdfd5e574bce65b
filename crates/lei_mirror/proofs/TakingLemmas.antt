-- How a packet changes a mirror.
use Rattle.std.proofs.Common.{◌≡◌, ℕ, zero, suc, ◌+◌, ◌<◌, ◌≤◌, Bool, true, false, cond, List, [], ◌∷◌, ◌++◌, length, nat_le, nat_lt, refl, sym, ap, subst, ◌∙◌, arith}
use Rattle.std.specs.Prelude.{filter}
use Rattle.std.specs.List.{All, list_any}
use Rattle.std.proofs.lemmas.Bool.{false≢true, or_parts}
use Rattle.std.proofs.lemmas.Bool.Decides.{nat_tests}
use Rattle.std.proofs.lemmas.List.{length_push}
use Rattle.std.proofs.lemmas.List.Sums.{sum_by-cons, sum_by_push}
use Rattle.std.proofs.lemmas.List.Elements.{All-cons, All-head, All-nil, All-push, All-tail}
use Rattle.register_words.specs.declared.sheets.Sheet.{Sheet}
use Rattle.copy_csv.specs.Rows.{IsRowOfSheet}
use Rattle.copy_csv.proofs.RowLemmas.{rising-nil}
use Rattle.lei_mirror.specs.declared.packet.Packet.{Packet}
use Rattle.lei_mirror.specs.declared.tables.Tables.{Tables}
use Rattle.lei_mirror.specs.Mirrors.{IsGreatestReady, IsReadyToShow, MirrorState, Settles, SettlesIn, TakesPacket, bytes_in, empty_mirror, sheet_copy, is_ahead, is_mirror_full, is_past, mirror_at, with_packet}
use Rattle.lei_mirror.specs.Packets.{is_like}
use Rattle.lei_mirror.specs.Settling.{SettlesTo, mirror_of}
use Rattle.lei_mirror.specs.States.{AreKeptPackets, AreTables, IsCopyOf, IsMirror, IsSoundPacket}

-- ---- a mirror settles in only one way

one_greatest : (shown : ℕ) (kept : List Packet) (number other : ℕ) → IsGreatestReady shown kept number → IsGreatestReady shown kept other → number ≡ other
one_greatest shown kept number other is are =
    let below : number ≤ other = are.greatest number is.ready in
    let above : other ≤ number = is.greatest other are.ready in omega arith

one_settled : (moves others : ℕ) (state settled other : MirrorState) → SettlesIn moves state settled → SettlesIn others state other → settled ≡ other
one_settled zero zero state settled other is are = is.1 ∙ sym are.1
one_settled zero (suc others) state settled other is are = let ready : IsReadyToShow state.tables.publication state.kept are.0 = are.1.ready in absurd (is.0 are.0 ready)
one_settled (suc moves) zero state settled other is are = let ready : IsReadyToShow state.tables.publication state.kept is.0 = is.1.ready in absurd (are.0 is.0 ready)
one_settled (suc moves) (suc others) state settled other is are =
    let same : are.0 ≡ is.0 = one_greatest state.tables.publication state.kept are.0 is.0 are.1 is.1 in
    one_settled moves others (mirror_at state is.0) settled other is.2 (subst (λ number. SettlesIn others (mirror_at state number) other) same are.2)

pub one_taken : (state : MirrorState) (packet : Packet) (taken other : MirrorState) → TakesPacket state packet taken → TakesPacket state packet other → taken ≡ other
one_taken state packet taken other is are = by (is_past state packet) refl
  where
    by : (b : Bool) → is_past state packet ≡ b → taken ≡ other
    by true past = is.past past ∙ sym (are.past past)
    by false new =
        let first : Settles (with_packet state packet) taken = is.settles new in
        let second : Settles (with_packet state packet) other = are.settles new in
        one_settled first.moves second.moves (with_packet state packet) taken other first.settles second.settles

-- ---- packets that are kept

-- if all packets are after the publication that is shown, all of them are ahead
all_after : (shown : ℕ) (kept : List Packet) → All (λ packet. shown < packet.head.publication) kept → filter (is_ahead shown) kept ≡ kept
all_after shown [] all = refl
all_after shown (x ∷ kept) all =
    ap (λ b. cond b (x ∷ filter (is_ahead shown) kept) (filter (is_ahead shown) kept))
    (is_one x (All-head (λ packet. shown < packet.head.publication) x kept all))
    ∙ ap (λ l. x ∷ l) (all_after shown kept (All-tail (λ packet. shown < packet.head.publication) x kept all))
  where
    is_one : (packet : Packet) → shown < packet.head.publication → is_ahead shown packet ≡ true
    is_one packet later = grind (arith, nat_tests)

-- those that are left have a property of all packets
pub left_good : (P : Packet → Type 0) (test : Packet → Bool) (kept : List Packet) → All P kept → All P (filter test kept)
left_good P test [] all = All-nil P
left_good P test (x ∷ kept) all = by (left_good P test kept (All-tail P x kept all)) (test x)
  where
    by : All P (filter test kept) → (b : Bool) → All P (cond b (x ∷ filter test kept) (filter test kept))
    by others true = All-cons P x (filter test kept) (All-head P x kept all) others
    by others false = others

left_after : (shown : ℕ) (kept : List Packet) → All (λ packet. shown < packet.head.publication) (filter (is_ahead shown) kept)
left_after shown [] = All-nil (λ packet. shown < packet.head.publication)
left_after shown (x ∷ kept) = by (left_after shown kept) (is_ahead shown x) refl
  where
    by : All (λ packet. shown < packet.head.publication) (filter (is_ahead shown) kept) → (b : Bool) → is_ahead shown x ≡ b
        → All (λ packet. shown < packet.head.publication) (cond b (x ∷ filter (is_ahead shown) kept) (filter (is_ahead shown) kept))
    by others true is =
        All-cons (λ packet. shown < packet.head.publication) x (filter (is_ahead shown) kept) (grind (arith, nat_tests)) others
    by others false is = others

left_few : (test : Packet → Bool) (kept : List Packet) → length (filter test kept) ≤ length kept
left_few test [] = omega arith
left_few test (x ∷ kept) = by (left_few test kept) (test x)
  where
    by : length (filter test kept) ≤ length kept → (b : Bool) → length (cond b (x ∷ filter test kept) (filter test kept)) ≤ length (x ∷ kept)
    by fewer true = omega arith
    by fewer false = omega arith

left_small : (test : Packet → Bool) (kept : List Packet) → bytes_in (filter test kept) ≤ bytes_in kept
left_small test [] = omega arith
left_small test (x ∷ kept) = by (left_small test kept) (test x)
  where
    all : bytes_in (x ∷ kept) ≡ x.size + bytes_in kept
    all = sum_by-cons (λ packet. packet.size) x kept

    part : bytes_in (x ∷ filter test kept) ≡ x.size + bytes_in (filter test kept)
    part = sum_by-cons (λ packet. packet.size) x (filter test kept)

    by : bytes_in (filter test kept) ≤ bytes_in kept → (b : Bool) → bytes_in (cond b (x ∷ filter test kept) (filter test kept)) ≤ bytes_in (x ∷ kept)
    by fewer true = omega (arith, all, part)
    by fewer false = omega (arith, all)

bytes-push : (kept : List Packet) (packet : Packet) → bytes_in (kept ++ packet ∷ []) ≡ bytes_in kept + packet.size
bytes-push kept packet = sum_by_push (λ packet. packet.size) kept packet

-- a packet that isn't past is of a later publication
module _ (tables : Tables) (kept : List Packet) (packet : Packet) where
  new_after : is_past (record { tables = tables; kept = kept }) packet ≡ false → tables.publication < packet.head.publication
  new_after new =
      let parts = or_parts (nat_le packet.head.publication tables.publication) (list_any (is_like packet) kept) new in
      later (parts.0)
    where
      later : nat_le packet.head.publication tables.publication ≡ false → tables.publication < packet.head.publication
      later e = grind (arith, nat_tests)

  few_more : is_mirror_full (record { tables = tables; kept = kept }) packet ≡ false → length kept < 64
  few_more room = by (or_parts (nat_le 64 (length kept)) (nat_lt 536_870_912 (bytes_in kept + packet.size)) room).0
    where
      by : nat_le 64 (length kept) ≡ false → length kept < 64
      by e = grind (arith, nat_tests)

  small_more : is_mirror_full (record { tables = tables; kept = kept }) packet ≡ false → bytes_in kept + packet.size ≤ 536_870_912
  small_more room = by (or_parts (nat_le 64 (length kept)) (nat_lt 536_870_912 (bytes_in kept + packet.size)) room).1
    where
      by : nat_lt 536_870_912 (bytes_in kept + packet.size) ≡ false → bytes_in kept + packet.size ≤ 536_870_912
      by e = grind (arith, nat_tests)

  -- if there is room for it, it is kept, and the mirror moves as far as it can
  pub keeps_on : (next : Tables) (left : List Packet) → IsMirror tables kept → is_past (record { tables = tables; kept = kept }) packet ≡ false
      → is_mirror_full (record { tables = tables; kept = kept }) packet ≡ false → SettlesTo tables (kept ++ packet ∷ []) next
      → left ≡ filter (is_ahead next.publication) (kept ++ packet ∷ [])
      → TakesPacket (record { tables = tables; kept = kept }) packet (record { tables = next; kept = left })
  keeps_on next left is new room settles left_is =
      let are : AreKeptPackets tables.publication kept = is.kept_are in
      let same : mirror_of tables (kept ++ packet ∷ []) ≡ record { tables = tables; kept = kept ++ packet ∷ [] } =
      ap (λ l. record { tables = tables; kept = l }) (all_after tables.publication (kept ++ packet ∷ [])
      (All-push (λ packet. tables.publication < packet.head.publication) kept packet are.after (new_after new))) in
      let after : mirror_of next (kept ++ packet ∷ []) ≡ record { tables = next; kept = left } =
      ap (λ l. record { tables = next; kept = l }) (sym left_is) in
      record {
        past = λ past. absurd (false≢true (sym new ∙ past));
        room = λ _. room;
        settles = λ _. subst (λ state. Settles state (record { tables = next; kept = left })) same
            (subst (λ state. Settles (mirror_of tables (kept ++ packet ∷ [])) state) after settles);
      }

  -- and the result is a mirror
  pub stays_mirror : (next : Tables) (left : List Packet) → IsMirror tables kept → IsSoundPacket packet
      → is_mirror_full (record { tables = tables; kept = kept }) packet ≡ false → AreTables next
      → left ≡ filter (is_ahead next.publication) (kept ++ packet ∷ []) → IsMirror next left
  stays_mirror next left is sound room next_are left_is =
      let are : AreKeptPackets tables.publication kept = is.kept_are in
      let few : length kept < 64 = few_more room in
      let small : bytes_in kept + packet.size ≤ 536_870_912 = small_more room in
      let longer : length (kept ++ packet ∷ []) ≡ length kept + 1 = length_push kept packet in
      let larger : bytes_in (kept ++ packet ∷ []) ≡ bytes_in kept + packet.size = bytes-push kept packet in
      let fewer : length (filter (is_ahead next.publication) (kept ++ packet ∷ [])) ≤ length (kept ++ packet ∷ []) =
      left_few (is_ahead next.publication) (kept ++ packet ∷ []) in
      let smaller : bytes_in (filter (is_ahead next.publication) (kept ++ packet ∷ [])) ≤ bytes_in (kept ++ packet ∷ []) =
      left_small (is_ahead next.publication) (kept ++ packet ∷ []) in
      record {
        tables_are = next_are;
        kept_are = subst (AreKeptPackets next.publication) (sym left_is) (record {
          sound = left_good IsSoundPacket (is_ahead next.publication) (kept ++ packet ∷ []) (All-push IsSoundPacket kept packet are.sound sound);
          after = left_after next.publication (kept ++ packet ∷ []);
          few = omega arith;
          small = omega arith;
        });
      }

-- ---- the empty mirror

pub empty_is : (tables : Tables) (kept : List Packet) → tables ≡ empty_mirror.tables → kept ≡ [] → IsMirror tables kept
empty_is tables kept tables_are kept_are =
    subst (λ t. IsMirror t kept) (sym tables_are) (subst (IsMirror empty_mirror.tables) (sym kept_are) (record {
      tables_are = λ sheet. held sheet;
      kept_are = record {
        sound = All-nil IsSoundPacket;
        after = All-nil (λ packet. 0 < packet.head.publication);
        few = omega arith;
        small = omega arith;
      };
    }))
  where
    held : (sheet : Sheet) → IsCopyOf 0 sheet (sheet_copy empty_mirror.tables sheet)
    held Sheet.Lei = record { head_is = refl; rows_are = record { each = All-nil (IsRowOfSheet Sheet.Lei); rising = rising-nil } }
    held Sheet.Rr = record { head_is = refl; rows_are = record { each = All-nil (IsRowOfSheet Sheet.Rr); rising = rising-nil } }
    held Sheet.Repex = record { head_is = refl; rows_are = record { each = All-nil (IsRowOfSheet Sheet.Repex); rising = rising-nil } }
