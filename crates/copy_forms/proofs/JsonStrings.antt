-- A string is read back from its escapes, and from these alone.
use Rattle.std.proofs.Common.{◌≡◌, ℕ, zero, suc, ◌+◌, ◌-◌, ◌<◌, ◌≤◌, Bool, true, false, cond, ◌==◌, ◌&&◌, List, [], ◌∷◌, ◌++◌, Option, Some, None, option_map, option_and_then, unwrap_or, inl, inr, ◌⊎◌, refl, sym, ap, ◌∙◌, subst, arith, append_assoc, length, take, drop, get_or, map}
use Rattle.std.proofs.lemmas.Bool.{true≢false, cases_eq, cases_lt, ne_eqb, le-ltb, lt-ltb, eqb-true}
use Rattle.std.proofs.lemmas.List.{append-nil, take-append-drop, get_or-map, length-map, length-drop, length-append, drop_more}
use Rattle.std.specs.Borrow.{Bor}
use Rattle.std.specs.Cmp.Lexicographic.{pointwise}
use borrow.Author.Tests.{ltb-true}
use Rattle.std.specs.Prelude.{nat_lt}
use Rattle.std.proofs.lemmas.Slice.Eq.{bytes_eq-Decides}
use Rattle.std.proofs.Math.Seq.{take-append_seam}
use lib.Utf8.{encode}
use Rattle.json.specs.Print.{escape, escape_byte}
use Rattle.json.specs.Text.{content, plain, prepend, code_unit, short_escape}
use Rattle.json.proofs.Printed.Strings.{content-escape, escape_byte_plain}
use Rattle.copy_forms.specs.JsonReading.{after_front, must_escape, escapes, is_escaped, read_escape, string_from, HasNoEscape}

-- ---- prefixes

pub after_front-again : (front rest : List ℕ) → after_front front (front ++ rest) ≡ Some rest
after_front-again [] rest = refl
after_front-again (x ∷ front) rest = rw (same x) (after_front-again front rest)
  where
    same : (x : ℕ) → (x == x) ≡ true
    same x = grind arith

pub after_front-taken : (front bytes rest : List ℕ) → after_front front bytes ≡ Some rest → bytes ≡ front ++ rest
after_front-taken [] bytes rest is = cc
after_front-taken (x ∷ front) [] rest is = cc
after_front-taken (x ∷ front) (y ∷ bytes) rest is = go (y == x) refl is (after_front-taken front bytes rest)
  where
    go : (b : Bool) → (y == x) ≡ b → cond b (after_front front bytes) None ≡ Some rest → (after_front front bytes ≡ Some rest → bytes ≡ front ++ rest)
        → (y ∷ bytes) ≡ (x ∷ front) ++ rest
    go true test found behind =
        let same : y ≡ x = eqb-true y x test in
        let others : bytes ≡ front ++ rest = behind found in
        cc
    go false test found behind = cc

pub after_front-shift : (common front rest : List ℕ) → after_front (common ++ front) (common ++ rest) ≡ after_front front rest
after_front-shift [] front rest = refl
after_front-shift (x ∷ common) front rest = rw (same x) (after_front-shift common front rest)
  where
    same : (x : ℕ) → (x == x) ≡ true
    same x = grind arith

-- the comparison with a prefix says whether the bytes start with it
pub after_front-found : (front bytes rest : List ℕ) → pointwise ◌==◌ (take (length front) bytes) front ≡ true → rest ≡ drop (length front) bytes
    → after_front front bytes ≡ Some rest
after_front-found front bytes rest test is =
    let same : take (length front) bytes ≡ front = (bytes_eq-Decides (take (length front) bytes) front).0 test in
    let whole : bytes ≡ front ++ rest = sym (take-append-drop (length front) bytes) ∙ ap (λ t. t ++ drop (length front) bytes) same ∙ ap (λ t. front ++ t) (sym is) in
    ap (after_front front) whole ∙ after_front-again front rest

pub after_front-missed : (front bytes : List ℕ) → pointwise ◌==◌ (take (length front) bytes) front ≡ false → after_front front bytes ≡ None
after_front-missed front bytes test = go (after_front front bytes) refl
  where
    go : (found : Option (List ℕ)) → after_front front bytes ≡ found → found ≡ None
    go None is = refl
    go (Some rest) is =
        let whole : bytes ≡ front ++ rest = after_front-taken front bytes rest is in
        let same : take (length front) bytes ≡ front = ap (take (length front)) whole ∙ take-append_seam front rest in
        let passes : pointwise ◌==◌ (take (length front) bytes) front ≡ true = (bytes_eq-Decides (take (length front) bytes) front).1 same in
        absurd (true≢false (sym passes ∙ test))

-- ---- one byte

-- reading the escape of a byte, whatever bytes follow it
record Passes (byte : ℕ) : Type 0 where
  read : (rest : List ℕ) → content plain (escape_byte byte ++ rest) ≡ prepend (byte ∷ []) (content plain rest)

-- each byte below n has the property; the greatest comes first
abbrev DownFrom : ℕ → Type 0
DownFrom zero = Unit {0}
DownFrom (suc n) = ((rest : List ℕ) → content plain (escape_byte n ++ rest) ≡ prepend (n ∷ []) (content plain rest)) × DownFrom n

at_each : (n byte : ℕ) → DownFrom n → byte < n → Passes byte
at_each zero byte each below = absurd (omega arith)
at_each (suc n) byte each below = go (cases_eq byte n) (at_each n byte each.1)
  where
    go : (byte ≡ n) ⊎ (byte ≡ n → ⊥) → (byte < n → Passes byte) → Passes byte
    go (inl same) lower = subst Passes (sym same) (record { read = each.0 })
    go (inr other) lower = lower (omega arith)

controls : DownFrom 32
unfolding escape_byte content code_unit short_escape encode
controls = (λ rest. refl, (λ rest. refl, (λ rest. refl, (λ rest. refl, (λ rest. refl, (λ rest. refl, (λ rest. refl, (λ rest. refl, (λ rest. refl, (λ rest. refl, (λ rest. refl, (λ rest. refl, (λ rest. refl, (λ rest. refl, (λ rest. refl, (λ rest. refl, (λ rest. refl, (λ rest. refl, (λ rest. refl, (λ rest. refl, (λ rest. refl, (λ rest. refl, (λ rest. refl, (λ rest. refl, (λ rest. refl, (λ rest. refl, (λ rest. refl, (λ rest. refl, (λ rest. refl, (λ rest. refl, (λ rest. refl, (λ rest. refl, tt))))))))))))))))))))))))))))))))

quote_passes : Passes 34
unfolding escape_byte content short_escape
quote_passes = record { read = λ rest. refl }

backslash_passes : Passes 92
unfolding escape_byte content short_escape
backslash_passes = record { read = λ rest. refl }

plain_passes : (byte : ℕ) → (byte ≡ 34 → ⊥) → (byte ≡ 92 → ⊥) → 32 ≤ byte → Passes byte
unfolding content
plain_passes byte quote backslash above =
    let same = escape_byte_plain byte quote backslash above in
    record { read = λ rest. rw (same, ne_eqb byte 34 quote, ne_eqb byte 92 backslash, le-ltb byte 32 above) }

passes : (byte : ℕ) → Passes byte
passes byte = go (cases_eq byte 34) (cases_eq byte 92) (cases_lt byte 32)
  where
    go : (byte ≡ 34) ⊎ (byte ≡ 34 → ⊥) → (byte ≡ 92) ⊎ (byte ≡ 92 → ⊥) → (byte < 32) ⊎ (32 ≤ byte) → Passes byte
    go (inl quote) b c = subst Passes (sym quote) quote_passes
    go (inr a) (inl backslash) c = subst Passes (sym backslash) backslash_passes
    go (inr a) (inr b) (inl control) = at_each 32 byte controls control
    go (inr a) (inr b) (inr above) = plain_passes byte a b above

-- ---- strings

pub string-again : (text rest : List ℕ) → string_from (escape text ++ 34 ∷ rest) ≡ Some (text, rest)
unfolding string_from
string-again text rest =
    let whole : (escape text ++ 34 ∷ []) ++ rest ≡ escape text ++ 34 ∷ rest = append_assoc (escape text) (34 ∷ []) rest in
    let behind : after_front (escape text ++ 34 ∷ []) (escape text ++ 34 ∷ rest) ≡ Some rest = ap (after_front (escape text ++ 34 ∷ [])) (sym whole) ∙ after_front-again (escape text ++ 34 ∷ []) rest in
    ap (option_and_then (λ t. option_map (λ r. (t, r)) (after_front (escape t ++ 34 ∷ []) (escape text ++ 34 ∷ rest)))) (content-escape text rest)
    ∙ ap (option_map (λ r. (text, r))) behind

pub string-taken : (bytes text rest : List ℕ) → string_from bytes ≡ Some (text, rest) → bytes ≡ escape text ++ 34 ∷ rest
unfolding string_from
string-taken bytes text rest is = go (content plain bytes) is
  where
    behind : (found : List ℕ) (left : Option (List ℕ)) → after_front (escape found ++ 34 ∷ []) bytes ≡ left → option_map {U = List ℕ × List ℕ} (λ r. (found, r)) left ≡ Some (text, rest) → bytes ≡ escape text ++ 34 ∷ rest
    behind found None front same = cc
    behind found (Some left) front same =
        let is_text : found ≡ text = ap (λ read. unwrap_or (option_map (λ p. p.0) read) found) same in
        let is_rest : left ≡ rest = ap (λ read. unwrap_or (option_map (λ p. p.1) read) left) same in
        let taken = after_front-taken (escape found ++ 34 ∷ []) bytes left front in
        taken ∙ append_assoc (escape found) (34 ∷ []) left ∙ ap (λ t. escape t ++ 34 ∷ left) is_text ∙ ap (λ r. escape text ++ 34 ∷ r) is_rest

    go : (found : Option (List ℕ)) → option_and_then {U = List ℕ × List ℕ} (λ t. option_map (λ r. (t, r)) (after_front (escape t ++ 34 ∷ []) bytes)) found ≡ Some (text, rest) → bytes ≡ escape text ++ 34 ∷ rest
    go None same = cc
    go (Some found) same = behind found (after_front (escape found ++ 34 ∷ []) bytes) refl same

-- what was read, preceded by a text
abbrev pub with_text : List ℕ → Option (List ℕ × List ℕ) → Option (List ℕ × List ℕ)
with_text text found = option_map (λ read. (text ++ read.0, read.1)) found

pub string-front : (byte : ℕ) (rest : List ℕ) → string_from (escape_byte byte ++ rest) ≡ with_text (byte ∷ []) (string_from rest)
unfolding string_from
string-front byte rest =
    ap (option_and_then (λ t. option_map (λ r. (t, r)) (after_front (escape t ++ 34 ∷ []) (escape_byte byte ++ rest)))) ((passes byte).read rest)
    ∙ go (content plain rest)
  where
    moved : (text : List ℕ) (left : Option (List ℕ)) → option_map (λ r. (byte ∷ text, r)) left ≡ with_text (byte ∷ []) (option_map (λ r. (text, r)) left)
    moved text None = refl
    moved text (Some left) = refl

    go : (found : Option (List ℕ)) → option_and_then (λ t. option_map (λ r. (t, r)) (after_front (escape t ++ 34 ∷ []) (escape_byte byte ++ rest))) (prepend (byte ∷ []) found)
        ≡ with_text (byte ∷ []) (option_and_then (λ t. option_map (λ r. (t, r)) (after_front (escape t ++ 34 ∷ []) rest)) found)
    go None = refl
    go (Some text) =
        ap (λ front. option_map (λ r. (byte ∷ text, r)) (after_front front (escape_byte byte ++ rest))) (append_assoc (escape_byte byte) (escape text) (34 ∷ []))
        ∙ ap (option_map (λ r. (byte ∷ text, r))) (after_front-shift (escape_byte byte) (escape text ++ 34 ∷ []) rest)
        ∙ moved text (after_front (escape text ++ 34 ∷ []) rest)

-- ---- the escapes

and_parts : (a b : Bool) → a && b ≡ true → (a ≡ true) × (b ≡ true)
and_parts true b is = (refl, is)
and_parts false b is = absurd (true≢false (sym is))

below : ℕ → (ℕ → Bool) → Bool
below zero test = true
below (suc n) test = test n && below n test

below-each : (n : ℕ) (test : ℕ → Bool) → below n test ≡ true → (k : ℕ) → k < n → test k ≡ true
unfolding below
below-each zero test all k less = absurd (omega arith)
below-each (suc n) test all k less = go (cases_eq k n) (below-each n test (and_parts (test n) (below n test) all).1 k)
  where
    go : (k ≡ n) ⊎ (k ≡ n → ⊥) → (k < n → test k ≡ true) → test k ≡ true
    go (inl same) lower = ap test same ∙ (and_parts (test n) (below n test) all).0
    go (inr other) lower = lower (omega arith)

-- each escape has at least one byte
all_long : below 34 (λ place. nat_lt 0 (length (escape_byte (get_or must_escape place 0)))) ≡ true
unfolding below escape_byte
all_long = refl

-- an escaped byte is in the list of them
record Place (byte : ℕ) : Type 0 where
  place : ℕ
  within : place < 34
  is : get_or must_escape place 0 ≡ byte

control_places : below 32 (λ byte. get_or must_escape (byte + 2) 0 == byte) ≡ true
unfolding below
control_places = refl

place_of : (byte : ℕ) → is_escaped byte ≡ true → Place byte
place_of byte is = go (cases_eq byte 34) (cases_eq byte 92) (cases_lt byte 32)
  where
    go : (byte ≡ 34) ⊎ (byte ≡ 34 → ⊥) → (byte ≡ 92) ⊎ (byte ≡ 92 → ⊥) → (byte < 32) ⊎ (32 ≤ byte) → Place byte
    go (inl quote) b c = record { place = 0; within = omega arith; is = sym quote }
    go (inr a) (inl backslash) c = record { place = 1; within = omega arith; is = sym backslash }
    go (inr a) (inr b) (inl control) =
        record { place = byte + 2; within = omega arith; is = eqb-true _ _ (below-each 32 _ control_places byte control) }
    go (inr a) (inr b) (inr above) = let none : is_escaped byte ≡ false = rw (ne_eqb byte 34 a, ne_eqb byte 92 b, le-ltb byte 32 above) in absurd (true≢false (sym is ∙ none))

pub escape_at : (place : ℕ) → place < 34 → get_or escapes place (0, []) ≡ (get_or must_escape place 0, escape_byte (get_or must_escape place 0))
unfolding escapes
escape_at place within = get_or-map (λ byte. (byte, escape_byte byte)) must_escape place 0 (0, []) within

pub no_escape : (bytes : List ℕ) → ((k : ℕ) → k < 34 → after_front (get_or escapes k (0, [])).1 bytes ≡ None) → HasNoEscape bytes
no_escape bytes missed =
    record {
      each = λ byte escapes_it.
          let at = place_of byte escapes_it in
          let entry = escape_at at.place at.within in
          ap (λ b. after_front (escape_byte b) bytes) (sym at.is) ∙ ap (λ e. after_front e.1 bytes) (sym entry) ∙ missed at.place at.within;
    }

length-escapes : length escapes ≡ 34
unfolding escapes
length-escapes = refl

-- the entries of a table that reads as this list
pub length-table : (table : List (ℕ × Bor (List ℕ))) → map read_escape table ≡ escapes → length table ≡ 34
length-table table is = sym (length-map table read_escape) ∙ ap length is ∙ length-escapes

pub entry-read : (table : List (ℕ × Bor (List ℕ))) (place : ℕ) (none : ℕ × Bor (List ℕ)) → map read_escape table ≡ escapes → place < length table
    → get_or escapes place (0, []) ≡ read_escape (get_or table place none)
entry-read table place none is within =
    ap (λ list. get_or list place (0, [])) (sym is) ∙ get_or-map read_escape table place none (0, []) within

pub entry-escape : (table : List (ℕ × Bor (List ℕ))) (place : ℕ) (none : ℕ × Bor (List ℕ)) → map read_escape table ≡ escapes → place < length table
    → (get_or table place none).1.now ≡ escape_byte (get_or table place none).0
entry-escape table place none is within =
    let long = length-table table is in
    let both = sym (entry-read table place none is within) ∙ escape_at place (omega arith) in
    ap (λ e. e.1) both ∙ sym (ap (λ e. escape_byte e.0) both)

-- ---- the iterations of the loop

pub with_text-none : (found : Option (List ℕ × List ℕ)) → with_text [] found ≡ found
with_text-none None = refl
with_text-none (Some read) = refl

pub with_text-append : (front text : List ℕ) (found : Option (List ℕ × List ℕ)) → with_text front (with_text text found) ≡ with_text (front ++ text) found
with_text-append front text None = refl
with_text-append front text (Some read) = ap (λ t. Some (t, read.1)) (sym (append_assoc front text read.0))

plain_byte : (byte : ℕ) → is_escaped byte ≡ false → escape_byte byte ≡ byte ∷ []
plain_byte byte is = go (cases_eq byte 34) (cases_eq byte 92) (cases_lt byte 32)
  where
    go : (byte ≡ 34) ⊎ (byte ≡ 34 → ⊥) → (byte ≡ 92) ⊎ (byte ≡ 92 → ⊥) → (byte < 32) ⊎ (32 ≤ byte) → escape_byte byte ≡ byte ∷ []
    go (inl quote) b c = let escaped_too : is_escaped byte ≡ true = ap is_escaped quote in absurd (true≢false (sym escaped_too ∙ is))
    go (inr a) (inl backslash) c = let escaped_too : is_escaped byte ≡ true = ap is_escaped backslash in absurd (true≢false (sym escaped_too ∙ is))
    go (inr a) (inr b) (inl control) = let escaped_too : is_escaped byte ≡ true = rw (ne_eqb byte 34 a, ne_eqb byte 92 b) (lt-ltb byte 32 control) in absurd (true≢false (sym escaped_too ∙ is))
    go (inr a) (inr b) (inr above) = escape_byte_plain byte a b above

string-run : (n : ℕ) (rest : List ℕ) → n ≤ length rest → ((k : ℕ) → k < n → is_escaped (get_or rest k 0) ≡ false) → string_from rest ≡ with_text (take n rest) (string_from (drop n rest))
string-run zero rest fits plain_each = sym (with_text-none (string_from rest))
string-run (suc n) [] fits plain_each = absurd (omega arith)
string-run (suc n) (x ∷ rest) fits plain_each =
    let is_plain = plain_byte x (plain_each 0 (omega arith)) in
    let others = string-run n rest (omega arith) (λ k less. plain_each (suc k) (omega arith)) in
    ap (λ front. string_from (front ++ rest)) (sym is_plain) ∙ string-front x rest ∙ ap (with_text (x ∷ [])) others
    ∙ with_text-append (x ∷ []) (take n rest) (string_from (drop n rest))

-- plain bytes are appended to the text
pub string-plain : (text front stop rest : List ℕ) (n : ℕ) (all : Option (List ℕ × List ℕ)) → with_text text (string_from rest) ≡ all → n ≤ length rest
    → ((k : ℕ) → k < n → is_escaped (get_or rest k 0) ≡ false) → front ≡ take n rest → stop ≡ drop n rest → with_text (text ++ front) (string_from stop) ≡ all
string-plain text front stop rest n all is fits each is_front behind =
    ap (λ l. with_text (text ++ l) (string_from stop)) is_front ∙ ap (λ l. with_text (text ++ take n rest) (string_from l)) behind
    ∙ sym (with_text-append text (take n rest) (string_from (drop n rest))) ∙ ap (with_text text) (sym (string-run n rest fits each)) ∙ is

-- the closing quote ends the text
pub string-end : (text stop behind : List ℕ) (all : Option (List ℕ × List ℕ)) → with_text text (string_from stop) ≡ all → after_front (34 ∷ []) stop ≡ Some behind → all ≡ Some (text, behind)
string-end text stop behind all is quote =
    sym is ∙ ap (λ l. with_text text (string_from l)) (after_front-taken (34 ∷ []) stop behind quote) ∙ ap (with_text text) (string-again [] behind)
    ∙ ap (λ t. Some (t, behind)) (append-nil text)

-- an escape gives its byte
pub string-more : (text stop behind : List ℕ) (byte : ℕ) (all : Option (List ℕ × List ℕ)) → with_text text (string_from stop) ≡ all → stop ≡ escape_byte byte ++ behind
    → with_text (text ++ byte ∷ []) (string_from behind) ≡ all
string-more text stop behind byte all is front =
    sym (with_text-append text (byte ∷ []) (string_from behind)) ∙ ap (with_text text) (sym (string-front byte behind)) ∙ ap (λ l. with_text text (string_from l)) (sym front) ∙ is

escape-long : (byte : ℕ) → 0 < length (escape_byte byte)
escape-long byte = go (is_escaped byte) refl
  where
    go : (b : Bool) → is_escaped byte ≡ b → 0 < length (escape_byte byte)
    go true is = let at = place_of byte is in subst (λ b. 0 < length (escape_byte b)) at.is (long at.place at.within)
      where
        long : (place : ℕ) → place < 34 → 0 < length (escape_byte (get_or must_escape place 0))
        long place within = ltb-true 0 _ (below-each 34 (λ k. nat_lt 0 (length (escape_byte (get_or must_escape k 0)))) all_long place within)
    go false is = subst (λ l. 0 < length l) (sym (plain_byte byte is)) (omega arith)

-- and consumes bytes
pub string-shorter : (stop behind rest : List ℕ) (byte n : ℕ) → stop ≡ drop n rest → stop ≡ escape_byte byte ++ behind → length behind < length rest
string-shorter stop behind rest byte n is front =
    let long = escape-long byte in
    let left : length stop ≡ length rest - n = ap length is ∙ length-drop n rest in
    let parts : length stop ≡ length (escape_byte byte) + length behind = ap length front ∙ length-append (escape_byte byte) behind in
    omega arith

-- if neither comes next, no string was printed here
pub string-none : (text stop rest : List ℕ) (n : ℕ) (all : Option (List ℕ × List ℕ)) → with_text text (string_from stop) ≡ all → n ≤ length rest → stop ≡ drop n rest
    → (n < length rest → is_escaped (get_or rest n 0) ≡ true) → None ≡ after_front (34 ∷ []) stop → HasNoEscape stop → all ≡ None
string-none text stop rest n all is fits behind escaped_next quote none = sym is ∙ ap (with_text text) (go (string_from stop) refl)
  where
    longer : (x : ℕ) (xs : List ℕ) → stop ≡ x ∷ xs → (n < length rest) × (get_or rest n 0 ≡ x)
    longer x xs begins =
        let left : length stop ≡ length rest - n = ap length behind ∙ length-drop n rest in
        let some : length stop ≡ suc (length xs) = ap length begins in
        let less : n < length rest = omega arith in
        let at : drop n rest ≡ get_or rest n 0 ∷ drop (n + 1) rest = drop_more rest n 0 less in
        let same : x ∷ xs ≡ get_or rest n 0 ∷ drop (n + 1) rest = sym begins ∙ behind ∙ at in
        (less, sym (ap (λ l. get_or l 0 0) same))

    front : (x : ℕ) (b : Bool) (others : List ℕ) → is_escaped x ≡ b → stop ≡ escape_byte x ++ others → ⊥
    front x true others escapes_it begins =
        let gone : None ≡ Some others = sym (none.each x escapes_it) ∙ ap (after_front (escape_byte x)) begins ∙ after_front-again (escape_byte x) others in
        cc
    front x false others plain_it begins =
        let head = longer x others (begins ∙ ap (λ l. l ++ others) (plain_byte x plain_it)) in
        absurd (true≢false (sym (escaped_next head.0) ∙ ap is_escaped head.1 ∙ plain_it))

    whole : (found left : List ℕ) → stop ≡ escape found ++ 34 ∷ left → ⊥
    whole [] left begins = let gone : None ≡ Some left = quote ∙ ap (after_front (34 ∷ [])) begins in cc
    whole (x ∷ found) left begins = front x (is_escaped x) (escape found ++ 34 ∷ left) refl (begins ∙ append_assoc (escape_byte x) (escape found) (34 ∷ left))

    go : (found : Option (List ℕ × List ℕ)) → string_from stop ≡ found → found ≡ None
    go None same = refl
    go (Some read) same = absurd (whole read.0 read.1 (string-taken stop read.0 read.1 same))
