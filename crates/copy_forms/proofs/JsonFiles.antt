-- A file in JSON is read back from its text, and only from this.
use Rattle.std.proofs.Common.{◌≡◌, ℕ, ◌<◌, ◌^◌, Bool, true, false, cond, ◌&&◌, List, [], ◌∷◌, ◌++◌, Option, Some, None, Result, Ok, Err, option_map, option_and_then, unwrap_or, refl, sym, ap, ◌∙◌, subst, arith, append_assoc, length, take, drop, codes, ℤ}
use Rattle.std.specs.Prelude.{decimal, nat_le}
use Rattle.std.specs.List.{prefix_len}
use Rattle.std.specs.Char.{digit_value, is_ascii_digit}
use Rattle.std.specs.Str.{bytes_eq, is_utf8}
use Rattle.std.specs.Str.Parse.{AllDigits}
use Rattle.std.proofs.lemmas.Bool.{true≢false, le-leb, leb-true}
use Rattle.std.proofs.lemmas.Fmt.{decimal_is_IsNumeral}
use Rattle.std.proofs.lemmas.Int.{ints}
use Rattle.std.proofs.lemmas.List.{take-append-drop}
use Rattle.std.proofs.lemmas.Option.{none-some}
use Rattle.std.proofs.lemmas.Str.{IsUtf8-from_ascii}
use Rattle.std.proofs.lemmas.Str.Parse.{digit_from_value}
use Rattle.std.proofs.lemmas.Slice.Eq.{bytes_eq-Decides}
use Rattle.std.proofs.Math.Seq.{drop-append_seam, take-append_seam}
use Rattle.jiff.specs.Words.{Error, parse_timestamp}
use Rattle.json.specs.Print.{escape, quoted}
use Rattle.lei_code.specs.Texts.{Text}
use Rattle.lei_shapes.specs.Clock.{moment_text}
use Rattle.lei_shapes.specs.Moment.{IsMoment, is_moment, moment_of_instant, read_moment, whole_seconds}
use Rattle.lei_shapes.proofs.MomentLemmas.{IsAscii-moment_text, read_moment-text}
use Rattle.copy_csv.specs.Rows.{IsPublicationNumber}
use Rattle.copy_forms.specs.JsonTexts.{before_records}
use Rattle.copy_forms.specs.JsonReading.{after_front, count_from, date_from, date_start, is_publication_number, moment_from, number_after_front, number_from, number_start, printed_moment, publication_after_front, publication_number_in, records_start, string_from}
use Rattle.copy_forms.proofs.JsonStrings.{after_front-again, after_front-taken, string-again, string-taken}
use Rattle.copy_forms.proofs.JsonHeads.{moment-some, number-is, number-taken}

-- ---- moments

-- the date of a file, followed by a text
abbrev before_rest : Text → List ℕ → List ℕ
before_rest text rest = 123 ∷ (quoted (codes "contentDate") ++ 58 ∷ (quoted text ++ rest))

date-shape : (text rest : List ℕ) → before_rest text rest ≡ date_start ++ (escape text ++ 34 ∷ rest)
date-shape text rest =
    ap (λ l. 123 ∷ (quoted (codes "contentDate") ++ 58 ∷ 34 ∷ l)) (append_assoc (escape text) (34 ∷ []) rest)
    ∙ ap (λ l. 123 ∷ l) (sym (append_assoc (quoted (codes "contentDate")) (58 ∷ 34 ∷ []) (escape text ++ 34 ∷ rest)))

moment-printed : (m : ℤ) → IsMoment m → printed_moment (moment_text m) ≡ Some m
moment-printed m is =
    moment-some (moment_text m) (moment_text m) m (IsUtf8-from_ascii (moment_text m) (IsAscii-moment_text m is)) (sym (read_moment-text m is)) refl
    ((bytes_eq-Decides (moment_text m) (moment_text m)).1 refl)

moment-again : (m : ℤ) (rest : List ℕ) → IsMoment m → moment_from (escape (moment_text m) ++ 34 ∷ rest) ≡ Some (m, rest)
unfolding moment_from
moment-again m rest is =
    ap (option_and_then {U = ℤ × List ℕ} (λ read. option_map (λ moment. (moment, read.1)) (printed_moment read.0))) (string-again (moment_text m) rest)
    ∙ ap (option_map {U = ℤ × List ℕ} (λ moment. (moment, rest))) (moment-printed m is)

pub date-again : (m : ℤ) (rest : List ℕ) → IsMoment m → date_from (before_rest (moment_text m) rest) ≡ Some (m, rest)
unfolding date_from
date-again m rest is =
    ap (λ l. option_and_then moment_from (after_front date_start l)) (date-shape (moment_text m) rest)
    ∙ ap (option_and_then moment_from) (after_front-again date_start (escape (moment_text m) ++ 34 ∷ rest)) ∙ moment-again m rest is

inside : (s : ℤ) → is_moment s ≡ true → IsMoment s
inside s test = grind (arith, ints)

read-is_moment : (text : Text) (m : ℤ) → read_moment text ≡ Some m → IsMoment m
unfolding read_moment
read-is_moment text m is = go (parse_timestamp text) is
  where
    go : (reading : Result ℤ Error) → moment_of_instant reading ≡ Some m → IsMoment m
    go (Err e) found = absurd (none-some m found)
    go (Ok nanos) found = test (is_moment (whole_seconds nanos)) refl found
      where
        test : (b : Bool) → is_moment (whole_seconds nanos) ≡ b → cond b (Some (whole_seconds nanos)) None ≡ Some m → IsMoment m
        test true within same = subst IsMoment (ap (λ o. unwrap_or o m) same) (inside (whole_seconds nanos) within)
        test false within same = absurd (none-some m same)

record Printed (text : Text) (m : ℤ) : Type 0 where
  is : text ≡ moment_text m
  moment : IsMoment m

printed-taken : (text : Text) (m : ℤ) → printed_moment text ≡ Some m → Printed text m
printed-taken text m is = go (is_utf8 text) is
  where
    inner : (found : Option ℤ) → read_moment text ≡ found → option_and_then (λ moment. cond (bytes_eq (moment_text moment) text) (Some moment) None) found ≡ Some m → Printed text m
    inner None reads same = absurd (none-some m same)
    inner (Some moment) reads same = test (bytes_eq (moment_text moment) text) refl same
      where
        test : (b : Bool) → bytes_eq (moment_text moment) text ≡ b → cond b (Some moment) None ≡ Some m → Printed text m
        test true shows found =
            let this : moment ≡ m = ap (λ o. unwrap_or o m) found in
            record { is = sym ((bytes_eq-Decides (moment_text moment) text).0 shows) ∙ ap moment_text this; moment = read-is_moment text m (reads ∙ ap Some this) }
        test false shows found = absurd (none-some m found)

    go : (b : Bool) → cond b (option_and_then (λ moment. cond (bytes_eq (moment_text moment) text) (Some moment) None) (read_moment text)) None ≡ Some m → Printed text m
    go true found = inner (read_moment text) refl found
    go false found = absurd (none-some m found)

pub record DateTaken (bytes : List ℕ) (m : ℤ) (rest : List ℕ) : Type 0 where
  pub is : bytes ≡ before_rest (moment_text m) rest
  pub moment : IsMoment m

moment-taken : (bytes : List ℕ) (m : ℤ) (rest : List ℕ) → moment_from bytes ≡ Some (m, rest) → (bytes ≡ escape (moment_text m) ++ 34 ∷ rest) × IsMoment m
unfolding moment_from
moment-taken bytes m rest is = go (string_from bytes) refl is
  where
    inner : (text left : List ℕ) (found : Option ℤ) → string_from bytes ≡ Some (text, left) → printed_moment text ≡ found
        → option_map {U = ℤ × List ℕ} (λ moment. (moment, left)) found ≡ Some (m, rest) → (bytes ≡ escape (moment_text m) ++ 34 ∷ rest) × IsMoment m
    inner text left None string printed same = absurd (none-some (m, rest) same)
    inner text left (Some moment) string printed same =
        let this : moment ≡ m = ap (λ o. unwrap_or (option_map (λ p. p.0) o) m) same in
        let behind : left ≡ rest = ap (λ o. unwrap_or (option_map (λ p. p.1) o) rest) same in
        let facts = printed-taken text m (printed ∙ ap Some this) in
        (string-taken bytes text left string ∙ ap (λ t. escape t ++ 34 ∷ left) facts.is ∙ ap (λ r. escape (moment_text m) ++ 34 ∷ r) behind, facts.moment)

    go : (found : Option (Text × List ℕ)) → string_from bytes ≡ found
        → option_and_then {U = ℤ × List ℕ} (λ read. option_map (λ moment. (moment, read.1)) (printed_moment read.0)) found ≡ Some (m, rest)
        → (bytes ≡ escape (moment_text m) ++ 34 ∷ rest) × IsMoment m
    go None string same = absurd (none-some (m, rest) same)
    go (Some read) string same = inner read.0 read.1 (printed_moment read.0) string refl same

pub date-taken : (bytes : List ℕ) (m : ℤ) (rest : List ℕ) → date_from bytes ≡ Some (m, rest) → DateTaken bytes m rest
unfolding date_from
date-taken bytes m rest is = go (after_front date_start bytes) refl is
  where
    go : (found : Option (List ℕ)) → after_front date_start bytes ≡ found → option_and_then moment_from found ≡ Some (m, rest) → DateTaken bytes m rest
    go None front same = absurd (none-some (m, rest) same)
    go (Some behind) front same =
        let taken = moment-taken behind m rest same in
        record { is = after_front-taken date_start bytes behind front ∙ ap (λ l. date_start ++ l) taken.0 ∙ sym (date-shape (moment_text m) rest); moment = taken.1 }

-- ---- numbers

digit : (c : ℕ) → digit_value c < 10 → is_ascii_digit c ≡ true
digit c low = let range = digit_from_value c low in rw (le-leb 48 c range.0) (le-leb c 57 range.1)

digits-stop : (digits : List ℕ) (c : ℕ) (rest : List ℕ) → AllDigits 10 digits → is_ascii_digit c ≡ false → prefix_len is_ascii_digit (digits ++ c ∷ rest) ≡ length digits
digits-stop [] c rest all stop = rw stop
digits-stop (d ∷ digits) c rest all stop = rw (digit d all.0) (omega (arith, digits-stop digits c rest all.1 stop))

-- a comma follows the digits of a number
pub number-again : (n : ℕ) (rest : List ℕ) → n < 2 ^ 64 → number_from (decimal n ++ 44 ∷ rest) ≡ Some (n, 44 ∷ rest)
unfolding number_from
number-again n rest fits =
    let stop : prefix_len is_ascii_digit (decimal n ++ 44 ∷ rest) ≡ length (decimal n) = digits-stop (decimal n) 44 rest (decimal_is_IsNumeral n fits).0.1 refl in
    let all = decimal n ++ 44 ∷ rest in
    ap (λ k. option_map {U = ℕ × List ℕ} (λ number. (number, drop k all)) (publication_number_in (take k all))) stop
    ∙ ap (λ d. option_map {U = ℕ × List ℕ} (λ number. (number, drop (length (decimal n)) all)) (publication_number_in d)) (take-append_seam (decimal n) (44 ∷ rest))
    ∙ ap (λ r. option_map {U = ℕ × List ℕ} (λ number. (number, r)) (publication_number_in (decimal n))) (drop-append_seam (decimal n) (44 ∷ rest))
    ∙ ap (option_map {U = ℕ × List ℕ} (λ number. (number, 44 ∷ rest))) (number-is (decimal n) n fits refl)

pub record NumberRead (bytes : List ℕ) (n : ℕ) (rest : List ℕ) : Type 0 where
  pub is : bytes ≡ decimal n ++ rest
  pub fits : n < 2 ^ 64

pub number_from-taken : (bytes : List ℕ) (n : ℕ) (rest : List ℕ) → number_from bytes ≡ Some (n, rest) → NumberRead bytes n rest
unfolding number_from
number_from-taken bytes n rest is = go (publication_number_in (take k bytes)) refl is
  where
    k : ℕ
    k = prefix_len is_ascii_digit bytes

    go : (found : Option ℕ) → publication_number_in (take (prefix_len is_ascii_digit bytes) bytes) ≡ found
        → option_map {U = ℕ × List ℕ} (λ number. (number, drop (prefix_len is_ascii_digit bytes) bytes)) found ≡ Some (n, rest) → NumberRead bytes n rest
    go None reads same = absurd (none-some (n, rest) same)
    go (Some number) reads same =
        let count = prefix_len is_ascii_digit bytes in
        let this : number ≡ n = ap (λ o. unwrap_or (option_map (λ p. p.0) o) n) same in
        let behind : drop count bytes ≡ rest = ap (λ o. unwrap_or (option_map (λ p. p.1) o) rest) same in
        let taken = number-taken (take count bytes) n (reads ∙ ap Some this) in
        record { is = sym (take-append-drop count bytes) ∙ ap (λ d. d ++ drop count bytes) taken.is ∙ ap (λ r. decimal n ++ r) behind; fits = taken.fits }

-- ---- members that are numbers

number-shape : (name : Text) (n : ℕ) (rest : List ℕ) → 44 ∷ (quoted name ++ 58 ∷ (decimal n ++ rest)) ≡ number_start name ++ (decimal n ++ rest)
number-shape name n rest = ap (λ l. 44 ∷ l) (sym (append_assoc (quoted name) (58 ∷ []) (decimal n ++ rest)))

pub behind-again : (name : Text) (n : ℕ) (rest : List ℕ) → n < 2 ^ 64 → number_after_front (number_start name) (44 ∷ (quoted name ++ 58 ∷ (decimal n ++ 44 ∷ rest))) ≡ Some (n, 44 ∷ rest)
behind-again name n rest fits =
    ap (λ l. option_and_then number_from (after_front (number_start name) l)) (number-shape name n (44 ∷ rest))
    ∙ ap (option_and_then number_from) (after_front-again (number_start name) (decimal n ++ 44 ∷ rest)) ∙ number-again n rest fits

pub record MemberTaken (name : Text) (bytes : List ℕ) (n : ℕ) (rest : List ℕ) : Type 0 where
  pub is : bytes ≡ 44 ∷ (quoted name ++ 58 ∷ (decimal n ++ rest))
  pub fits : n < 2 ^ 64

pub behind-taken : (name : Text) (bytes : List ℕ) (n : ℕ) (rest : List ℕ) → number_after_front (number_start name) bytes ≡ Some (n, rest) → MemberTaken name bytes n rest
behind-taken name bytes n rest is = go (after_front (number_start name) bytes) refl is
  where
    go : (found : Option (List ℕ)) → after_front (number_start name) bytes ≡ found → option_and_then number_from found ≡ Some (n, rest) → MemberTaken name bytes n rest
    go None front same = absurd (none-some (n, rest) same)
    go (Some digits) front same =
        let taken = number_from-taken digits n rest same in
        record { is = after_front-taken (number_start name) bytes digits front ∙ ap (λ d. number_start name ++ d) taken.is ∙ sym (number-shape name n rest); fits = taken.fits }

parts : (a b : Bool) → a && b ≡ true → (a ≡ true) × (b ≡ true)
parts true b is = (refl, is)
parts false b is = absurd (true≢false (sym is))

publication : (n : ℕ) → IsPublicationNumber n → is_publication_number n ≡ true
publication n is = rw (le-leb 1 n is.0) (le-leb n 1_000_000 is.1)

pub publication-again : (name : Text) (n : ℕ) (rest : List ℕ) → IsPublicationNumber n → publication_after_front (number_start name) (44 ∷ (quoted name ++ 58 ∷ (decimal n ++ 44 ∷ rest))) ≡ Some (n, 44 ∷ rest)
unfolding publication_after_front
publication-again name n rest is =
    ap (option_and_then {U = ℕ × List ℕ} (λ read. cond (is_publication_number read.0) (Some read) None)) (behind-again name n rest (omega arith))
    ∙ ap (λ b. cond b (Some (n, 44 ∷ rest)) None) (publication n is)

pub record PublicationTaken (name : Text) (bytes : List ℕ) (n : ℕ) (rest : List ℕ) : Type 0 where
  pub is : bytes ≡ 44 ∷ (quoted name ++ 58 ∷ (decimal n ++ rest))
  pub number : IsPublicationNumber n

pub publication-taken : (name : Text) (bytes : List ℕ) (n : ℕ) (rest : List ℕ) → publication_after_front (number_start name) bytes ≡ Some (n, rest) → PublicationTaken name bytes n rest
unfolding publication_after_front
publication-taken name bytes n rest is = go (number_after_front (number_start name) bytes) refl is
  where
    inner : (read : ℕ × List ℕ) (b : Bool) → number_after_front (number_start name) bytes ≡ Some read → is_publication_number read.0 ≡ b → cond b (Some read) None ≡ Some (n, rest) → PublicationTaken name bytes n rest
    inner read true behind test same =
        let this : read.0 ≡ n = ap (λ o. unwrap_or (option_map (λ p. p.0) o) n) same in
        let both = parts (nat_le 1 n) (nat_le n 1_000_000) (ap is_publication_number (sym this) ∙ test) in
        record { is = (behind-taken name bytes n rest (behind ∙ same)).is; number = (leb-true 1 n both.0, leb-true n 1_000_000 both.1) }
    inner read false behind test same = absurd (none-some (n, rest) same)

    go : (found : Option (ℕ × List ℕ)) → number_after_front (number_start name) bytes ≡ found
        → option_and_then {U = ℕ × List ℕ} (λ read. cond (is_publication_number read.0) (Some read) None) found ≡ Some (n, rest) → PublicationTaken name bytes n rest
    go None behind same = absurd (none-some (n, rest) same)
    go (Some read) behind same = inner read (is_publication_number read.0) behind refl same

records-shape : (rest : List ℕ) → 44 ∷ (quoted (codes "records") ++ 58 ∷ 91 ∷ rest) ≡ records_start ++ rest
records-shape rest = ap (λ l. 44 ∷ l) (sym (append_assoc (quoted (codes "records")) (58 ∷ 91 ∷ []) rest))

pub count-again : (n : ℕ) (rest : List ℕ) → n < 2 ^ 64 → count_from (before_records n rest) ≡ Some (n, rest)
unfolding count_from
count-again n rest fits =
    ap (option_and_then {U = ℕ × List ℕ} (λ read. option_map (λ r. (read.0, r)) (after_front records_start read.1))) (behind-again (codes "recordCount") n (quoted (codes "records") ++ 58 ∷ 91 ∷ rest) fits)
    ∙ ap (λ l. option_map {U = ℕ × List ℕ} (λ r. (n, r)) (after_front records_start l)) (records-shape rest) ∙ ap (option_map {U = ℕ × List ℕ} (λ r. (n, r))) (after_front-again records_start rest)

pub record CountTaken (bytes : List ℕ) (n : ℕ) (rest : List ℕ) : Type 0 where
  pub is : bytes ≡ before_records n rest
  pub fits : n < 2 ^ 64

pub count-taken : (bytes : List ℕ) (n : ℕ) (rest : List ℕ) → count_from bytes ≡ Some (n, rest) → CountTaken bytes n rest
unfolding count_from
count-taken bytes n rest is = go (number_after_front (number_start (codes "recordCount")) bytes) refl is
  where
    inner : (number : ℕ) (left : List ℕ) (found : Option (List ℕ)) → number_after_front (number_start (codes "recordCount")) bytes ≡ Some (number, left) → after_front records_start left ≡ found
        → option_map {U = ℕ × List ℕ} (λ r. (number, r)) found ≡ Some (n, rest) → CountTaken bytes n rest
    inner number left None behind front same = absurd (none-some (n, rest) same)
    inner number left (Some r) behind front same =
        let this : number ≡ n = ap (λ o. unwrap_or (option_map (λ p. p.0) o) n) same in
        let is_rest : r ≡ rest = ap (λ o. unwrap_or (option_map (λ p. p.1) o) rest) same in
        let taken = behind-taken (codes "recordCount") bytes n left (behind ∙ ap (λ k. Some (k, left)) this) in
        let opens : left ≡ 44 ∷ (quoted (codes "records") ++ 58 ∷ 91 ∷ rest) = after_front-taken records_start left r front ∙ ap (λ l. records_start ++ l) is_rest ∙ sym (records-shape rest) in
        record { is = taken.is ∙ ap (λ l. 44 ∷ (quoted (codes "recordCount") ++ 58 ∷ (decimal n ++ l))) opens; fits = taken.fits }

    go : (found : Option (ℕ × List ℕ)) → number_after_front (number_start (codes "recordCount")) bytes ≡ found
        → option_and_then {U = ℕ × List ℕ} (λ read. option_map (λ r. (read.0, r)) (after_front records_start read.1)) found ≡ Some (n, rest) → CountTaken bytes n rest
    go None behind same = absurd (none-some (n, rest) same)
    go (Some read) behind same = inner read.0 read.1 (after_front records_start read.1) behind refl same
