-- What a clock shows at a moment, and the moment's text.
use Rattle.std.proofs.Common.{◌≡◌, ℕ, Bool, sym, zero, suc, ◌+◌, ◌*◌, ◌/◌, ◌%◌, ◌<◌, true, false, None, Some, Option, Ok, Err, Result, List, [], ◌∷◌, ◌++◌, append_assoc, refl, ap, ◌∙◌, arith, ℤ, pos, ◌+ℤ◌, ◌*ℤ◌}
use Rattle.std.specs.Prelude.{IsAscii, MatchResult, if◌then◌else◌}
use Rattle.std.specs.Option.{SomeIff}
use Rattle.std.specs.Int.{int_div_euclid}
use Rattle.jiff.specs.Words.{Error, civil_nanos, datetime_text, epoch_day, nanos_of_seconds, parse_timestamp}
use Rattle.jiff_core.specs.Time.{time_nanos}
use Rattle.jiff_core.specs.declared.civil.date.Date.{Date}
use Rattle.jiff_core.specs.declared.civil.time.Time.{Time}
use Rattle.jiff_core.specs.declared.civil.datetime.DateTime.{DateTime}
use Rattle.jiff_core.proofs.SignedLemmas.{signed_arith, one_part}
use Rattle.jiff_core.proofs.CalendarLemmas.{days_from_civil-day_count}
use Rattle.jiff_core.proofs.DateLemmas.{epoch_day_injective}
use Rattle.jiff_core.proofs.DateTimeLemmas.{civil_nanos-parts, time_nanos_bound}
use Rattle.jiff_core.specs.declared.timestamp.Timestamp.{Timestamp}
use Rattle.std.proofs.lemmas.Int.{ints}
use Rattle.jiff_fmt.specs.Text.{zulu_text}
use Rattle.jiff_fmt.proofs.RoundTrip.{parse_timestamp-text}
use Rattle.lei_shapes.specs.Clock.{march_count, year_at, month_at, day_at, written_moment, IsClockAt, moment_text}
use Rattle.lei_shapes.specs.Moment.{IsMoment, IsMomentRead, IsMomentText, moment_of_instant, whole_seconds, is_moment, read_moment, day_of, second_of_day, ShowsMoment}
use Rattle.lei_shapes.proofs.ClockLemmas.{day_count-at, civil-at}

pub is_moment-true : (s : ℤ) → IsMoment s → is_moment s ≡ true
is_moment-true s h = grind (arith, ints)

pub is_moment-false : (s : ℤ) → (IsMoment s → ⊥) → is_moment s ≡ false
is_moment-false s h = grind (arith, ints)

-- the date with the number n - 719,468 is that of the closed form
date_at_count : (d : Date) (n : ℕ) → n < 3_652_000 → epoch_day d +ℤ pos 719_468 ≡ pos n
    → (d.year ≡ pos (year_at n)) × (d.month ≡ month_at n) × (d.day ≡ day_at n)
date_at_count d n h e =
    let civil = civil-at n h in
    let here : Date = record { year = pos (year_at n); month = month_at n; day = day_at n; year_in = civil.0; month_in = civil.1; day_in = civil.2 } in
    let number = days_from_civil-day_count (pos (year_at n)) (month_at n) (day_at n) in
    let same : epoch_day d ≡ epoch_day here = omega (arith, signed_arith, number, day_count-at n (omega arith)) in
    epoch_day_injective d here same

-- the seconds of a moment are those of its days and of its last day
pub day_and_second : (s : ℤ) → (s ≡ day_of s *ℤ pos 86_400 +ℤ pos (second_of_day s)) × (second_of_day s < 86_400)
day_and_second s = (omega (arith, signed_arith), omega (arith, signed_arith))

-- the days of a moment's date are in the range of the closed form
pub march_count_is : (s : ℤ) → IsMoment s → (day_of s +ℤ pos 719_468 ≡ pos (march_count (day_of s))) × (march_count (day_of s) < 3_652_000)
march_count_is s h =
    let split = day_and_second s in
    let one = one_part (day_of s +ℤ pos 719_468) in
    (omega (arith, signed_arith, one), omega (arith, signed_arith, one))

-- a clock that shows the moment shows the moment's day and its second
pub day-clock : (clock : DateTime) (s : ℤ) → ShowsMoment s clock → (epoch_day clock.date ≡ day_of s) × (time_nanos clock.time ≡ second_of_day s * 1_000_000_000)
day-clock clock s shows =
    let parts = civil_nanos-parts clock in
    let bound = time_nanos_bound clock.time in
    let split = day_and_second s in
    (omega (arith, signed_arith), omega (arith, signed_arith))

-- the parts of a time that is this many whole seconds after midnight
time_parts_at : (t : Time) (k : ℕ) → time_nanos t ≡ k * 1_000_000_000
    → (t.hour ≡ k / 3600) × (t.minute ≡ k / 60 % 60) × (t.second ≡ k % 60) × (t.subsec_nanosecond ≡ 0)
time_parts_at t k e =
    let whole : t.subsec_nanosecond ≡ 0 = omega arith in
    let sum : t.hour * 3600 + t.minute * 60 + t.second ≡ k = omega arith in
    (omega arith, omega arith, omega arith, whole)

-- it shows the date and the time of the closed form
pub clock_at_moment : (clock : DateTime) (s : ℤ) → IsMoment s → ShowsMoment s clock → IsClockAt s clock
clock_at_moment clock s h shows =
    let split = day-clock clock s shows in
    let count = march_count_is s h in
    let date = date_at_count clock.date (march_count (day_of s)) count.1 (ap (λ d. d +ℤ pos 719_468) split.0 ∙ count.0) in
    let time = time_parts_at clock.time (second_of_day s) split.1 in
    record { year = date.0; month = date.1; day = date.2; hour = time.0; minute = time.1; second = time.2; subsec = time.3 }

-- and `jiff` writes the moment's text for it
pub moment_text-clock : (clock : DateTime) (s : ℤ) → IsClockAt s clock → moment_text s ≡ datetime_text false 84 None clock ++ zulu_text false
unfolding moment_text
moment_text-clock clock s at = rw (at.year, at.month, at.day, at.hour, at.minute, at.second, at.subsec) (simp append_assoc refl)

sum_of_parts : (s day : ℤ) (second : ℕ) (nanos number : ℤ) (time : ℕ) → nanos ≡ number *ℤ pos 86_400_000_000_000 +ℤ pos time → number ≡ day → time ≡ second * 1_000_000_000
    → s ≡ day *ℤ pos 86_400 +ℤ pos second → nanos ≡ nanos_of_seconds s
sum_of_parts s day second nanos number time parts same whole split = omega (arith, signed_arith)

-- there is a clock that shows the moment
pub shown : (s : ℤ) → IsMoment s → (clock : DateTime) × ShowsMoment s clock
shown s h =
    let n = march_count (day_of s) in
    let count = march_count_is s h in
    let civil = civil-at n count.1 in
    let k = second_of_day s in
    let split = day_and_second s in
    let date : Date = record { year = pos (year_at n); month = month_at n; day = day_at n; year_in = civil.0; month_in = civil.1; day_in = civil.2 } in
    let time : Time = record { hour = k / 3600; minute = k / 60 % 60; second = k % 60; subsec_nanosecond = 0; hour_in = omega arith; minute_in = omega arith; second_in = omega arith; subsec_in = omega arith } in
    let clock : DateTime = record { date = date; time = time } in
    let number = days_from_civil-day_count (pos (year_at n)) (month_at n) (day_at n) in
    let same : epoch_day date ≡ day_of s = omega (arith, signed_arith, number, day_count-at n (omega arith)) in
    let nanos : time_nanos time ≡ k * 1_000_000_000 = omega arith in
    let parts : civil_nanos clock ≡ epoch_day date *ℤ pos 86_400_000_000_000 +ℤ pos (time_nanos time) = civil_nanos-parts clock in
    (clock, sum_of_parts s (day_of s) k (civil_nanos clock) (epoch_day date) (time_nanos time) parts same nanos split.0)

-- the moment's text reads as the moment
pub read_moment-text : (s : ℤ) → IsMoment s → read_moment (moment_text s) ≡ Some s
unfolding read_moment
read_moment-text s h =
    let clock = shown s h in
    let text = moment_text-clock clock.0 s (clock_at_moment clock.0 s h clock.1) in
    let instant : Timestamp = record { nanosecond = nanos_of_seconds s; in_range = (omega (arith, signed_arith), omega (arith, signed_arith)) } in
    let whole : int_div_euclid (nanos_of_seconds s) (pos 1_000_000_000) ≡ s = omega (arith, signed_arith) in
    let inside : is_moment s ≡ true = is_moment-true s h in
    rw (text, parse_timestamp-text clock.0 instant clock.1, whole, inside)

-- the text is the one that `jiff` writes
pub is_written : (s : ℤ) → IsMoment s → IsMomentText s (moment_text s)
is_written s h =
    let clock = shown s h in
    record { clock = clock.0; shows = clock.1; written = moment_text-clock clock.0 s (clock_at_moment clock.0 s h clock.1) }

-- the parts of a date have this many digits
pub date_bounds : (n : ℕ) → n < 3_652_000 → (year_at n < 10_000) × (month_at n < 100) × (day_at n < 100)
date_bounds n h =
    let civil = civil-at n h in
    (omega (arith, signed_arith, civil.0.1), omega (arith, civil.1), omega arith)

-- the text by its parts
pub moment_text-form : (s : ℤ) → moment_text s ≡ written_moment (year_at (march_count (day_of s))) (month_at (march_count (day_of s))) (day_at (march_count (day_of s))) (second_of_day s)
unfolding moment_text
moment_text-form s = simp append_assoc refl

pub moment_text-by : (s : ℤ) (n year month day second : ℕ) → n ≡ march_count (day_of s) → year ≡ year_at n → month ≡ month_at n → day ≡ day_at n → second ≡ second_of_day s
    → written_moment year month day second ≡ moment_text s
moment_text-by s n year month day second days years months number seconds = rw (years, months, number, days, seconds) (sym (moment_text-form s))

-- a printed form reads as its moment
pub read_moment-form : (text form : List ℕ) (s : ℤ) → IsMoment s → form ≡ moment_text s → text ≡ form → read_moment text ≡ Some s
read_moment-form text form s h printed same = rw (same, printed) (read_moment-text s h)

-- each byte of a text that is written out is ASCII
abbrev AsciiEach : List ℕ → Type 0
AsciiEach [] = Unit {0}
AsciiEach (b ∷ bytes) = (b < 128) × AsciiEach bytes

IsAscii-from_each : (bytes : List ℕ) → AsciiEach bytes → IsAscii bytes
IsAscii-from_each [] each i = omega arith
IsAscii-from_each (b ∷ bytes) each zero = each.0
IsAscii-from_each (b ∷ bytes) each (suc i) = IsAscii-from_each bytes each.1 i

ascii_digit : (n : ℕ) → n < 100 → (48 + n / 10 < 128) × (48 + n % 10 < 128)
ascii_digit n h = (omega arith, omega arith)

-- each byte of the text is ASCII
pub IsAscii-moment_text : (s : ℤ) → IsMoment s → IsAscii (moment_text s)
unfolding moment_text
IsAscii-moment_text s h =
    let n = march_count (day_of s) in
    let civil = civil-at n (march_count_is s h).1 in
    let bound = (day_and_second s).1 in
    let century = ascii_digit (year_at n / 100) (omega (arith, signed_arith, civil.0.1)) in
    let year = ascii_digit (year_at n % 100) (omega arith) in
    let month = ascii_digit (month_at n) (omega (arith, civil.1)) in
    let day = ascii_digit (day_at n) (omega arith) in
    let hour = ascii_digit (second_of_day s / 3600) (omega arith) in
    let minute = ascii_digit (second_of_day s / 60 % 60) (omega arith) in
    let second = ascii_digit (second_of_day s % 60) (omega arith) in
    let dash : 45 < 128 = omega arith in
    let letter : 90 < 128 = omega arith in
    let t : 84 < 128 = omega arith in
    let colon : 58 < 128 = omega arith in
    IsAscii-from_each (moment_text s)
    (century.0, (century.1, (year.0, (year.1, (dash, (month.0, (month.1, (dash, (day.0, (day.1, (t, (hour.0, (hour.1, (colon, (minute.0, (minute.1, (colon, (second.0, (second.1, (letter, tt))))))))))))))))))))

reading-is : (reading : Result ℤ Error) (read : Option ℤ)
    → MatchResult reading (λ nanos. SomeIff read (IsMoment (whole_seconds nanos)) (whole_seconds nanos)) (λ _. read ≡ None)
    → read ≡ moment_of_instant reading
reading-is (Err e) read h = h
reading-is (Ok nanos) None h = rw (is_moment-false (whole_seconds nanos) h)
reading-is (Ok nanos) (Some s) h = rw (is_moment-true (whole_seconds nanos) h.0) (ap Some h.1)

-- what a text reads as is the function's value
pub read_moment-is : (text : List ℕ) (read : Option ℤ) → IsMomentRead text read → read ≡ read_moment text
unfolding read_moment
read_moment-is text read h = reading-is (parse_timestamp text) read h

reads-by : (test : Bool) (s : ℤ) → is_moment s ≡ test → SomeIff (if test then Some s else None) (IsMoment s) s
reads-by true s e = (grind (arith, ints), refl)
reads-by false s e = λ h. grind (arith, ints)

reads-as : (reading : Result ℤ Error)
    → MatchResult reading (λ nanos. SomeIff (moment_of_instant reading) (IsMoment (whole_seconds nanos)) (whole_seconds nanos)) (λ _. moment_of_instant reading ≡ None)
reads-as (Err e) = refl
reads-as (Ok nanos) = reads-by (is_moment (whole_seconds nanos)) (whole_seconds nanos) refl

IsMomentRead-of : (text : List ℕ) → IsMomentRead text (read_moment text)
unfolding read_moment
IsMomentRead-of text = reads-as (parse_timestamp text)

-- the function's value is what the text reads as
pub IsMomentRead-by : (text : List ℕ) (read : Option ℤ) → read ≡ read_moment text → IsMomentRead text read
IsMomentRead-by text read e = rw e (IsMomentRead-of text)
