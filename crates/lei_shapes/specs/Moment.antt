-- Moments: whole seconds of UTC, counted from 1970-01-01T00:00:00Z and negative before it.
use Rattle.std.specs.Prelude.{◌≡◌, ℕ, Bool, false, not, ◌&&◌, if◌then◌else◌, ℤ, pos, neg_ℤ, int_lt, unsigned_abs, ◌++◌, Option, Some, None, Result, Ok, Err, MatchResult}
use Rattle.std.specs.Int.{int_div_euclid, int_rem_euclid}
use Rattle.std.specs.Option.{SomeIff}
use Rattle.jiff.specs.Words.{Error, IsBetween, civil_nanos, datetime_text, epoch_day, nanos_of_seconds, parse_timestamp}
use Rattle.jiff_core.specs.declared.civil.datetime.DateTime.{DateTime}
use Rattle.jiff_fmt.specs.Text.{zulu_text}
use Rattle.lei_code.specs.Texts.{Text}

-- A moment is from 0001-01-01T00:00:00Z to 9998-12-31T23:59:59Z.
abbrev pub IsMoment : ℤ → Type 0
IsMoment seconds = IsBetween (neg_ℤ (pos 62_135_596_800)) (pos 253_370_764_799) seconds

-- The same, as a test.
abbrev pub is_moment : ℤ → Bool
is_moment seconds =
    not (int_lt seconds (neg_ℤ (pos 62_135_596_800))) && not (int_lt (pos 253_370_764_799) seconds)

-- The whole seconds of an instant in nanoseconds: rounded down, also before 1970.
abbrev pub whole_seconds : ℤ → ℤ
whole_seconds nanos = int_div_euclid nanos (pos 1_000_000_000)

-- A text is read as `jiff` reads it, which covers RFC 3339: as the whole seconds of that instant, exactly if they are a
-- moment. It isn't read if `jiff` refuses the text.
abbrev pub IsMomentRead : Text → Option ℤ → Type 0
IsMomentRead text read = MatchResult (parse_timestamp text)
    (λ nanos. SomeIff read (IsMoment (whole_seconds nanos)) (whole_seconds nanos))
    (λ _. read ≡ None)

-- The moment of a reading by `jiff`, if it is one.
abbrev pub moment_of_instant : Result ℤ Error → Option ℤ
moment_of_instant (Err e) = None
moment_of_instant (Ok nanos) =
    if is_moment (whole_seconds nanos) then Some (whole_seconds nanos) else None

-- The moment that a text reads as, if it does.
unfoldable pub read_moment : Text → Option ℤ
read_moment text = moment_of_instant (parse_timestamp text)

-- The number of a moment's day in UTC: 1970-01-01 is 0, and the day before it -1.
abbrev pub day_of : ℤ → ℤ
day_of seconds = int_div_euclid seconds (pos 86_400)

-- The seconds since the midnight of that day.
abbrev pub second_of_day : ℤ → ℕ
second_of_day seconds = unsigned_abs (int_rem_euclid seconds (pos 86_400))

-- The clock shows the moment in UTC.
abbrev pub ShowsMoment : ℤ → DateTime → Type 0
ShowsMoment seconds clock = civil_nanos clock ≡ nanos_of_seconds seconds

-- A clock in UTC shows the moment.
abbrev pub IsShown : ℤ → Type 0
IsShown seconds = (clock : DateTime) × ShowsMoment seconds clock

-- The text is what `jiff` writes for the clock that shows the moment, with a `Z` for UTC.
pub record IsMomentText (seconds : ℤ) (text : Text) : Type 0 where
  pub clock : DateTime
  pub shows : ShowsMoment seconds clock
  pub written : text ≡ datetime_text false 84 None clock ++ zulu_text false

-- Whatever clock shows the moment, its date has this number.
abbrev pub IsDayOf : ℤ → ℤ → Type 0
IsDayOf seconds day = (clock : DateTime) → ShowsMoment seconds clock → epoch_day clock.date ≡ day
