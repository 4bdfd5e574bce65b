-- The date and the time of a moment in closed form, so that texts of moments can be computed. It is proved that the
-- result is the calendar's date: `Moment::text` has both as clauses.
use Rattle.std.specs.Prelude.{◌≡◌, ℕ, ◌+◌, ◌-◌, ◌*◌, ◌/◌, ◌%◌, nat_lt, if◌then◌else◌, ℤ, pos, ◌+ℤ◌, unsigned_abs, [], ◌∷◌, ◌++◌}
use Rattle.jiff_core.specs.declared.civil.datetime.DateTime.{DateTime}
use Rattle.jiff_fmt.specs.Text.{pad2, pad4}
use Rattle.lei_code.specs.Texts.{Text}
use Rattle.lei_shapes.specs.Moment.{day_of, second_of_day}

-- The days since 1 March of the year 0, for a day number counted from 1970-01-01. A year that starts in March has its
-- leap day at its end.
abbrev pub march_count : ℤ → ℕ
march_count day = unsigned_abs (day +ℤ pos 719_468)

-- The full centuries of such years, each of 36,524 days and a quarter.
abbrev pub century : ℕ → ℕ
century days = (4 * days + 3) / 146_097

-- The days since the last of these centuries.
abbrev pub day_of_century : ℕ → ℕ
day_of_century days = (4 * days + 3) % 146_097 / 4

-- The full years of that century, each of 365 days and a quarter.
abbrev pub year_of_century : ℕ → ℕ
year_of_century days = (4 * day_of_century days + 3) / 1461

-- The days since the last of these years.
abbrev pub day_of_march_year : ℕ → ℕ
day_of_march_year days = (4 * day_of_century days + 3) % 1461 / 4

-- The year that started in March.
abbrev pub march_year : ℕ → ℕ
march_year days = 100 * century days + year_of_century days

-- The month, from 3 for March to 14 for February: each five months, starting with March, have 153 days.
abbrev pub march_month : ℕ → ℕ
march_month days = (5 * day_of_march_year days + 461) / 153

-- The calendar year: January and February are in the next one.
abbrev pub year_at : ℕ → ℕ
year_at days = if nat_lt 12 (march_month days) then march_year days + 1 else march_year days

-- The calendar month.
abbrev pub month_at : ℕ → ℕ
month_at days = if nat_lt 12 (march_month days) then march_month days - 12 else march_month days

-- The day of the month.
abbrev pub day_at : ℕ → ℕ
day_at days = (5 * day_of_march_year days + 461) % 153 / 5 + 1

-- The clock shows the date and the time of the closed form.
pub record IsClockAt (seconds : ℤ) (clock : DateTime) : Type 0 where
  pub year : clock.date.year ≡ pos (year_at (march_count (day_of seconds)))
  pub month : clock.date.month ≡ month_at (march_count (day_of seconds))
  pub day : clock.date.day ≡ day_at (march_count (day_of seconds))
  pub hour : clock.time.hour ≡ second_of_day seconds / 3600
  pub minute : clock.time.minute ≡ second_of_day seconds / 60 % 60
  pub second : clock.time.second ≡ second_of_day seconds % 60
  pub subsec : clock.time.subsec_nanosecond ≡ 0

-- A date in written form, such as `2024-06-19`.
abbrev pub date_at : ℕ → Text
date_at days =
    pad4 (year_at days) ++ 45 ∷ [] ++ pad2 (month_at days) ++ 45 ∷ [] ++ pad2 (day_at days)

-- A time in written form, such as `17:30:05`.
abbrev pub time_at : ℕ → Text
time_at second = pad2 (second / 3600) ++ 58 ∷ pad2 (second / 60 % 60) ++ 58 ∷ pad2 (second % 60)

-- A moment in written form, such as `2024-06-19T17:30:05Z` (RFC 3339).
unfoldable pub moment_text : ℤ → Text
moment_text seconds =
    date_at (march_count (day_of seconds)) ++ 84 ∷ time_at (second_of_day seconds) ++ 90 ∷ []

-- A date and a second of that day in written form.
abbrev pub written_moment : ℕ → ℕ → ℕ → ℕ → Text
written_moment year month day second =
    pad4 year ++ 45 ∷ [] ++ pad2 month ++ 45 ∷ [] ++ pad2 day ++ 84 ∷ time_at second ++ 90 ∷ []
