-- The closed form of a date is the calendar's date.
use Rattle.std.proofs.Common.{◌≡◌, ℕ, ◌+◌, ◌-◌, ◌*◌, ◌/◌, ◌%◌, ◌<◌, ◌≤◌, nat_lt, true, false, cond, add-one, Bool, refl, ap, ◌∙◌, arith, pos}
use Rattle.std.proofs.lemmas.Bool.Decides.{nat_tests}
use Rattle.jiff_core.specs.Calendar.{day_count, IsCivilDate}
use Rattle.jiff_core.specs.March.{march_days}
use Rattle.jiff_core.proofs.SignedLemmas.{signed_arith}
use Rattle.jiff_core.proofs.MarchLemmas.{leap_day, march_days-suc, day_count-late, day_count-early, month_and_day, day_in_month, day_in_early_month}
use Rattle.lei_shapes.specs.Clock.{day_of_march_year, march_year, march_month, year_at, month_at, day_at}

-- a day is in its March year, and less than a year from its start
pub march_year_has : (n : ℕ) → n < 3_700_000 → (march_days (march_year n) + day_of_march_year n ≡ n) × (day_of_march_year n < 366) × (n < march_days (march_year n + 1))
march_year_has n h = (omega arith, omega arith, omega arith)

-- ten thousand years are 25 rounds of the calendar
march_days-shift : (y : ℕ) → march_days (y + 10_000) ≡ march_days y + 3_652_425
march_days-shift y = omega arith

-- a March year has 365 days, or 366 if it ends in a leap year
within : (y r n : ℕ) → march_days y + r ≡ n → n < march_days (y + 1) → r < 365 + leap_day (pos (y + 1))
within y r n e h =
    let next : march_days (y + 1) ≡ march_days y + 365 + leap_day (pos (y + 1)) = rw add-one (march_days-suc y) in
    omega arith

-- the month and the day of the month, for a day of a March year
abbrev month_of : ℕ → ℕ
month_of r = (5 * r + 461) / 153

abbrev month_day_of : ℕ → ℕ
month_day_of r = (5 * r + 461) % 153 / 5 + 1

-- the result of the two for a day of a March year; `early` says that it is in January or February
day_count-by : (early : Bool) (y r : ℕ) → nat_lt 12 (month_of r) ≡ early → r < 366
    → day_count (pos (cond early (y + 1) y)) (cond early (month_of r - 12) (month_of r)) (month_day_of r) ≡ march_days y + r + 3_652_485
day_count-by true y r test bound =
    let late : 12 < month_of r = grind (arith, nat_tests) in
    let month : month_of r - 12 + 12 ≡ month_of r = omega arith in
    let count = day_count-early (pos (y + 1)) (y + 10_000) (month_of r - 12) (month_day_of r) (omega (arith, signed_arith)) (omega arith) (omega arith) (omega arith) in
    omega (arith, rw month at count, month_and_day r bound, march_days-shift y)
day_count-by false y r test bound =
    let soon : month_of r ≤ 12 = grind (arith, nat_tests) in
    let count = day_count-late (pos y) (y + 10_000) (month_of r) (month_day_of r) (omega (arith, signed_arith)) (omega arith) (omega arith) (omega arith) in
    omega (arith, count, month_and_day r bound, march_days-shift y)

civil-by : (early : Bool) (y r : ℕ) → nat_lt 12 (month_of r) ≡ early → y < 9_999 → r < 366 → r < 365 + leap_day (pos (y + 1))
    → IsCivilDate (pos (cond early (y + 1) y)) (cond early (month_of r - 12) (month_of r)) (month_day_of r)
civil-by true y r test years bound leap =
    let late : 12 < month_of r = grind (arith, nat_tests) in
    ((omega (arith, signed_arith), omega (arith, signed_arith)), (omega arith, omega arith), (omega arith, day_in_early_month (pos (y + 1)) r late leap))
civil-by false y r test years bound leap =
    let soon : month_of r ≤ 12 = grind (arith, nat_tests) in
    ((omega (arith, signed_arith), omega (arith, signed_arith)), (omega arith, omega arith), (omega arith, day_in_month (pos y) r soon))

-- the date of the closed form is this many days after 1 March of the year 0
pub day_count-at : (n : ℕ) → n < 3_700_000 → day_count (pos (year_at n)) (month_at n) (day_at n) ≡ n + 3_652_485
day_count-at n h =
    let has = march_year_has n h in
    day_count-by (nat_lt 12 (march_month n)) (march_year n) (day_of_march_year n) refl has.1 ∙ ap (λ k. k + 3_652_485) has.0

-- and the calendar has it
pub civil-at : (n : ℕ) → n < 3_652_000 → IsCivilDate (pos (year_at n)) (month_at n) (day_at n)
civil-at n h =
    let has = march_year_has n (omega arith) in
    let years : march_year n < 9_999 = omega arith in
    let leap : day_of_march_year n < 365 + leap_day (pos (march_year n + 1)) = within (march_year n) (day_of_march_year n) n has.0 has.2 in
    civil-by (nat_lt 12 (march_month n)) (march_year n) (day_of_march_year n) refl years has.1 leap
