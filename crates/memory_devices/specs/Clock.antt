-- A clock in memory: the moments that it has, and what it tells of those that it gave.
use Rattle.std.specs.Prelude.{ℕ, ◌-◌, ◌^◌, ◌==◌, if◌then◌else◌, ℤ, pos, List, ◌++◌, length, get_or, take, replicate, Option, None, Some}

-- A clock in memory: the moments that it has, and how often it was asked.
pub record ClockState : Type 0 where
  pub moments : List ℤ
  pub calls : ℕ

-- The last moment of a list, or 0 if it is empty.
abbrev pub last_moment : List ℤ → ℤ
last_moment moments = get_or moments (length moments - 1) (pos 0)

-- The moment that follows this many calls: the next of the list, and after the list's end its last one again.
abbrev pub moment_after : List ℤ → ℕ → ℤ
moment_after moments calls = get_or moments calls (last_moment moments)

-- The moments of the first calls, as many as this.
abbrev pub first_moments : List ℤ → ℕ → List ℤ
first_moments moments calls = take calls moments ++ replicate (calls - length moments) (last_moment moments)

-- The moments that a clock gave, as long as its calls are counted.
abbrev pub given_by : ClockState → Option (List ℤ)
given_by clock = if clock.calls == 2 ^ 64 - 1 then None else Some (first_moments clock.moments clock.calls)
