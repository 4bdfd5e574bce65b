-- The moments that a clock gives in a call.
use Rattle.std.specs.Prelude.{ℤ, List, Option}
use Rattle.std.specs.List.{All}
use Rattle.lei_outside.specs.Clock.{Gave, IsClockMoment}

-- The clock gave these moments, in this order, each within the range of clocks. If the clock tells its moments, they
-- are the ones that it tells.
pub record ClockGives (before after : Option (List ℤ)) (moments : List ℤ) : Type 0 where
  pub told : Gave before after moments
  pub range : All IsClockMoment moments
