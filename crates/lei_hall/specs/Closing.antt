-- What the callers of a hall left, when it was closed.
use Rattle.std.specs.Prelude.{◌≡◌, ℕ, ◌≤◌, List, All}
use Rattle.register_history.specs.Legal.{Legal}
use Rattle.register_history.specs.State.{OfficeState}
use Rattle.request_loop.specs.Counts.{RoseBy}
use Rattle.turnstile.specs.Lists.{IsPrefix}
use Rattle.turnstile.specs.Passes.{AreApart, AreBetween, IsMadeOnce}
use Rattle.lei_hall.specs.Passes.{HallPass, IsNewPlace, faults_told}

-- A hall was opened with one office, when its keeper's count of faults had the first value. It was closed with these
-- passes, which left the other office and the other value.
pub record Closes (opened : OfficeState) (from : ℕ) (passes : List HallPass) (closed : OfficeState) (to : ℕ)
    : Type 0 where
  -- there is one history, which is legal, starts with the previous one, and has the same limits
  pub legal : Legal closed
  pub history : IsPrefix opened.history closed.history
  pub limits : closed.limits ≡ opened.limits
  -- what each pass has seen is a front of it
  pub seen : All (λ p. IsPrefix p.seen closed.history) passes
  -- each new place is in the `mine` of exactly one pass, and no other place is in any
  pub mine : (place : ℕ) → IsNewPlace opened closed place → IsMadeOnce passes place
  pub others : All (λ p. All (IsNewPlace opened closed) p.mine) passes
  -- the count didn't fall, each turn is between its two values, and any two turns have at most an end in common
  pub faults : from ≤ to
  pub stretches : AreBetween from to passes
  pub apart : AreApart passes
  -- at most as many replies are KEEPER_FAULT as the count rose by, or the count is at its greatest value
  pub refuses : RoseBy (faults_told passes) from to
