-- One turn of a caller.
use Rattle.std.specs.Prelude.{◌≡◌, ℕ, ℤ, ◌≤◌, List, [], ◌∷◌, ◌++◌, length, All}
use Rattle.lei_values.specs.declared.entry.KeptEntry.{KeptEntry}
use Rattle.register_words.specs.declared.reply.Reply.{Reply}
use Rattle.register_words.specs.declared.request.Request.{Request}
use Rattle.register_history.specs.Legal.{Legal}
use Rattle.register_history.specs.Replies.{Step}
use Rattle.register_history.specs.Steps.{AddsOneOrNone}
use Rattle.register_history.specs.State.{office_of}
use Rattle.request_loop.specs.Counts.{RoseBy}
use Rattle.lei_office.specs.Faults.{keeper_faults}
use Rattle.lei_office.specs.Offices.{KeptOffice}
use Rattle.turnstile.specs.Lists.{IsPrefix}
use Rattle.turnstile.specs.Meaning.{mine_after}
use Rattle.lei_hall.specs.Passes.{HallPass, limits_of, member, seen_by}

-- A turn of a pass, in which a request that came at a moment got its reply. There is one history before the turn:
pub record Turn (before : HallPass) (request : Request) (moment : ℤ) (reply : Reply)
    (after : HallPass) : Type 0 where
  -- the history, and the keeper's counts of faults at the start and at the end of the turn
  pub history : List KeptEntry
  pub from : ℕ
  pub to : ℕ
  -- it begins with all that the pass had seen, and what the pass has seen afterwards begins with it
  pub seen : IsPrefix before.seen history
  pub front : IsPrefix history after.seen
  -- the request makes one step, from it to what the pass has seen afterwards, and that is legal
  pub step : Step (office_of (limits_of before.stays) history) request moment reply (seen_by after)
  pub legal : Legal (seen_by after)
  -- the pass is told one member more
  pub told : after.told ≡ before.told ++ member request moment reply (length history) from to ∷ []
  -- the place after the history is one of the pass's own exactly if the turn added an entry
  pub mine : after.mine ≡ mine_after 1 (length history) (length after.seen) before.mine
  -- The count at the start is at least every count that the pass was told before. The count at the end is at least the
  -- count at the start. If the reply is KEEPER_FAULT, the count rose in the turn, or is at its greatest value.
  pub later : All (λ t. t.to ≤ from) before.told
  pub faults : from ≤ to
  pub fault : RoseBy (keeper_faults (reply ∷ [])) from to
  -- the rest is unchanged
  pub table : after.table ≡ before.table
  pub number : after.number ≡ before.number
  pub limits : after.stays ≡ before.stays

-- ---- inside

-- A request was put to an office, got this reply, and led from one office to the other.
pub record AnswersRequest {K : Type 0} (faults : K → ℕ) (old : KeptOffice K) (request : Request) (moment : ℤ)
    (reply : Reply) (new : KeptOffice K) : Type 0 where
  pub step : Step old.office request moment reply new.office
  pub adds : AddsOneOrNone old.office new.office
  pub legal : Legal new.office
  pub count : faults old.keeper ≤ faults new.keeper
  pub fault : RoseBy (keeper_faults (reply ∷ [])) (faults old.keeper) (faults new.keeper)
