-- An office as the answerer of a session.
use Rattle.std.specs.Prelude.{◌≢◌, ℕ, ℤ, List, [], ◌∷◌, Option}
use Rattle.lei_values.specs.KeptTables.{KeptTables}
use Rattle.register_history.specs.Kept.{StaysUntold}
use Rattle.register_history.specs.Legal.{AskStep}
use Rattle.register_history.specs.State.{OfficeState}
use Rattle.register_words.specs.Refusals.{refusal_status_code}
use Rattle.register_words.specs.Requests.{HasNumberInRange}
use Rattle.register_words.specs.declared.reply.Reply.{Reply}
use Rattle.register_words.specs.declared.request.Asked.{Asked}
use Rattle.register_words.specs.declared.request.Asked.TheVariants.{Ask, Refuse}
use Rattle.request_loop.specs.Counts.{RoseBy}
use Rattle.lei_office.specs.Faults.{keeper_faults}
use Rattle.lei_office.specs.Offices.{KeptOffice}

-- An office, what its keeper tells, and how many calls of the keeper have failed.
pub record CountedOffice : Type 0 where
  pub office : OfficeState
  pub kept : Option KeptTables
  pub faults : ℕ

-- An office with its keeper, reduced to the keeper's tables and count.
abbrev pub with_count : {K : Type 0} → (K → Option KeptTables) → (K → ℕ) → KeptOffice K → CountedOffice
with_count tables faults kept =
    record { office = kept.office; kept = tables kept.keeper; faults = faults kept.keeper }

-- What may be asked: a request whose number is in its range, or a refusal by the reader that reports no fault of the
-- keeper.
abbrev pub MayBeAsked : Asked → Type 0
MayBeAsked (Ask request) = HasNumberInRange request
MayBeAsked (Refuse refusal) = refusal_status_code refusal ≢ 503

-- What was asked got this reply, at these moments, by one step from one office to the next. The reply is KEEPER_FAULT
-- only if a call of the keeper failed. If the keeper tells its tables after the step, it told them before.
pub record OfficeStep (old : CountedOffice) (asked : Asked) (moments : List ℤ) (reply : Reply)
    (new : CountedOffice) : Type 0
  where
    pub made : AskStep old.office asked moments reply new.office
    pub refuses : RoseBy (keeper_faults (reply ∷ [])) old.faults new.faults
    pub untold : StaysUntold old.kept new.kept

-- The same, for any value that has such an office.
abbrev pub StepsBy : {A : Type 0} → (A → CountedOffice) → A → Asked → List ℤ → Reply → A → Type 0
StepsBy part old asked moments reply new = OfficeStep (part old) asked moments reply (part new)
