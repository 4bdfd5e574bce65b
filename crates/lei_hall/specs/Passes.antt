-- Passes and a hall as contracts see them.
use Rattle.std.specs.Prelude.{ℕ, ℤ, ◌+◌, ◌≤◌, ◌<◌, List, [], ◌∷◌, length, get_or, Option, None, Some}
use Rattle.atomic_table.specs.Seated.{TableId}
use Rattle.lei_values.specs.KeptTables.{KeptTables}
use Rattle.lei_values.specs.declared.entry.KeptEntry.{KeptEntry}
use Rattle.register_words.specs.declared.limits.Limits.{Limits}
use Rattle.register_words.specs.declared.reply.Reply.{Reply}
use Rattle.register_words.specs.declared.request.Request.{Request}
use Rattle.register_history.specs.State.{OfficeState, office_of}
use Rattle.request_loop.specs.Counts.{RoseBy}
use Rattle.lei_office.specs.Faults.{keeper_faults}
use Rattle.lei_office.specs.Offices.{KeptOffice}
use Rattle.turnstile.specs.Lists.{total}
use Rattle.turnstile.specs.Passes.{PassView}
use Rattle.turnstile.specs.declared.view.Member.{Member}
use Rattle.lei_hall.specs.declared.answers.Told.{Told}

-- A hall: which table its passes are for, the office that it was opened with, and the number of passes.
pub record HallView (K : Type 0) : Type 0 where
  pub table : TableId
  pub office : KeptOffice K
  pub passes : ℕ

-- An office in the slot of a turnstile, with the office that the hall was opened with.
pub record SlotView (K : Type 0) : Type 0 where
  pub office : KeptOffice K
  pub opened : KeptOffice K

-- ---- what stays of an office

-- Whether tables are told: 1 if they are, 0 if not.
abbrev pub told_number : Option KeptTables → ℕ
told_number None = 0
told_number (Some tables) = 1

-- The limits as four numbers, and whether the keeper told its tables when the hall was opened.
abbrev pub numbers_of : Limits → Option KeptTables → List ℕ
numbers_of limits kept =
    limits.body ∷ limits.kept ∷ limits.entries ∷ limits.records ∷ told_number kept ∷ []

-- The limits that these numbers start with.
abbrev pub limits_of : List ℕ → Limits
limits_of numbers = record {
  body = get_or numbers 0 0;
  kept = get_or numbers 1 0;
  entries = get_or numbers 2 0;
  records = get_or numbers 3 0;
}

-- ---- passes

-- A pass is for one table and has a number. The other parts are the history that it has seen, the places of its own
-- entries, what it was told, and the numbers that stay. These numbers start with the limits of the office.
abbrev pub HallPass : Type 0
HallPass = PassView KeptEntry Told

-- The office that a pass has seen.
abbrev pub seen_by : HallPass → OfficeState
seen_by pass = office_of (limits_of pass.stays) pass.seen

-- A request came at a moment, and got this reply.
abbrev pub told : Request → ℤ → Reply → Told
told request moment reply = record { request = request; moment = moment; reply = reply }

-- What a pass is told in a turn: request, moment and reply, and the length of the history before the turn. It is also
-- told the keeper's counts of faults at the start and at the end of the turn.
abbrev pub member : Request → ℤ → Reply → ℕ → ℕ → ℕ → Member Told
member request moment reply at from to =
    record { piece = told request moment reply; at = at; from = from; to = to }

-- If the reply is KEEPER_FAULT, the keeper's count of faults rose in the turn, or is at its greatest value.
abbrev pub ReportsSo : Member Told → Type 0
ReportsSo t = RoseBy (keeper_faults (t.piece.reply ∷ [])) t.from t.to

-- How many of the replies that a pass was told are KEEPER_FAULT.
abbrev pub pass_faults : HallPass → ℕ
pass_faults pass = total (λ t. keeper_faults (t.piece.reply ∷ [])) pass.told

-- How many of the replies that the passes were told are KEEPER_FAULT.
abbrev pub faults_told : List HallPass → ℕ
faults_told passes = total pass_faults passes

-- ---- places

-- The place of an entry that came after the first history and is in the second. Places are counted from 1.
abbrev pub IsNewPlace : OfficeState → OfficeState → ℕ → Type 0
IsNewPlace opened closed place = (1 + length opened.history ≤ place) × (place < 1 + length closed.history)
