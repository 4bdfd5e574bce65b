-- How a run over lines ends, by its status.
use Rattle.std.specs.Prelude.{◌≡◌, ◌≢◌, ◌<◌, ◌≤◌, ℕ, ℤ, List, ◌++◌, ◌⊎◌, length, codes, decimal, Contains, Option, IfSome, Result, Ok, Err}
use Rattle.std.specs.Str.Lines.{lines}
use Rattle.lei_values.specs.Count.{Rose}
use Rattle.lei_values.specs.KeptTables.{KeptTables}
use Rattle.lei_keeper.specs.Keeping.{TablesStay}
use Rattle.lei_outside.specs.Told.{Grows, IsAtEnd, WritesFront}
use Rattle.lei_code.specs.Texts.{Text}
use Rattle.register_words.specs.declared.reply.Refusal.TheVariants.{NoMemory}
use Rattle.register_words.specs.declared.reply.Reply.{Reply}
use Rattle.register_words.specs.declared.reply.Reply.TheVariants.{Words}
use Rattle.register_history.specs.declared.damage.Damage.{Damage}
use Rattle.register_history.specs.Damage.{IsDamage}
use Rattle.register_history.specs.Kept.{Keeps}
use Rattle.register_history.specs.State.{OfficeState}
use Rattle.register_history.specs.Legal.{OfficeSession, replies_to}
use Rattle.register_words.specs.Limits.{standard}
use Rattle.request_loop.specs.Wires.{IsSent}
use Rattle.request_loop.specs.Serving.{read_limit}
use Rattle.line_reading.specs.Lines.{Line, whole_part}
use Rattle.request_loop.specs.Moments.{ClockGives}
use Rattle.register_history.specs.Opened.{Opens}
use Rattle.line_service.specs.Outside.{Course, Outside, RunLeads}
use Rattle.line_reading.specs.Replies.{reply_texts}
use Rattle.line_reading.specs.LineRuns.{asks_of_lines}
use Rattle.line_service.specs.Runs.{AnswersCutShort, AnswersInBytes}
use Rattle.line_reading.specs.Inputs.{run_limit}
use Rattle.line_reading.specs.declared.stop.Stop.{Stop}
use Rattle.line_reading.specs.declared.stop.Stop.TheVariants as stops

-- ---- status by status

-- The lines were answered at the moments of the run, from its first office to its last. The bytes that were written are
-- the texts of the replies, in order.
abbrev pub AnswersLines : List Line → Course → Type 0
AnswersLines asked_lines course =
    AnswersInBytes course.first (asks_of_lines asked_lines) course.moments course.replies course.written course.last

-- A prefix of the lines was answered in this way, and no line after it. Of the last reply's text perhaps only a prefix
-- was written.
abbrev pub AnswersSome : List Line → Course → Type 0
AnswersSome all_lines course =
    (front : List Line) × (rest : List Line) × (all_lines ≡ front ++ rest)
    × AnswersCutShort course.first (asks_of_lines front) course.moments course.replies
    course.written course.last

-- Fewer bytes were read than the number that ends a run.
abbrev pub IsShortRun : Course → Type 0
IsShortRun course = length course.read < run_limit

-- Status 0: the input was read to its end, which came before the limit, and all its lines were answered.
abbrev pub ReadsAll : Course → Outside → Type 0
ReadsAll course after = IsShortRun course × IsAtEnd after.left × AnswersLines (lines course.read) course

-- Status 3, a read failed: the lines that had ended were answered.
abbrev pub StopsReading : Course → Type 0
StopsReading course = IsShortRun course × AnswersLines (lines (whole_part course.read)) course

-- Status 4, a write failed, and status 6, memory ran out: a prefix of the lines that had ended was answered. The
-- replies were written, and of the last one's text perhaps only a prefix. If the input was read to its end, its last
-- line had ended too.
abbrev pub StopsWriting : Course → Outside → Type 0
StopsWriting course after =
    IsShortRun course × (AnswersSome (lines (whole_part course.read)) course
    ⊎ (IsAtEnd after.left × AnswersSome (lines course.read) course))

-- Status 8, the input is too long: as many bytes were read as end a run. Their last part is at least one byte and at
-- most as many as one read gives. All lines that had ended before this part were answered.
abbrev pub StopsAtLimit : Course → Type 0
StopsAtLimit course =
    (before : List ℕ) × (last : List ℕ) × (course.read ≡ before ++ last) × (length course.read ≡ run_limit)
    × (0 < length last) × (length last ≤ read_limit) × AnswersLines (lines (whole_part before)) course

-- How a run over lines ends, by its status.
abbrev pub EndsRunWith : ℕ → Course → Outside → Type 0
EndsRunWith status course after =
    ((status ≡ 0) × ReadsAll course after)
    ⊎ ((status ≡ 3) × StopsReading course)
    ⊎ ((status ≡ 4) × StopsWriting course after)
    ⊎ ((status ≡ 6) × StopsWriting course after)
    ⊎ ((status ≡ 8) × StopsAtLimit course)

-- What a run over lines, starting with this office, does to the outside, and how it ends.
pub record RunsFrom (from : OfficeState) (before after : Outside) (status : ℕ) : Type 0 where
  pub course : Course
  pub first : course.first ≡ from
  pub leads : RunLeads before course after
  pub ends : EndsRunWith status course after

-- ---- a store that is opened, and one that is not

-- Lines were answered, starting with the office that was opened.
pub record OpensAndRuns (may : Option KeptTables → Type 0) (before after : Outside)
    (status : ℕ) : Type 0 where
  pub first : OfficeState
  pub opened : Opens may before.kept after.kept first
  pub runs : RunsFrom first before after status

-- The first difference between what the keeper has and what its entries leave, as it is written. It has three lines:
-- the number of its entry, what is kept, and what the replay makes.
abbrev pub damage_text : Damage → Text
damage_text damage = codes "STORE_DAMAGED " ++ (decimal damage.entry
    ++ (codes "\nkept " ++ (damage.kept ++ (codes "\nreplayed " ++ (damage.replayed ++ codes "\n")))))

-- The first difference, if the keeper tells its tables, was written in full, or only a proper prefix of its text was.
pub record WritesDamage {E : Type 0} (before after : Outside) (result : Result (Unit {0}) E) : Type 0 where
  pub damage : Damage
  pub is : IfSome after.kept (λ tables. IsDamage standard tables damage)
  pub written : IsSent before.written after.written (damage_text damage) result

-- Nothing was read, and the keeper has what it had. Status 5: a call of the keeper failed, which is so for no other
-- status. Status 6: memory ran out. Status 7: what the keeper has is damaged, and this was reported, perhaps only in
-- part.
pub record FailsToOpen (before after : Outside) (status : ℕ) : Type 0 where
  pub unread : after.left ≡ before.left
  pub unasked : after.given ≡ before.given
  pub kept : TablesStay before.kept after.kept
  pub faultless : status ≢ 5 → after.faults ≡ before.faults
  pub ends : ((status ≡ 5) × Rose before.faults after.faults × (after.written ≡ before.written))
      ⊎ ((status ≡ 6) × (after.written ≡ before.written))
      ⊎ ((status ≡ 6) × WritesDamage {E = Unit {0}} before after (Err (tt {0})))
      ⊎ ((status ≡ 7) × (told : Result (Unit {0}) (Unit {0})) × WritesDamage before after told)

-- A run that ends with one of these statuses has opened no store: 5 and 7.
abbrev pub IsUnopened : ℕ → Type 0
IsUnopened status = (status ≡ 5) ⊎ (status ≡ 7)

-- What is written about damage, and how the command stops then. It stops as damaged if the output took the text or
-- failed, and as out of memory if there was no memory for writing.
abbrev pub IsDamageWritten : Option (List ℕ) → Option (List ℕ) → Text → Stop → Type 0
IsDamageWritten before after text stop =
    ((stop ≡ stops.StoreDamaged) × (told : Result (Unit {0}) (Unit {0})) × IsSent before after text told)
    ⊎ ((stop ≡ stops.NoMemory) × WritesFront before after text)

-- What a run over lines does: the store is opened and the lines are answered, or the store isn't opened.
abbrev pub RunsLines : (Option KeptTables → Type 0) → Outside → Outside → ℕ → Type 0
RunsLines may before after status = OpensAndRuns may before after status ⊎ FailsToOpen before after status

-- ---- if nothing fails

-- All of these bytes were read, and their lines were answered at moments of the clock, starting with the office that
-- was opened. The replies were written, with status 0. If the keeper doesn't fail and memory never runs out, the
-- replies are those that the lines and the moments determine.
pub record IsComplete (may : Option KeptTables → Type 0) (bytes : List ℕ) (before after : Outside)
    (status : ℕ) : Type 0
  where
    pub ok : status ≡ 0
    pub first : OfficeState
    pub opened : Opens may before.kept after.kept first
    pub ended : IsAtEnd after.left
    pub moments : List ℤ
    pub gives : ClockGives before.given after.given moments
    pub replies : List Reply
    pub office : OfficeState
    pub session : OfficeSession first (asks_of_lines (lines bytes)) moments replies office
    pub writes : Grows before.written after.written (reply_texts (asks_of_lines (lines bytes)) replies)
    pub keeps : Keeps after.kept office
    pub exact : ¬ (Rose before.faults after.faults) → ¬ (Contains replies (Words NoMemory))
        → replies ≡ replies_to first (asks_of_lines (lines bytes)) moments
