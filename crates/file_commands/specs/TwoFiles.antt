-- What a command does that reads two files to their ends and writes the result. This project's profile.
use Rattle.std.specs.Prelude.{◌≡◌, ◌<◌, ◌⊎◌, ℕ, List, length, Option, Some, Result, Ok, Err}
use Rattle.lei_code.specs.Texts.{Text}
use Rattle.lei_outside.specs.Faults.{FailsLast}
use Rattle.lei_outside.specs.Told.{Grows, WritesFront}
use Rattle.file_commands.specs.Files.{IsFileStop, IsReadWhole, file_limit}
use Rattle.line_reading.specs.Status.{stop_status}
use Rattle.line_reading.specs.declared.stop.Stop.{Stop}

-- ---- what is written

-- The outcome for two files: a text, or the line that says why there is none.
abbrev pub FileOutcome : Type 0
FileOutcome = Result Text Text

-- The bytes that are written for it.
abbrev pub file_text : FileOutcome → Text
file_text (Ok text) = text
file_text (Err line) = line

-- The status after that: 0, or 2 if there is no text.
abbrev pub outcome_status : FileOutcome → ℕ
outcome_status (Ok text) = 0
outcome_status (Err line) = 2

-- The whole outcome was written; or a write failed, or memory ran out, and a front of it was written but not all.
abbrev pub WritesOutcome : FileOutcome → Option (List ℕ) → Option (List ℕ) → ℕ → Type 0
WritesOutcome outcome before after status =
    ((status ≡ outcome_status outcome) × Grows before after (file_text outcome))
    ⊎ ((status ≡ 4) × WritesFront before after (file_text outcome))
    ⊎ ((status ≡ 6) × WritesFront before after (file_text outcome))

-- The outcome for the bytes of two files, by a rule.
abbrev pub Rule : Type 1
Rule = Text → Text → FileOutcome → Type 0

-- The outcome for two files was written; or nothing was written, since memory for it ran out.
abbrev pub WritesResultOf : Rule → Text → Text → Option (List ℕ) → Option (List ℕ) → ℕ → Type 0
WritesResultOf rule first second before after status =
    ((outcome : FileOutcome) × rule first second outcome × WritesOutcome outcome before after status)
    ⊎ ((status ≡ 6) × (after ≡ before))

-- ---- what is read

-- What is left of the two files and the output so far, at one time.
pub record Files : Type 0 where
  pub first : Option (List ℕ)
  pub second : Option (List ℕ)
  pub written : Option (List ℕ)

-- The three of these devices.
abbrev pub files : Option (List ℕ) → Option (List ℕ) → Option (List ℕ) → Files
files first second written = record { first = first; second = second; written = written }

-- The first file wasn't read to its end, and the second not at all; or the first was, and the second not to its end.
abbrev pub AreLeft : Files → Files → Stop → Type 0
AreLeft before after stop =
    (IsFileStop before.first after.first stop × (after.second ≡ before.second))
    ⊎ ((first : List ℕ) × IsReadWhole before.first after.first first
    × IsFileStop before.second after.second stop)

-- A read of one of two sources failed, and nothing was read after it; no read of the other one failed.
abbrev pub FailsOneOf : {S T : Type 0} → (S → Option (List ℕ)) → (S → ℕ) → S → S → (T → Option (List ℕ))
    → (T → ℕ) → T → T → Type 0
FailsOneOf left faults old new other_left other_faults other_old other_new =
    (FailsLast left faults old new × (other_faults other_new ≡ other_faults other_old))
    ⊎ ((faults new ≡ faults old) × FailsLast other_left other_faults other_old other_new)

-- If `fault` holds, a read of one of two sources failed, and nothing was read from it after that. The count of faults
-- of the other one is then unchanged. If `fault` doesn't hold, both counts are unchanged.
pub record OneFailsIf {S T : Type 0} (fault : Type 0) (left : S → Option (List ℕ)) (faults : S → ℕ) (old new : S)
    (other_left : T → Option (List ℕ)) (other_faults : T → ℕ) (other_old other_new : T) : Type 0 where
  pub last : fault → FailsOneOf left faults old new other_left other_faults other_old other_new
  pub none : ¬ fault → faults new ≡ faults old
  pub other_none : ¬ fault → other_faults other_new ≡ other_faults other_old

-- ---- how the command ends

-- Both files were read to their ends, and the outcome was written.
pub record AnswersFiles (rule : Rule) (before after : Files) (status : ℕ) : Type 0 where
  pub first : List ℕ
  pub second : List ℕ
  pub first_read : IsReadWhole before.first after.first first
  pub second_read : IsReadWhole before.second after.second second
  pub tells : WritesResultOf rule first second before.written after.written status

-- A file wasn't read to its end, and nothing was written.
pub record LeavesFiles (before after : Files) (status : ℕ) : Type 0 where
  pub stop : Stop
  pub status_is : status ≡ stop_status stop
  pub left : AreLeft before after stop
  pub unwritten : after.written ≡ before.written

-- What the command does, by its status.
abbrev pub DoesWithFiles : Rule → Files → Files → ℕ → Type 0
DoesWithFiles rule before after status = AnswersFiles rule before after status ⊎ LeavesFiles before after status

-- Files that are told and short enough are read and answered, and the outcome is written, with status 0 or 2.
abbrev pub CompletesFiles : Rule → Files → Files → ℕ → Type 0
CompletesFiles rule before after status =
    (first second : List ℕ) → before.first ≡ Some first → before.second ≡ Some second
    → length first < file_limit → length second < file_limit
    → (outcome : FileOutcome) × rule first second outcome
    × (status ≡ outcome_status outcome)
    × Grows before.written after.written (file_text outcome)
