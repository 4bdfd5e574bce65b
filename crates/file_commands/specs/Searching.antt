-- What the command that searches the names of a golden copy does. This project's profile.
use Rattle.std.specs.Prelude.{◌≡◌, ◌<◌, ◌⊎◌, ℕ, List, length, codes, Some, Err}
use Rattle.lei_code.specs.Texts.{Text}
use Rattle.lei_outside.specs.Told.{Grows}
use Rattle.register_words.specs.declared.sheets.Form.{Form}
use Rattle.register_words.specs.declared.sheets.Sheet.{Sheet}
use Rattle.copy_csv.specs.declared.heads.CopyRead.{CopyRead}
use Rattle.copy_forms.specs.Files.{IsCopyRead}
use Rattle.delta_apply.specs.Applying.{IsNoCopy}
use Rattle.request_loop.specs.Serving.{AnswersToEnd, Serves}
use Rattle.request_loop.specs.declared.frames.Ended.{Ended}
use Rattle.line_reading.specs.declared.framing.NoEnd.{NoEnd}
use Rattle.search_queries.specs.Searches.{SearchState, SearchStep, state_of}
use Rattle.search_queries.specs.Serving.{search_progress, search_rules}
use Rattle.line_reading.specs.Inputs.{run_limit}
use Rattle.file_commands.specs.Files.{IsFileStop, IsReadWhole, file_limit}
use Rattle.file_commands.specs.Sides.{Sides, StartsWithoutMemory, sides}
use Rattle.line_reading.specs.Status.{end_status, ended_as, stop_status}
use Rattle.file_commands.specs.TwoFiles.{Files, WritesOutcome}
use Rattle.line_reading.specs.declared.stop.Stop.{Stop}

-- The first input has the queries, and the second file is the copy.

-- The line that says that the file isn't a copy.
abbrev pub copy_refusal : Text
copy_refusal = codes "refused COPY_NOT_READ\n"

-- ---- by the bytes of the copy

-- The bytes aren't a copy: that is written, and no query is read.
pub record RefusesCopy (form : Form) (copy : Text) (before after : Sides) (status : ℕ) : Type 0 where
  pub none : IsNoCopy copy Sheet.Lei form
  pub unread : after.left ≡ before.left
  pub tells : WritesOutcome (Err copy_refusal) before.written after.written status

-- Queries were answered starting from this state, and how that ended gives the status.
pub record AnswersFrom (form : Form) (first : SearchState) (before after : Sides) (status : ℕ) : Type 0 where
  pub last : SearchState
  pub ended : Ended NoEnd
  pub status_is : status ≡ end_status (ended_as ended)
  pub serves : Serves (SearchStep form) search_rules run_limit (search_progress first before.written) before.left
      (search_progress last after.written) after.left ended

-- The bytes are a copy, and queries were answered starting from it.
abbrev pub AnswersQueries : Form → Text → Sides → Sides → ℕ → Type 0
AnswersQueries form copy before after status =
    (read : CopyRead) × IsCopyRead copy Sheet.Lei form read × AnswersFrom form (state_of read) before after status

-- What the command does after it has read a copy to its end.
abbrev pub AnswersCopy : Form → Text → Sides → Sides → ℕ → Type 0
AnswersCopy form copy before after status =
    RefusesCopy form copy before after status ⊎ StartsWithoutMemory before after status
    ⊎ AnswersQueries form copy before after status

-- ---- how the command ends

-- The copy wasn't read to its end: nothing is written, and no query is read.
pub record LeavesCopy (before after : Files) (status : ℕ) : Type 0 where
  pub stop : Stop
  pub status_is : status ≡ stop_status stop
  pub left : IsFileStop before.second after.second stop
  pub unread : after.first ≡ before.first
  pub unwritten : after.written ≡ before.written

-- The copy was read to its end, and then queries from the first input.
pub record ReadsCopy (form : Form) (before after : Files) (status : ℕ) : Type 0 where
  pub copy : List ℕ
  pub read : IsReadWhole before.second after.second copy
  pub answers : AnswersCopy form copy (sides before.first before.written) (sides after.first after.written) status

-- What the command does, by its status: the copy was read to its end first, or it wasn't.
abbrev pub Searches : Form → Files → Files → ℕ → Type 0
Searches form before after status = ReadsCopy form before after status ⊎ LeavesCopy before after status

-- ---- if nothing fails

-- The file is a copy, and all queries were answered, with status 0.
pub record AnswersAllQueries (form : Form) (queries copy : Text) (before after : Files) (status : ℕ) : Type 0 where
  pub ok : status ≡ 0
  pub read : CopyRead
  pub is : IsCopyRead copy Sheet.Lei form read
  pub last : SearchState
  pub answers : AnswersToEnd (SearchStep form) search_rules (search_progress (state_of read) before.written) queries
      (search_progress last after.written)

-- What the command does if queries and a copy are told and short enough. If the file isn't a copy, it is refused with
-- status 2. Otherwise all queries are answered.
abbrev pub CompletesSearch : Form → Files → Files → ℕ → Type 0
CompletesSearch form before after status =
    (queries copy : List ℕ) → before.first ≡ Some queries → before.second ≡ Some copy
    → length queries < run_limit → length copy < file_limit
    → (IsNoCopy copy Sheet.Lei form × (status ≡ 2) × Grows before.written after.written copy_refusal)
    ⊎ AnswersAllQueries form queries copy before after status
