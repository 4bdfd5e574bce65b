-- How a run ends, by its command and its status.
use Rattle.std.specs.Prelude.{◌≡◌, ◌<◌, ℕ, List, ◌⊎◌, length, Option, Some, Result, Ok}
use Rattle.lei_values.specs.Count.{Rose}
use Rattle.lei_values.specs.KeptTables.{KeptTables}
use Rattle.lei_outside.specs.Told.{Grows, WritesFront}
use Rattle.lei_code.specs.Fault.{fault_of}
use Rattle.lei_code.specs.Texts.{Text}
use Rattle.file_commands.specs.Codes.{check_line, digits_fault, digits_line, code_status, WritesLine}
use Rattle.line_service.specs.Ends.{IsComplete, RunsLines, WritesDamage}
use Rattle.line_service.specs.Outside.{Outside}
use Rattle.line_reading.specs.Inputs.{run_limit}
use Rattle.register_demo.specs.Session.{IsSummary}
use Rattle.file_commands.specs.Applying.{Patches}
use Rattle.file_commands.specs.Grouping.{Reports}
use Rattle.file_commands.specs.Mirroring.{CompletesMirror, Mirrors}
use Rattle.file_commands.specs.Searching.{CompletesSearch, Searches}
use Rattle.file_commands.specs.Sides.{sides}
use Rattle.file_commands.specs.TwoFiles.{CompletesFiles, DoesWithFiles, files}
use Rattle.program_words.specs.Words.{Invocation, to_answer_lines, to_check, to_make_digits, to_make_up, to_mirror, to_patch, to_report, to_search, to_serve}

-- ---- a made-up register

-- The summary was written in full. Or a write failed or memory ran out, and only a proper prefix of it was written. Or
-- nothing was written, because there was no memory for the summary.
abbrev pub WritesSummary : ℕ → Option (List ℕ) → Option (List ℕ) → ℕ → Type 0
WritesSummary records before after status =
    ((text : Text) × IsSummary records text
    × (((status ≡ 0) × Grows before after text)
    ⊎ ((status ≡ 4) × WritesFront before after text)
    ⊎ ((status ≡ 6) × WritesFront before after text)))
    ⊎ ((status ≡ 6) × (after ≡ before))

-- ---- any command

-- What was meant was done, with this status. A run over lines was made, with a keeper that may tell such tables. Or the
-- line of a text was written. Or inputs were read, of which the second is a separate argument, and the result was
-- written. Or the summary of a made-up register was written. No server runs in this way.
abbrev pub Does : (Option KeptTables → Type 0) → Invocation → Outside → Outside → Option (List ℕ)
    → Option (List ℕ) → ℕ → Type 0
Does may to_answer_lines before after second_before second_after status = RunsLines may before after status
Does may to_serve before after second_before second_after status = ⊥
Does may (to_check text) before after second_before second_after status =
    WritesLine (fault_of text) (check_line text) before.written after.written status
Does may (to_make_digits text) before after second_before second_after status =
    WritesLine (digits_fault text) (digits_line text) before.written after.written status
Does may (to_patch sheet form) before after second_before second_after status =
    DoesWithFiles (Patches sheet form) (files before.left second_before before.written)
    (files after.left second_after after.written) status
Does may (to_search form) before after second_before second_after status =
    Searches form (files before.left second_before before.written)
    (files after.left second_after after.written) status
Does may to_mirror before after second_before second_after status =
    Mirrors (sides before.left before.written) (sides after.left after.written) status
Does may (to_report who form) before after second_before second_after status =
    DoesWithFiles (Reports who form) (files before.left second_before before.written)
    (files after.left second_after after.written) status
Does may (to_make_up records) before after second_before second_after status =
    WritesSummary records before.written after.written status

-- What was meant was done, with this status. Or there was no memory to read the words, and everything is as it was.
abbrev pub DoesIfRead : (Option KeptTables → Type 0) → Invocation → Outside → Outside → Option (List ℕ)
    → Option (List ℕ) → ℕ → Type 0
DoesIfRead may what before after second_before second_after status =
    Does may what before after second_before second_after status
    ⊎ ((status ≡ 6) × (after ≡ before) × (second_after ≡ second_before))

-- If no source and no sink fails and memory doesn't run out, everything is done. An input of lines that is told and
-- short enough is answered in full. There are two exceptions. A call of the keeper failed while its store was opened,
-- or the store is damaged, which is reported in full. The line of a text is written, with status 0 or 2. Files that are
-- told and short enough are answered, with status 0 or 2. A register is made up and its summary is written, with
-- status 0.
abbrev pub CompletesRun : (Option KeptTables → Type 0) → Invocation → Outside → Outside → Option (List ℕ)
    → Option (List ℕ) → ℕ → Type 0
CompletesRun may to_answer_lines before after second_before second_after status =
    (bytes : List ℕ) → before.left ≡ Some bytes → length bytes < run_limit
    → IsComplete may bytes before after status
    ⊎ ((status ≡ 5) × Rose before.faults after.faults)
    ⊎ ((status ≡ 7) × WritesDamage {E = Unit {0}} before after (Ok (tt {0})))
CompletesRun may to_serve before after second_before second_after status = ⊥
CompletesRun may (to_check text) before after second_before second_after status = status
    ≡ code_status (fault_of text)
CompletesRun may (to_make_digits text) before after second_before second_after status = status
    ≡ code_status (digits_fault text)
CompletesRun may (to_patch sheet form) before after second_before second_after status =
    CompletesFiles (Patches sheet form) (files before.left second_before before.written)
    (files after.left second_after after.written) status
CompletesRun may (to_search form) before after second_before second_after status =
    CompletesSearch form (files before.left second_before before.written)
    (files after.left second_after after.written) status
CompletesRun may to_mirror before after second_before second_after status =
    CompletesMirror (sides before.left before.written) (sides after.left after.written) status
CompletesRun may (to_report who form) before after second_before second_after status =
    CompletesFiles (Reports who form) (files before.left second_before before.written)
    (files after.left second_after after.written) status
CompletesRun may (to_make_up records) before after second_before second_after status =
    (status ≡ 0) × ((text : Text) × IsSummary records text × Grows before.written after.written text)
