-- What the command that searches the names of a golden copy does.
use Rattle.std.proofs.Common.{◌≡◌, ◌≢◌, ◌⊎◌, ◌<◌, ◌≤◌, ℕ, List, length, Option, Some, inl, inr, ap, subst, ◌∙◌, arith}
use Rattle.lei_code.specs.Texts.{Text}
use Rattle.register_words.specs.declared.sheets.Form.{Form}
use Rattle.register_words.specs.declared.sheets.Sheet.{Sheet}
use Rattle.copy_csv.specs.declared.heads.CopyRead.{CopyRead}
use Rattle.copy_forms.specs.Files.{IsCopyRead}
use Rattle.delta_apply.specs.Applying.{IsNoCopy}
use Rattle.search_queries.specs.Searches.{SearchStep, state_of}
use Rattle.search_queries.specs.Serving.{search_progress, search_rules}
use Rattle.line_reading.specs.Inputs.{run_limit}
use Rattle.file_commands.specs.Files.{IsFileStop}
use Rattle.file_commands.specs.Searching.{AnswersAllQueries, AnswersCopy, AnswersFrom, CompletesSearch, Searches}
use Rattle.file_commands.specs.Sides.{Sides, sides}
use Rattle.line_reading.specs.Status.{stop_status}
use Rattle.file_commands.specs.TwoFiles.{Files}
use Rattle.line_reading.specs.declared.stop.Stop.{Stop}
use Rattle.file_commands.proofs.Serving.{at_status, ended_status, served_to_end}
use Rattle.file_commands.proofs.TwoFilesRead.{not_to_limit, stops_at, told_whole}

-- ---- the statuses

copy_status : (form : Form) (copy : Text) (before after : Sides) (status : ℕ) → AnswersCopy form copy before after status
    → (status ≤ 4) ⊎ (status ≡ 6) ⊎ (status ≡ 8)
copy_status form copy before after status (inl refuses) = elim refuses.tells [
  | inl told ↦ inl (omega (arith, told.0))
  | inr (inl failed) ↦ inl (omega (arith, failed.0))
  | inr (inr wanted) ↦ inr (inl wanted.0)
]
copy_status form copy before after status (inr (inl lacks)) = inr (inl lacks.is)
copy_status form copy before after status (inr (inr (read, is, answers))) = at_status status _ answers.status_is (ended_status answers.ended)

stop_statuses : (before after : Option (List ℕ)) (stop : Stop) → IsFileStop before after stop
    → (stop_status stop ≤ 4) ⊎ (stop_status stop ≡ 6) ⊎ (stop_status stop ≡ 8)
stop_statuses before after stop is = elim (stops_at before after stop is) [
  | inl read ↦ inl (let three : stop_status stop ≡ 3 = ap stop_status read in omega (arith, three))
  | inr (inl wanted) ↦ inr (inl (ap stop_status wanted))
  | inr (inr long) ↦ inr (inr (ap stop_status long.0))
]

-- the statuses of a search
pub search_status : (form : Form) (before after : Files) (status : ℕ) → Searches form before after status
    → (status ≤ 4) ⊎ (status ≡ 6) ⊎ (status ≡ 8)
search_status form before after status (inl reads) = copy_status form reads.copy _ _ status reads.answers
search_status form before after status (inr leaves) =
    at_status status _ leaves.status_is (stop_statuses before.second after.second leaves.stop leaves.left)

-- ---- if nothing fails

-- all of the told queries were answered
answers_all : (form : Form) (queries copy : Text) (before after : Files) (status : ℕ) (read : CopyRead) → IsCopyRead copy Sheet.Lei form read
    → before.first ≡ Some queries → length queries < run_limit → status ≢ 3 → status ≢ 4 → status ≢ 6
    → AnswersFrom form (state_of read) (sides before.first before.written) (sides after.first after.written) status
    → AnswersAllQueries form queries copy before after status
answers_all form queries copy before after status read is told short n3 n4 n6 answers =
    let so = served_to_end (SearchStep form) search_rules (search_progress (state_of read) before.written)
    (search_progress answers.last after.written) queries before.first after.first status answers.ended told short n3 n4 n6
    answers.status_is answers.serves in
    record { ok = so.0; read = read; is = is; last = answers.last; answers = so.1 }

-- if nothing failed and memory didn't run out, a search over a copy that is told and short is completed
pub completes_search : (form : Form) (before after : Files) (status : ℕ) → status ≢ 3 → status ≢ 4 → status ≢ 6
    → Searches form before after status → CompletesSearch form before after status
completes_search form before after status n3 n4 n6 (inl reads) = λ queries copy queries_told copy_told queries_short copy_short.
    let same = told_whole copy reads.copy before.second after.second copy_told reads.read.lost reads.read.ended in
    elim reads.answers [
      | inl refuses ↦ elim refuses.tells [
        | inl told ↦ inl (subst (λ c. IsNoCopy c Sheet.Lei form) same refuses.none, told.0, told.1)
        | inr (inl failed) ↦ absurd (n4 failed.0)
        | inr (inr wanted) ↦ absurd (n6 wanted.0)
      ]
      | inr (inl lacks) ↦ absurd (n6 lacks.is)
      | inr (inr (read, is, answers)) ↦
          (inr (answers_all form queries copy before after status read (subst (λ c. IsCopyRead c Sheet.Lei form read) same is)
          queries_told queries_short n3 n4 n6 answers))
    ]
completes_search form before after status n3 n4 n6 (inr leaves) = λ queries copy queries_told copy_told queries_short copy_short.
    elim (stops_at before.second after.second leaves.stop leaves.left) [
      | inl read ↦ absurd (n3 (leaves.status_is ∙ ap stop_status read))
      | inr (inl wanted) ↦ absurd (n6 (leaves.status_is ∙ ap stop_status wanted))
      | inr (inr long) ↦ absurd (not_to_limit copy before.second after.second copy_told copy_short long.1)
    ]
