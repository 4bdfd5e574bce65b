-- How commands that serve an input end.
use Rattle.std.proofs.Common.{◌≡◌, ◌≢◌, ◌⊎◌, ◌<◌, ◌≤◌, ℕ, ℤ, List, length, Option, Some, inl, inr, refl, subst, ◌∙◌, arith}
use Rattle.line_reading.specs.declared.framing.NoEnd.{NoEnd}
use Rattle.request_loop.specs.Frames.{Rules}
use Rattle.request_loop.specs.Serving.{AnswersToEnd, EndsWith, Progress, Serves}
use Rattle.request_loop.specs.declared.frames.Ended.{Ended}
use Rattle.line_reading.specs.Inputs.{run_limit}
use Rattle.line_reading.specs.Status.{end_status, ended_as}
use Rattle.file_commands.proofs.TwoFilesRead.{told_whole, told_within}

-- ---- the statuses

pub ended_status : (ended : Ended NoEnd)
    → (end_status (ended_as ended) ≤ 4) ⊎ (end_status (ended_as ended) ≡ 6) ⊎ (end_status (ended_as ended) ≡ 8)
ended_status Ended.AtEnd = inl (omega arith)
ended_status (Ended.By end) = elim end [ ]
ended_status Ended.ReadFault = inl (omega arith)
ended_status Ended.WriteFault = inl (omega arith)
ended_status Ended.InputLimit = inr (inr refl)
ended_status Ended.NoMemory = inr (inl refl)

pub at_status : (status other : ℕ) → status ≡ other → (other ≤ 4) ⊎ (other ≡ 6) ⊎ (other ≡ 8)
    → (status ≤ 4) ⊎ (status ≡ 6) ⊎ (status ≡ 8)
at_status status other is (inl low) = inl (omega (arith, is, low))
at_status status other is (inr (inl six)) = inr (inl (is ∙ six))
at_status status other is (inr (inr eight)) = inr (inr (is ∙ eight))

-- ---- if nothing fails

-- all of a told input was answered
pub served_to_end : {A W P : Type 0} (step : A → W → List ℤ → P → A → Type 0) (rules : Rules W P NoEnd)
    (start now : Progress A) (queries : List ℕ) (left left_now : Option (List ℕ)) (status : ℕ) (ended : Ended NoEnd)
    → left ≡ Some queries → length queries < run_limit → status ≢ 3 → status ≢ 4 → status ≢ 6 → status ≡ end_status (ended_as ended)
    → Serves step rules run_limit start left now left_now ended
    → (status ≡ 0) × AnswersToEnd step rules start queries now
served_to_end step rules start now queries left left_now status ended told short n3 n4 n6 is serves =
    by ended is serves.ends
  where
    by : (ended : Ended NoEnd) → status ≡ end_status (ended_as ended)
        → EndsWith step rules run_limit ended start serves.bytes left_now now
        → (status ≡ 0) × AnswersToEnd step rules start queries now
    by Ended.AtEnd at ends = (
      at,
      subst (λ bytes. AnswersToEnd step rules start bytes now)
          (told_whole queries serves.bytes left left_now told serves.takes ends.1) ends.2,
    )
    by (Ended.By end) at ends = elim end [ ]
    by Ended.ReadFault at ends = absurd (n3 at)
    by Ended.WriteFault at ends = absurd (n4 at)
    by Ended.InputLimit at ends =
        let within = told_within queries serves.bytes left left_now told serves.takes in
        absurd (omega (arith, within, short, ends.3))
    by Ended.NoMemory at ends = absurd (n6 at)
