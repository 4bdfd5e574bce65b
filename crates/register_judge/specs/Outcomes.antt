-- What `judge_all` returns for the judgement of items.
use Rattle.std.specs.Prelude.{◌≡◌, ℕ, List, Option, Result, Ok, Err, MatchResult, ⊤}
use Rattle.lei_records.specs.declared.item.Item.{Item}
use Rattle.lei_records.specs.declared.view.CellKey.{CellKey}
use Rattle.lei_records.specs.declared.view.RowKey.{RowKey}
use Rattle.register_judge.specs.declared.judge.ItemOutcome.{ItemOutcome}
use Rattle.register_judge.specs.declared.outcome.JudgeStop.{JudgeStop}
use Rattle.register_judge.specs.declared.outcome.Outcome.{Outcome}
use Rattle.register_judge.specs.declared.outcome.Verdict.{Verdict}
use Rattle.register_judge.specs.Judging.{Judgement}
use Rattle.register_judge.specs.Taking.{Taken}

-- The outcome has exactly these verdicts, writes and number of new records.
pub record Shows (outcome : Outcome) (verdicts : List Verdict) (writes : List (RowKey × Option Item))
    (new_records : ℕ)
    : Type 0 where
  pub verdicts_are : outcome.verdicts ≡ verdicts
  pub writes_are : outcome.writes ≡ writes
  pub new_are : outcome.new_records ≡ new_records

-- The outcome is the result of taking the items, or memory ran out.
abbrev pub TakesItems : Result Outcome JudgeStop → Taken → Type 0
TakesItems result taken = MatchResult result
    (λ outcome. Shows outcome taken.verdicts taken.writes taken.new_records)
    (λ stop. stop ≡ JudgeStop.NoMemory)

-- Judging stopped at the cell that the view lacks, or because memory ran out.
abbrev pub Stops : {X : Type 0} → JudgeStop → Result X CellKey → Type 0
Stops (JudgeStop.NeedCell key) judged = judged ≡ Err key
Stops JudgeStop.NoMemory judged = ⊤

-- The outcome is the judgement. Or judging stopped at the first cell that is needed and that the view lacks, or because
-- memory ran out.
abbrev pub Judges : Result Outcome JudgeStop → Result Judgement CellKey → Type 0
Judges result judged = MatchResult result
    (λ outcome. MatchResult judged (λ j. Shows outcome j.verdicts j.writes j.new_records) (λ key. ⊥))
    (λ stop. Stops stop judged)

-- The same for one item.
abbrev pub JudgesItem : Result ItemOutcome JudgeStop → Result ItemOutcome CellKey → Type 0
JudgesItem result judged = MatchResult result (λ j. judged ≡ Ok j) (λ stop. Stops stop judged)
