-- The judgement of items from the first to the last, given what was judged so far.
use Rattle.std.specs.Prelude.{◌≡◌, ℕ, ◌+◌, List, [], ◌∷◌, ◌++◌, Bool, true, false, if◌then◌else◌, Option, Result, Ok, Err, length, ◌≤◌}
use Rattle.std.proofs.Common.{refl, sym, ap, subst, ◌∙◌, append_assoc, append-nil, zero-add, add-zero, add-one, add_assoc, drop, get_or, ◌<◌, arith}
use Rattle.std.proofs.Math.Seq.{drop-cons}
use Rattle.std.proofs.lemmas.List.{drop_all}
use Rattle.lei_records.specs.declared.item.Item.{Item}
use Rattle.lei_records.specs.declared.item.Readied.{Readied}
use Rattle.lei_records.specs.declared.view.CellKey.{CellKey}
use Rattle.lei_records.specs.declared.view.RowKey.{RowKey}
use Rattle.lei_records.specs.Cells.{Cells}
use Rattle.register_judge.specs.declared.judge.ItemOutcome.{ItemOutcome}
use Rattle.register_judge.specs.declared.outcome.JudgeStop.{JudgeStop}
use Rattle.register_judge.specs.declared.outcome.Outcome.{Outcome}
use Rattle.register_judge.specs.declared.outcome.Verdict.{Verdict}
use Rattle.register_judge.specs.declared.sitting.Sitting.{Sitting}
use Rattle.register_judge.specs.Judging.{Judgement, judge_item, judge_items, cells_after, count_after, before, put_writes, records_added}
use Rattle.register_judge.specs.Outcomes.{Judges, Shows, Stops}
use Rattle.register_judge.specs.Sittings.{is_at_limit}
use Rattle.register_judge.specs.Taking.{writes_of}

abbrev pub front : List Verdict → List (RowKey × Option Item) → ℕ → Judgement → Judgement
front verdicts writes new_records rest = record {
  verdicts = verdicts ++ rest.verdicts;
  writes = writes ++ rest.writes;
  new_records = new_records + rest.new_records;
}

-- what was judged so far, followed by the judgement of the items left
abbrev pub with_front : List Verdict → List (RowKey × Option Item) → ℕ → Result Judgement CellKey → Result Judgement CellKey
with_front verdicts writes new_records (Err key) = Err key
with_front verdicts writes new_records (Ok rest) = Ok (front verdicts writes new_records rest)

-- at the start nothing was judged
pub with_front-nil : (rest : Result Judgement CellKey) → with_front [] [] 0 rest ≡ rest
with_front-nil (Err key) = refl
with_front-nil (Ok rest) = λ i. Ok (record { verdicts = rest.verdicts; writes = rest.writes; new_records = zero-add rest.new_records i })

-- one item moves from those left to those that were judged
moved : (verdicts : List Verdict) (writes : List (RowKey × Option Item)) (n : ℕ) (judged : ItemOutcome) (item : Readied) (rest : Result Judgement CellKey)
    → with_front verdicts writes n (before (Ok judged) item rest)
    ≡ with_front (verdicts ++ judged.verdict ∷ []) (writes ++ writes_of judged.verdict item) (n + (if judged.new then 1 else 0)) rest
moved verdicts writes n judged item (Err key) = refl
moved verdicts writes n judged item (Ok rest) = λ i. Ok (record {
  verdicts = sym (append_assoc verdicts (judged.verdict ∷ []) rest.verdicts) i;
  writes = sym (append_assoc writes (writes_of judged.verdict item) rest.writes) i;
  new_records = sym (add_assoc n (if judged.new then 1 else 0) rest.new_records) i;
})

-- what was judged with one more item, followed by the judgement of the items that are then left
pub with_front-step : (cells later : Cells) (count more : ℕ) (sitting : Sitting) (verdicts verdicts' : List Verdict) (writes writes' : List (RowKey × Option Item)) (n n' : ℕ)
    (judged : ItemOutcome) (item : Readied) (items left_items : List Readied) (all : Result Judgement CellKey)
    → left_items ≡ item ∷ items
    → judge_item cells (is_at_limit sitting count) sitting item ≡ Ok judged
    → later ≡ put_writes (writes_of judged.verdict item) cells
    → more ≡ count + records_added judged.verdict judged.new
    → verdicts' ≡ verdicts ++ judged.verdict ∷ []
    → writes' ≡ writes ++ writes_of judged.verdict item
    → n' ≡ n + (if judged.new then 1 else 0)
    → with_front verdicts writes n (judge_items cells count sitting left_items) ≡ all
    → with_front verdicts' writes' n' (judge_items later more sitting items) ≡ all
unfolding judge_items
with_front-step cells later count more sitting verdicts verdicts' writes writes' n n' judged item items left_items all cut is put_is more_is verdicts_are writes_are n_is so_far =
    let rest : Result ItemOutcome CellKey → Result Judgement CellKey =
    λ j. before j item (judge_items (cells_after j item cells) (count_after j count) sitting items) in
    (λ i. with_front (verdicts_are i) (writes_are i) (n_is i) (judge_items (put_is i) (more_is i) sitting items))
    ∙ (sym (moved verdicts writes n judged item _) ∙ (sym (ap (λ j. with_front verdicts writes n (rest j)) is)
    ∙ (sym (ap (λ xs. with_front verdicts writes n (judge_items cells count sitting xs)) cut) ∙ so_far)))

-- if judging stops at an item, it stops for all
pub with_front-stop : (cells : Cells) (count : ℕ) (sitting : Sitting) (verdicts : List Verdict) (writes : List (RowKey × Option Item)) (n : ℕ)
    (stop : JudgeStop) (item : Readied) (items left_items : List Readied) (all : Result Judgement CellKey)
    → left_items ≡ item ∷ items
    → Stops stop (judge_item cells (is_at_limit sitting count) sitting item)
    → with_front verdicts writes n (judge_items cells count sitting left_items) ≡ all
    → Stops stop all
unfolding judge_items
with_front-stop cells count sitting verdicts writes n JudgeStop.NoMemory item items left_items all cut stops so_far = tt
with_front-stop cells count sitting verdicts writes n (JudgeStop.NeedCell key) item items left_items all cut stops so_far =
    sym so_far ∙ (ap (λ xs. with_front verdicts writes n (judge_items cells count sitting xs)) cut ∙ ap (λ j. with_front verdicts writes n (before j item (judge_items (cells_after j item cells) (count_after j count) sitting items))) stops)

-- at the end what was judged is the outcome
pub with_front-end : (cells : Cells) (count : ℕ) (sitting : Sitting) (verdicts : List Verdict) (writes : List (RowKey × Option Item)) (n : ℕ)
    (outcome : Outcome) (left_items : List Readied) (all : Result Judgement CellKey)
    → left_items ≡ []
    → Shows outcome verdicts writes n
    → with_front verdicts writes n (judge_items cells count sitting left_items) ≡ all
    → Judges (Ok outcome) all
unfolding judge_items
with_front-end cells count sitting verdicts writes n outcome left_items all none shows so_far =
    let P : Result Judgement CellKey → Type 0 = λ r. Judges (Ok outcome) r in
    subst P (sym (ap (λ xs. with_front verdicts writes n (judge_items cells count sitting xs)) none) ∙ so_far) (record {
      verdicts_are = shows.verdicts_are ∙ sym (append-nil verdicts);
      writes_are = shows.writes_are ∙ sym (append-nil writes);
      new_are = shows.new_are ∙ sym (add-zero n);
    })

-- the items left start with the next one
pub next_item : (items : List Readied) (i : ℕ) (item : Readied) → i < length items → item ≡ get_or items i item → drop i items ≡ item ∷ drop (i + 1) items
next_item items i item within is =
    drop-cons items i item within ∙ (λ j. sym is j ∷ drop (sym (add-one i) j) items)

-- none is left after the last one
pub nothing_left : (items : List Readied) (i : ℕ) → length items ≤ i → drop i items ≡ []
nothing_left items i past = drop_all i items past

-- at most one more is new with each item
pub few_more : (new : Bool) (n i m : ℕ) → n ≤ i → m ≡ n + (if new then 1 else 0) → m ≤ i + 1
few_more true n i m few is = omega arith
few_more false n i m few is = omega arith

-- at most one more is added with each item
pub few_added : (verdict : Verdict) (new : Bool) (n i m : ℕ) → n ≤ i → m ≡ n + records_added verdict new → m ≤ i + 1
few_added Verdict.Accepted true n i m few is = omega arith
few_added Verdict.Accepted false n i m few is = omega arith
few_added (Verdict.Rejected check) new n i m few is = omega arith
