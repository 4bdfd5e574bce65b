-- How an outcome depends on the cells that it lists, and which cell an upload lacks.
use Rattle.std.specs.Prelude.{◌≡◌, ℕ, ◌+◌, ℤ, List, ◌∷◌, ◌++◌, Option, Some, None, Ok, ⊤}
use Rattle.std.specs.List.{Contains}
use Rattle.lei_code.specs.Texts.{Lei}
use Rattle.lei_records.specs.declared.item.Readied.{Readied}
use Rattle.lei_records.specs.declared.view.CellKey.{CellKey}
use Rattle.lei_records.specs.Cells.{Cells}
use Rattle.lei_records.specs.Tables.{IsSoundTable, Table, record_count}
use Rattle.cell_reads.specs.Needs.{needs}
use Rattle.cell_reads.specs.Notes.{NotesCells}
use Rattle.cell_reads.specs.Reads.{Agrees, AnswersReads, Listed}
use Rattle.register_judge.specs.declared.outcome.Outcome.{Outcome}
use Rattle.lei_records.specs.RuleNumbers.{newest}
use Rattle.register_judge.specs.declared.sitting.Sitting.{Sitting}
use Rattle.register_judge.specs.Judging.{Judgement, judge_items, put_writes}
use Rattle.register_judge.specs.Outcomes.{Judges, TakesItems}
use Rattle.register_judge.specs.Sittings.{sitting_by}
use Rattle.register_judge.specs.Taking.{take}

-- The outcome is that of the items on each sound table that agrees with its reads and has room for this many more
-- records.
abbrev pub IsAgreed : Outcome → ℕ → ℤ → Lei → List Readied → Type 0
IsAgreed outcome room today issuer items = (table : Table) → IsSoundTable table → Agrees outcome.reads table
    → TakesItems (Ok outcome) (take table (sitting_by newest (record_count table + room) today issuer) items)

-- The view answers what the outcome lists as read, and each view that answers this gives the same outcome.
pub record IsByReads (outcome : Outcome) (view : Cells) (sitting : Sitting) (items : List Readied) : Type 0 where
  pub read : AnswersReads outcome.reads view
  pub alike : (cells : Cells) → AnswersReads outcome.reads cells
      → Judges (Ok outcome) (judge_items cells 0 sitting items)

-- What noting cells adds, if cells are listed. If they aren't listed before, they aren't afterwards.
abbrev pub NotesMore : Option Listed → Option Listed → Cells → List CellKey → Type 0
NotesMore None None view keys = ⊤
NotesMore None (Some new) view keys = ⊥
NotesMore (Some old) None view keys = ⊥
NotesMore (Some old) (Some new) view keys = NotesCells view old new keys

-- One of the items needs the cell over the view after the accepted items before it are put. The count of records starts
-- at `count`.
pub record IsNeededIn (cells : Cells) (count : ℕ) (sitting : Sitting) (items : List Readied) (key : CellKey)
    : Type 0 where
  pub earlier : List Readied
  pub item : Readied
  pub later : List Readied
  pub are : items ≡ earlier ++ item ∷ later
  pub judged : Judgement
  pub comes_to : judge_items cells count sitting earlier ≡ Ok judged
  pub needed : Contains (needs sitting.rules (put_writes judged.writes cells) item) key
