-- The result for a copy and a delta: the copy after the delta, or why there is none.
use Rattle.std.specs.Prelude.{◌≡◌, ◌≢◌, ◌≤◌, ℕ, Bool, List, length, false, true, Result, Ok, Err, Some, ⊤}
use Rattle.lei_code.specs.Texts.{Text}
use Rattle.copy_csv.specs.declared.heads.Head.{Head}
use Rattle.copy_csv.specs.declared.rows.Change.{Change}
use Rattle.register_words.specs.declared.sheets.Form.{Form}
use Rattle.register_words.specs.declared.sheets.Sheet.{Sheet}
use Rattle.copy_csv.specs.Sheets.{SheetRow}
use Rattle.copy_forms.specs.Files.{IsCopy, IsDelta}
use Rattle.copy_forms.specs.Patching.{IsPatched}
use Rattle.copy_forms.specs.Trails.{IsSoundTrail, Publication, Trail, copy_of, delta_between, publication_at}
use Rattle.delta_apply.specs.declared.fault.ApplyFault.{ApplyFault}
use Rattle.delta_apply.specs.declared.fault.ApplyFault.TheVariants as faults

-- The bytes are the copy of a sheet in some width, with some head and some rows.
pub record IsSomeCopy (bytes : Text) (sheet : Sheet) (form : Form) : Type 0 where
  pub head : Head
  pub wide : Bool
  pub rows : List SheetRow
  pub is : IsCopy bytes sheet form head wide rows

-- The bytes aren't a copy of a sheet, whatever the head, the width and the rows are.
abbrev pub IsNoCopy : Text → Sheet → Form → Type 0
IsNoCopy bytes sheet form =
    (head : Head) (wide : Bool) (rows : List SheetRow) → IsCopy bytes sheet form head wide rows → ⊥

-- The bytes aren't a delta of a sheet, whatever the head, the width and the changes are.
abbrev pub IsNoDelta : Text → Sheet → Form → Type 0
IsNoDelta bytes sheet form =
    (head : Head) (wide : Bool) (changes : List Change) → IsDelta bytes sheet form head wide changes → ⊥

-- In JSON, a delta starts from the publication of the copy. In CSV no head is printed, so there is no condition.
abbrev pub GoesFromHead : Form → Head → Head → Type 0
GoesFromHead Form.Csv base head = ⊤
GoesFromHead Form.Json base head = base.publication ≡ head.from

-- The bytes are the copy after the delta, in the delta's width, which isn't narrower than the copy's. In JSON the delta
-- starts from the copy's publication.
pub record IsApplied (copy delta bytes : Text) (sheet : Sheet) (form : Form) : Type 0 where
  pub patched : IsPatched copy delta bytes sheet form
  pub goes_from : GoesFromHead form patched.base_head patched.head

-- The two are a copy and a delta in JSON, and the delta starts from another publication than the copy's.
pub record IsOfOtherBase (copy delta : Text) (sheet : Sheet) (form : Form)
    (publication from : ℕ) : Type 0 where
  pub in_json : form ≡ Form.Json
  pub base_head : Head
  pub base_wide : Bool
  pub rows : List SheetRow
  pub base_is : IsCopy copy sheet form base_head base_wide rows
  pub head : Head
  pub wide : Bool
  pub changes : List Change
  pub delta_is : IsDelta delta sheet form head wide changes
  pub publication_is : publication ≡ base_head.publication
  pub from_is : from ≡ head.from
  pub differ : publication ≢ from

-- The two are a copy and a delta in CSV. The copy is wide and the delta isn't. Only `lei` has files of two widths.
pub record IsOlder (copy delta : Text) (sheet : Sheet) (form : Form) : Type 0 where
  pub in_csv : form ≡ Form.Csv
  pub base_head : Head
  pub rows : List SheetRow
  pub base_is : IsCopy copy sheet form base_head true rows
  pub head : Head
  pub changes : List Change
  pub delta_is : IsDelta delta sheet form head false changes

-- The right result for a copy and a delta. The first fault that applies is right: the copy isn't one, the delta isn't
-- one, or their publications or their widths don't fit together. If none applies, the copy after the delta is right.
-- Out of memory is never a right result.
abbrev pub IsAnswer : Text → Text → Sheet → Form → Result Text ApplyFault → Type 0
IsAnswer copy delta sheet form (Ok bytes) = IsApplied copy delta bytes sheet form
IsAnswer copy delta sheet form (Err faults.CopyNotRead) = IsNoCopy copy sheet form
IsAnswer copy delta sheet form (Err faults.DeltaNotRead) = IsSomeCopy copy sheet form
    × IsNoDelta delta sheet form
IsAnswer copy delta sheet form (Err (faults.WrongBase publication from)) = IsOfOtherBase copy delta sheet form
    publication from
IsAnswer copy delta sheet form (Err faults.OlderDelta) = IsOlder copy delta sheet form
IsAnswer copy delta sheet form (Err faults.NoMemory) = ⊥

-- This holds, unless memory ran out.
abbrev pub UnlessApplyLacksMemory : Result Text ApplyFault → Type 0 → Type 0
UnlessApplyLacksMemory (Ok bytes) P = P
UnlessApplyLacksMemory (Err faults.CopyNotRead) P = P
UnlessApplyLacksMemory (Err faults.DeltaNotRead) P = P
UnlessApplyLacksMemory (Err (faults.WrongBase publication from)) P = P
UnlessApplyLacksMemory (Err faults.OlderDelta) P = P
UnlessApplyLacksMemory (Err faults.NoMemory) P = ⊤

-- Take the copy of a publication of a sound trail, and the delta from it to the same or a later one. Unless memory ran
-- out, the result is the copy of that one, byte for byte.
abbrev pub LeadsOn : Text → Text → Sheet → Form → Result Text ApplyFault → Type 0
LeadsOn copy delta sheet form result =
    (trail : Trail) → IsSoundTrail trail → length trail ≤ 1_000_000
    → (p q : ℕ) (base latest : Publication) → 1 ≤ p → p ≤ q → publication_at trail p ≡ Some base
    → publication_at trail q ≡ Some latest
    → copy ≡ copy_of p base sheet form → delta ≡ delta_between trail p q latest sheet form
    → UnlessApplyLacksMemory result (result ≡ Ok (copy_of q latest sheet form))
