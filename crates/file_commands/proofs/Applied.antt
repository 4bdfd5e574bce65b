-- The outcome for a copy and a delta.
use Rattle.std.proofs.Common.{◌≢◌, ℕ, List, Option, Result, Err, inl, refl}
use Rattle.lei_code.specs.Texts.{Text}
use Rattle.register_words.specs.declared.sheets.Form.{Form}
use Rattle.register_words.specs.declared.sheets.Sheet.{Sheet}
use Rattle.delta_apply.specs.Applying.{IsAnswer, UnlessApplyLacksMemory}
use Rattle.delta_apply.specs.declared.fault.ApplyFault.{ApplyFault}
use Rattle.delta_apply.specs.declared.fault.ApplyFault.TheVariants as faults
use Rattle.file_commands.specs.Applying.{Patches, apply_outcome}
use Rattle.file_commands.specs.TwoFiles.{WritesOutcome, WritesResultOf}

-- an answer that isn't lack of memory is the required one
pub answered : (fault : ApplyFault) {P : Type 0} → fault ≢ faults.NoMemory → UnlessApplyLacksMemory (Err fault) P → P
answered faults.CopyNotRead other is = is
answered faults.DeltaNotRead other is = is
answered (faults.WrongBase publication from) other is = is
answered faults.OlderDelta other is = is
answered faults.NoMemory other is = absurd (other refl)

-- an answer was written
pub patch_told : (sheet : Sheet) (form : Form) (copy delta : Text) (answer : Result Text ApplyFault) (before after : Option (List ℕ)) (status : ℕ)
    → IsAnswer copy delta sheet form answer → WritesOutcome (apply_outcome answer) before after status
    → WritesResultOf (Patches sheet form) copy delta before after status
patch_told sheet form copy delta answer before after status is tells = inl (apply_outcome answer, (answer, is, refl), tells)
