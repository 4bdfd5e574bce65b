-- The publications of a legal history are few, and what `apply` makes of their files.
use Rattle.std.proofs.Common.{◌≡◌, ◌<◌, ◌≤◌, ◌^◌, ℕ, length, Some, refl, ap, ◌∙◌, arith}
use Rattle.std.specs.Prelude.{Result, Ok, Err}
use Rattle.lei_code.specs.Texts.{Text}
use Rattle.register_words.specs.declared.sheets.Form.{Form}
use Rattle.register_words.specs.declared.sheets.Sheet.{Sheet}
use Rattle.copy_forms.specs.Trails.{IsSoundTrail, Publication, Trail, copy_of, delta_between, publication_at}
use Rattle.delta_apply.specs.Applying.{IsAnswer, UnlessApplyLacksMemory}
use Rattle.delta_apply.specs.declared.fault.ApplyFault.{ApplyFault}
use Rattle.delta_apply.specs.declared.fault.ApplyFault.TheVariants as faults
use Rattle.delta_apply.proofs.Answering.{answer_leads_on}
use Rattle.file_commands.specs.Applying.{AppliedCopiesLeadOn, Patches, apply_outcome}
use Rattle.file_commands.specs.TwoFiles.{FileOutcome}
use Rattle.register_history.specs.Legal.{Legal}
use Rattle.register_history.specs.Publications.{trail}
use Rattle.register_history.specs.State.{OfficeState}
use Rattle.register_history.proofs.Stepping.{few-publications}
use Rattle.register_history.proofs.TrailGrowth.{trail-length}

pub few_publications : (office : OfficeState) → Legal office → length (trail office) ≤ 1_000_000
few_publications office legal = omega (arith, trail-length office, few-publications office legal)

-- a right answer doesn't report that memory ran out
with_memory : (copied delta : Text) (sheet : Sheet) (form : Form) (answer : Result Text ApplyFault)
    → IsAnswer copied delta sheet form answer
    → UnlessApplyLacksMemory answer (IsAnswer copied delta sheet form answer)
with_memory copied delta sheet form (Ok bytes) is = is
with_memory copied delta sheet form (Err faults.CopyNotRead) is = is
with_memory copied delta sheet form (Err faults.DeltaNotRead) is = is
with_memory copied delta sheet form (Err (faults.WrongBase p q)) is = is
with_memory copied delta sheet form (Err faults.OlderDelta) is = is
with_memory copied delta sheet form (Err faults.NoMemory) is = absurd is

in_memory : (copied delta : Text) (sheet : Sheet) (form : Form) (answer : Result Text ApplyFault) (P : Type 0)
    → IsAnswer copied delta sheet form answer → UnlessApplyLacksMemory answer P → P
in_memory copied delta sheet form (Ok bytes) P is holds = holds
in_memory copied delta sheet form (Err faults.CopyNotRead) P is holds = holds
in_memory copied delta sheet form (Err faults.DeltaNotRead) P is holds = holds
in_memory copied delta sheet form (Err (faults.WrongBase p q)) P is holds = holds
in_memory copied delta sheet form (Err faults.OlderDelta) P is holds = holds
in_memory copied delta sheet form (Err faults.NoMemory) P is holds = absurd is

pub applied_lead : (published : Trail) → IsSoundTrail published → length published ≤ 1_000_000
    → AppliedCopiesLeadOn published
applied_lead published sound few sheet form p q base latest first order at_p at_q short small outcome patches =
    let copied : Text = copy_of p base sheet form in
    let delta : Text = delta_between published p q latest sheet form in
    let wanted : Text = copy_of q latest sheet form in
    let is : IsAnswer copied delta sheet form patches.0 = patches.1 in
    let led : UnlessApplyLacksMemory patches.0 (patches.0 ≡ Ok wanted) =
    answer_leads_on copied delta sheet form short small patches.0 (with_memory copied delta sheet form patches.0 is)
    published sound few p q base latest first order at_p at_q refl refl in
    let same : patches.0 ≡ Ok wanted = in_memory copied delta sheet form patches.0 (patches.0 ≡ Ok wanted) is led in
    patches.2 ∙ ap apply_outcome same
