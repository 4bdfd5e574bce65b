-- The output of the command that patches a golden copy. This project's profile.
use Rattle.std.specs.Prelude.{◌≡◌, ◌<◌, ◌≤◌, ◌^◌, ℕ, [], ◌∷◌, ◌++◌, codes, decimal, length, Result, Ok, Err, Some}
use Rattle.lei_code.specs.Texts.{Text}
use Rattle.register_words.specs.declared.sheets.Form.{Form}
use Rattle.register_words.specs.declared.sheets.Sheet.{Sheet}
use Rattle.copy_forms.specs.Trails.{Publication, Trail, copy_of, delta_between, publication_at}
use Rattle.delta_apply.specs.Applying.{IsAnswer}
use Rattle.delta_apply.specs.declared.fault.ApplyFault.{ApplyFault}
use Rattle.delta_apply.specs.declared.fault.ApplyFault.TheVariants as faults
use Rattle.file_commands.specs.TwoFiles.{FileOutcome, Rule}

-- The line that says why there is no new copy.
abbrev pub apply_refusal : ApplyFault → Text
apply_refusal faults.CopyNotRead = codes "refused COPY_NOT_READ\n"
apply_refusal faults.DeltaNotRead = codes "refused DELTA_NOT_READ\n"
apply_refusal (faults.WrongBase publication from) =
    codes "refused WRONG_BASE " ++ (decimal publication ++ 32 ∷ (decimal from ++ 10 ∷ []))
apply_refusal faults.OlderDelta = codes "refused OLDER_DELTA\n"
apply_refusal faults.NoMemory = []

-- The outcome of an answer to a copy and a delta: the new copy, or why there is none.
abbrev pub apply_outcome : Result Text ApplyFault → FileOutcome
apply_outcome (Ok copy) = Ok copy
apply_outcome (Err fault) = Err (apply_refusal fault)

-- The outcome for a copy and a delta of this sheet and form.
abbrev pub Patches : Sheet → Form → Rule
Patches sheet form copy delta outcome =
    (answer : Result Text ApplyFault) × IsAnswer copy delta sheet form answer × (outcome ≡ apply_outcome answer)

-- In the trail, take the copy of a publication and the delta from it to the same or a later one, each of fewer than 2^64
-- bytes, as is true of all bytes in memory. The only outcome for these two is the copy of the later one.
abbrev pub AppliedCopiesLeadOn : Trail → Type 0
AppliedCopiesLeadOn trail =
    (sheet : Sheet) (form : Form) (p q : ℕ) (base latest : Publication) → 1 ≤ p → p ≤ q
    → publication_at trail p ≡ Some base → publication_at trail q ≡ Some latest
    → length (copy_of p base sheet form) < 2 ^ 64 → length (delta_between trail p q latest sheet form) < 2 ^ 64
    → (outcome : FileOutcome)
    → Patches sheet form (copy_of p base sheet form) (delta_between trail p q latest sheet form) outcome
    → outcome ≡ Ok (copy_of q latest sheet form)
