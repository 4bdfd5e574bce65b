-- What a crash may leave after a step that was to add an entry.
use Rattle.std.proofs.Common.{◌≡◌, ◌⊎◌, inl, inr, ◌≤◌, [], ◌∷◌, ◌++◌, length, Option, None, Some, refl, sym, ap, subst, arith, length-append}
use Rattle.std.specs.Prelude.{IfSome}
use Rattle.lei_values.specs.KeptTables.{KeptTables, with_batch}
use Rattle.lei_keeper.specs.Keeping.{LeavesEither, LeavesTold}
use Rattle.lei_values.specs.declared.entry.KeptEntry.{KeptEntry}
use Rattle.lei_values.specs.declared.batch.Batch.{Batch}
use Rattle.register_history.specs.Kept.{AreTablesOf, AreTablesWith, Keeps}
use Rattle.register_history.specs.Legal.{Legal}
use Rattle.register_history.specs.State.{OfficeState}
use Rattle.register_history.specs.Touching.{AreTouchedCells, Touches}
use Rattle.register_history.proofs.KeptLemmas.{told-with}
use Rattle.register_table.specs.Held.{Held}
use Rattle.upload_ledger.specs.History.{History}
use Rattle.register_state.specs.Books.{office_with_entry}
use Rattle.register_state.specs.Crashes.{CrashStays, IsLeftOf, LeavesAlso}

-- the keeper tells the tables of the office with the entry
pub crash-added : (old new : OfficeState) (e : KeptEntry) (told : Option KeptTables) (before after : Option KeptTables → Type 0) → new ≡ office_with_entry old e → Keeps told new → LeavesTold told after
    → CrashStays old new told before after
crash-added old new e told before after added keeps leaves only (inl same) =
    let one = ap (λ o. length o.history) (sym same) in
    let more = ap (λ o. length o.history) added in
    absurd (omega (arith, one, more, length-append old.history (e ∷ [])))
crash-added old new e None before after added keeps leaves only (inr some) = cc
crash-added old new e (Some tables) before after added keeps leaves only (inr some) = λ left is.
    subst (IsLeftOf new) (sym (leaves left is)) (inl keeps)

-- nothing was added, but a crash may leave the entry
pub crash-refused : (old new : OfficeState) (e : KeptEntry) (told : Option KeptTables) (before after : Option KeptTables → Type 0) → new ≡ old → Legal (office_with_entry old e)
    → LeavesAlso (AreTablesOf (office_with_entry old e)) before after → CrashStays old new told before after
crash-refused old new e told before after same legal leaves only any = λ left is.
    subst (λ o. IsLeftOf o left) (sym same) (by_left left (leaves left is))
  where
    by_left : (left : Option KeptTables) → before left ⊎ ((tables : KeptTables) × (left ≡ Some tables) × AreTablesOf (office_with_entry old e) tables) → IsLeftOf old left
    by_left left (inl earlier) = only left earlier
    by_left left (inr with) = subst (IsLeftOf old) (sym with.1) (inr (e, legal, with.2))

-- a batch that the keeper refused
pub refused-leaves : (told : Option KeptTables) (history : History) (before after : Held) (batch : Batch) (old new : Option KeptTables → Type 0) → 1 ≤ batch.entry.seq
    → Touches batch.entry.seq before after → AreTouchedCells batch.entry.seq after batch.cells → LeavesEither batch told old new → IfSome told (AreTablesWith history before)
    → LeavesAlso (AreTablesWith (history ++ batch.entry ∷ []) after) old new
refused-leaves told history before after batch old new some touches cells leaves keeps left is = by_left (leaves left is)
  where
    by_left : old left ⊎ ((tables : KeptTables) × (told ≡ Some tables) × (left ≡ Some (with_batch batch tables))) → old left ⊎ ((tables : KeptTables) × (left ≡ Some tables) × AreTablesWith (history ++ batch.entry ∷ []) after tables)
    by_left (inl earlier) = inl earlier
    by_left (inr either) =
        let tables = either.0 in
        let K : Option KeptTables → Type 0 = λ t. IfSome t (AreTablesWith history before) in
        inr (with_batch batch tables, either.2, told-with (Some tables) (Some (with_batch batch tables)) history before after batch some touches cells refl (subst K either.1 keeps))
