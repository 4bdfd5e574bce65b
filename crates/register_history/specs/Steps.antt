-- What a step of an office does to its history.
use Rattle.std.specs.Prelude.{◌≡◌, ◌⊎◌, ◌∷◌, [], ◌++◌}
use Rattle.lei_values.specs.declared.entry.KeptEntry.{KeptEntry}
use Rattle.register_history.specs.State.{OfficeState}

-- one entry was added or none, and the limits stay
abbrev pub AddsOneOrNone : OfficeState → OfficeState → Type 0
AddsOneOrNone old new =
    (new.limits ≡ old.limits)
    × ((new.history ≡ old.history) ⊎ ((e : KeptEntry) × (new.history ≡ old.history ++ e ∷ [])))
