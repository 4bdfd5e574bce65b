-- Devices whose last call failed.
use Rattle.std.proofs.Common.{◌≡◌, ◌≤◌, ℕ, List, [], refl, sym, ap, ◌∙◌}
use Rattle.std.specs.Prelude.{Option, None, Some}
use Rattle.std.proofs.lemmas.List.{append-nil}
use Rattle.lei_values.specs.Count.{Rose}
use Rattle.lei_outside.specs.Faults.{FailsLast}
use Rattle.lei_outside.specs.Told.{Grows, Loses}

-- what has grown by nothing is unchanged
pub Grows-nothing : (old new : Option (List ℕ)) → Grows old new [] → old ≡ new
Grows-nothing None None grows = refl
Grows-nothing None (Some new) grows = absurd grows
Grows-nothing (Some old) None grows = absurd grows
Grows-nothing (Some old) (Some new) grows = ap Some (sym (grows ∙ append-nil old))

-- and so is what has lost nothing
pub Loses-nothing : (old new : Option (List ℕ)) → Loses old new [] → old ≡ new
Loses-nothing None None loses = refl
Loses-nothing None (Some new) loses = absurd loses
Loses-nothing (Some old) None loses = absurd loses
Loses-nothing (Some old) (Some new) loses = ap Some loses

-- a call failed, and what is told stayed the same
pub fails_here : {D T : Type 0} (told : D → T) (faults : D → ℕ) (before after : D) → told before ≡ told after → faults before ≤ faults after → Rose (faults before) (faults after) → FailsLast told faults before after
fails_here told faults before after same counts rose = record { last = before; faultless = refl; unchanged = same; counts = counts; rose = rose }

-- a call failed after calls that didn't
pub fails_later : {D T : Type 0} (told : D → T) (faults : D → ℕ) (before mid after : D) → faults mid ≡ faults before → FailsLast told faults mid after → FailsLast told faults before after
fails_later told faults before mid after kept fails = record { last = fails.last; faultless = fails.faultless ∙ kept; unchanged = fails.unchanged; counts = fails.counts; rose = fails.rose }
