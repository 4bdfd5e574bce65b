-- Devices whose last call failed.
use Rattle.std.proofs.Common.{◌≡◌, ℕ, ◌≤◌, List, Option, Result, Ok, Err, OnErr, sym, ap, ◌∙◌, subst}
use Rattle.lei_values.specs.Count.{Rose}
use Rattle.lei_outside.specs.Faults.{FailsLast}
use Rattle.lei_outside.specs.Links.{LinkTold, link_told}
use Rattle.lei_outside.specs.Told.{Reads}
use Rattle.lei_outside.proofs.Faulting.{Loses-nothing, fails_here}

-- the device's count of faults rose
pub fails_rose : {D T : Type 0} (told : D → T) (faults : D → ℕ) (before after : D) → FailsLast told faults before after
    → Rose (faults before) (faults after)
fails_rose told faults before after fails =
    let R : ℕ → Type 0 = λ n. Rose n (faults after) in subst R fails.faultless fails.rose

-- the same for a part of the device, such as the source of a wire, that tells a part of what the device tells
pub fails_at : {D E T U : Type 0} (told : D → T) (faults : D → ℕ) (part : D → E) (part_told : E → U) (part_faults : E → ℕ)
    (of : T → U) (before after : D) → ((d : D) → of (told d) ≡ part_told (part d))
    → ((d : D) → faults d ≡ part_faults (part d)) → FailsLast told faults before after
    → FailsLast part_told part_faults (part before) (part after)
fails_at told faults part part_told part_faults of before after tells same fails =
    let last = fails.last in
    let N : ℕ → Type 0 = λ n. n ≤ faults after in
    let M : ℕ → Type 0 = λ m. part_faults (part last) ≤ m in
    let R : ℕ → Type 0 = λ n. Rose n (faults after) in
    let S : ℕ → Type 0 = λ m. Rose (part_faults (part last)) m in
    record {
      last = part last;
      faultless = sym (same last) ∙ (fails.faultless ∙ same before);
      unchanged = sym (tells last) ∙ (ap of fails.unchanged ∙ tells after);
      counts = subst M (same after) (subst N (same last) fails.counts);
      rose = subst S (same after) (subst R (same last) fails.rose);
    }

-- a read that fails takes nothing, and nothing was written
pub read_fails : {D E : Type 0} (left written : D → Option (List ℕ)) (faults : D → ℕ) (result : Result ℕ E) (before after : D)
    (buffer : List ℕ) → Reads (left before) (left after) result buffer → written after ≡ written before
    → faults before ≤ faults after → OnErr result (Rose (faults before) (faults after))
    → OnErr result (FailsLast (link_told left written) faults before after)
read_fails left written faults (Ok n) before after buffer reads same counts rose = tt
read_fails left written faults (Err fault) before after buffer reads same counts rose =
    let T : Option (List ℕ) → Option (List ℕ) → LinkTold = λ l w. record { left = l; written = w } in
    fails_here (link_told left written) faults before after
    (ap (λ (l : Option (List ℕ)). T l (written before)) (Loses-nothing (left before) (left after) reads)
    ∙ ap (T (left after)) (sym same)) counts rose
