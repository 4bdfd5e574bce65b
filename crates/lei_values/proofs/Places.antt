-- Places of cells that compare as equal are equal.
use Rattle.std.specs.Prelude.{◌≡◌, true}
use Rattle.std.specs.Cmp.{tied_itself}
use Rattle.std.specs.Cmp.Lexicographic.{slice_cmp}
use Rattle.std.specs.FinMap.{nat_cmp-IsAntisymmetric, slice_cmp-IsAntisymmetric}
use Rattle.std.specs.Ordering.{eq_by_cmp, is_eq, nat_cmp}
use Rattle.std.specs.declared.cmp.Ordering.TheVariants.{Less, Equal, Greater}
use Rattle.std.proofs.lemmas.Cmp.{nat_list_cmp_total}
use Rattle.std.proofs.Common.{refl, ap}
use Rattle.lei_values.specs.KeptTables.{CellPlace}

pub same_places : (a b : CellPlace) → slice_cmp nat_cmp a b ≡ Equal → a ≡ b
same_places = slice_cmp-IsAntisymmetric nat_cmp-IsAntisymmetric

-- places that compare as equal are equal
pub tied : (a b : CellPlace) → eq_by_cmp (slice_cmp nat_cmp) a b ≡ true → a ≡ b
tied a b is = elim (slice_cmp nat_cmp a b) as (λ r. slice_cmp nat_cmp a b ≡ r → is_eq r ≡ true → a ≡ b) [
  | Less ↦ λ _ t. cc
  | Equal ↦ λ e _. same_places a b e
  | Greater ↦ λ _ t. cc
] refl is

pub itself : (a : CellPlace) → eq_by_cmp (slice_cmp nat_cmp) a a ≡ true
itself a = ap is_eq (tied_itself nat_list_cmp_total a)
