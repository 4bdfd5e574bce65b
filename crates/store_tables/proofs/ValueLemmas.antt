-- What SQL's comparisons say of numbers and texts.
use Rattle.std.proofs.Common.{◌≡◌, ◌≤◌, ℕ, pos, Bool, true, false, min, nat_lt, nat_le, Some, is_gt, is_le, refl, ap, ◌∙◌, arith}
use Rattle.std.specs.Ordering.{int_cmp}
use Rattle.std.proofs.lemmas.Bool.Decides.{nat_tests}
use Rattle.sqlite_value.specs.declared.value.Value.TheVariants.{Int}
use Rattle.sqlite_value.specs.declared.keys.Collation.TheVariants.{Binary}
use Rattle.sqlite_value.proofs.OrderLemmas.{value_cmp-Int}
use Rattle.sqlite_sql.specs.declared.ops.BinaryOp.TheVariants.{Compare}
use Rattle.sqlite_sql.specs.declared.ops.CompareOp.TheVariants.{Gt, Le}
use Rattle.sqlite_sql.specs.Ops.{binary, from_truth, is_true}

pub told_truth : (b : Bool) → is_true (from_truth (Some b)) ≡ b
told_truth true = refl
told_truth false = refl

above_is : (s a : ℕ) → is_gt (int_cmp (pos s) (pos a)) ≡ nat_lt a s
above_is s a = grind (arith, nat_tests)

at_most_is : (s a : ℕ) → is_le (int_cmp (pos s) (pos a)) ≡ nat_le s a
at_most_is s a = grind (arith, nat_tests)

pub is_above : (s a : ℕ) → is_true (binary (Compare Gt Binary) (Int (pos s)) (Int (pos a))) ≡ nat_lt a s
unfolding binary
is_above s a = told_truth _ ∙ (ap is_gt (value_cmp-Int (pos s) (pos a)) ∙ above_is s a)

pub is_at_most : (s a : ℕ) → is_true (binary (Compare Le Binary) (Int (pos s)) (Int (pos a))) ≡ nat_le s a
unfolding binary
is_at_most s a = told_truth _ ∙ (ap is_le (value_cmp-Int (pos s) (pos a)) ∙ at_most_is s a)

-- a bound above all numbers may be lowered to the greatest number
pub lower_bound : (a s : ℕ) → s ≤ 9223372036854775807 → nat_lt (min a 9223372036854775807) s ≡ nat_lt a s
lower_bound a s low = grind (arith, nat_tests)

pub upper_bound : (a s : ℕ) → s ≤ 9223372036854775807 → nat_le s (min a 9223372036854775807) ≡ nat_le s a
upper_bound a s low = grind (arith, nat_tests)
