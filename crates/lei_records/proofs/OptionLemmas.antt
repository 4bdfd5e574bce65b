-- Values that may be absent.
use Rattle.std.specs.Prelude.{◌≡◌, Bool, true, false, ◌&&◌, cond, Option, Some, None, is_some, option_map}
use Rattle.std.proofs.Common.{refl}
use Rattle.std.proofs.lemmas.Bool.{both_ways}

pub mapped : {A B : Type 0} (f : A → B) (b : Bool) (x y : Option A) → option_map f (cond b x y) ≡ cond b (option_map f x) (option_map f y)
mapped f true x y = refl
mapped f false x y = refl

pub some_mapped : {A B : Type 0} (f : A → B) (o : Option A) → is_some (option_map f o) ≡ is_some o
some_mapped f None = refl
some_mapped f (Some x) = refl

pub none_there : {A : Type 0} (o : Option A) → is_some o ≡ false → o ≡ None
none_there None is = refl
none_there (Some x) is = absurd (both_ways true is refl)

-- if a value is asked for, and isn't there, it is absent
pub none_where : {A : Type 0} (asked : Bool) (o : Option A) → (asked && is_some o) ≡ false → asked ≡ true → o ≡ None
none_where true o both is = none_there o both
none_where false o both is = absurd (both_ways false refl is)
