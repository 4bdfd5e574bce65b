-- Moments that a clock gives, over several calls.
use Rattle.std.proofs.Common.{ℤ, List, [], ◌∷◌, ◌++◌, Option, Some, None, sym, ap, ◌∙◌, append_assoc}
use Rattle.std.proofs.lemmas.List.{append-nil}
use Rattle.std.proofs.lemmas.List.Elements.{All-append, All-cons, All-nil}
use Rattle.lei_outside.specs.Clock.{Gave, IsClockMoment}
use Rattle.request_loop.specs.Moments.{ClockGives}

Gave-none : (u : Option (List ℤ)) → Gave u u []
Gave-none None = tt
Gave-none (Some moments) = sym (append-nil moments)

Gave-join : (u v w : Option (List ℤ)) (xs ys : List ℤ) → Gave u v xs → Gave v w ys → Gave u w (xs ++ ys)
Gave-join None None None xs ys a b = tt
Gave-join None None (Some c) xs ys a b = absurd b
Gave-join None (Some m) w xs ys a b = absurd a
Gave-join (Some f) None None xs ys a b = tt
Gave-join (Some f) None (Some c) xs ys a b = absurd b
Gave-join (Some f) (Some m) None xs ys a b = tt
Gave-join (Some f) (Some m) (Some c) xs ys a b = b ∙ ap (λ (l : List ℤ). l ++ ys) a ∙ append_assoc f xs ys

-- a clock that isn't asked gives nothing
pub ClockGives-none : (u : Option (List ℤ)) → ClockGives u u []
ClockGives-none u = record { told = Gave-none u; range = All-nil IsClockMoment }

pub ClockGives-one : (u v : Option (List ℤ)) (m : ℤ) → Gave u v (m ∷ []) → IsClockMoment m → ClockGives u v (m ∷ [])
ClockGives-one u v m told range = record { told = told; range = All-cons IsClockMoment m [] range (All-nil IsClockMoment) }

-- the moments of two calls are those of both, in order
pub ClockGives-join : (u v w : Option (List ℤ)) (xs ys : List ℤ) → ClockGives u v xs → ClockGives v w ys
    → ClockGives u w (xs ++ ys)
ClockGives-join u v w xs ys a b = record
    { told = Gave-join u v w xs ys a.told b.told; range = All-append IsClockMoment xs ys a.range b.range }
