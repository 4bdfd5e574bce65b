-- What a clock tells after it gave moments in steps.
use Rattle.std.proofs.Common.{ℤ, List, [], ◌++◌, Option, Some, None, sym, ap, ◌∙◌, append_assoc}
use Rattle.std.proofs.lemmas.List.{append-nil}
use Rattle.lei_outside.specs.Clock.{Gave}

-- a clock whose moments stay the same has given nothing
pub Gave-none : (told : Option (List ℤ)) → Gave told told []
Gave-none None = tt
Gave-none (Some moments) = sym (append-nil moments)

-- giving twice is giving both
pub Gave-join : (first mid last : Option (List ℤ)) (xs ys : List ℤ) → Gave first mid xs → Gave mid last ys → Gave first last (xs ++ ys)
Gave-join None None None xs ys a b = tt
Gave-join None None (Some c) xs ys a b = absurd b
Gave-join None (Some m) last xs ys a b = absurd a
Gave-join (Some f) None None xs ys a b = tt
Gave-join (Some f) None (Some c) xs ys a b = absurd b
Gave-join (Some f) (Some m) None xs ys a b = tt
Gave-join (Some f) (Some m) (Some c) xs ys a b = b ∙ ap (λ (l : List ℤ). l ++ ys) a ∙ append_assoc f xs ys
