-- Told bytes that grow, or are lost, in steps.
use Rattle.std.proofs.Common.{ℕ, List, [], ◌++◌, refl, sym, ◌∙◌, ap, append_assoc}
use Rattle.std.specs.Prelude.{Option, None, Some}
use Rattle.std.proofs.lemmas.List.{append-nil}
use Rattle.lei_outside.specs.Told.{Grows, Loses}

-- what stays the same has grown by nothing
pub Grows-none : (told : Option (List ℕ)) → Grows told told []
Grows-none None = tt
Grows-none (Some bytes) = sym (append-nil bytes)

-- growing twice is growing by both
pub Grows-join : (first mid last : Option (List ℕ)) (xs ys : List ℕ) → Grows first mid xs → Grows mid last ys → Grows first last (xs ++ ys)
Grows-join None None None xs ys a b = tt
Grows-join None None (Some c) xs ys a b = absurd b
Grows-join None (Some m) last xs ys a b = absurd a
Grows-join (Some f) None last xs ys a b = absurd a
Grows-join (Some f) (Some m) None xs ys a b = absurd b
Grows-join (Some f) (Some m) (Some c) xs ys a b = b ∙ ap (λ (l : List ℕ). l ++ ys) a ∙ append_assoc f xs ys

-- what stays the same has lost nothing
pub Loses-none : (told : Option (List ℕ)) → Loses told told []
Loses-none None = tt
Loses-none (Some bytes) = refl

-- losing twice is losing both
pub Loses-join : (first mid last : Option (List ℕ)) (xs ys : List ℕ) → Loses first mid xs → Loses mid last ys → Loses first last (xs ++ ys)
Loses-join None None None xs ys a b = tt
Loses-join None None (Some c) xs ys a b = absurd b
Loses-join None (Some m) last xs ys a b = absurd a
Loses-join (Some f) None last xs ys a b = absurd a
Loses-join (Some f) (Some m) None xs ys a b = absurd b
Loses-join (Some f) (Some m) (Some c) xs ys a b = a ∙ ap (λ (l : List ℕ). xs ++ l) b ∙ sym (append_assoc xs ys c)
