-- What several threads make from the members of a list.
use Rattle.std.proofs.Common.{◌≡◌, ◌+◌, ◌<◌, ◌≤◌, ℕ, List, [], ◌∷◌, ◌++◌, drop, get_or, length, map, refl, sym, ap, subst, ◌∙◌, append-nil, append_assoc, add-one, Bor}
use Rattle.std.proofs.Math.Seq.{drop-cons}
use Rattle.std.proofs.lemmas.List.{drop_all}
use Rattle.std.specs.Prelude.{Err, IfOk, IfSome, Ok, Option, Result, Some}
use Rattle.std.specs.Fn.{FnReturnsAt, Shared}
use Rattle.std.specs.List.{AllZip}

pub if_ok : {V E : Type 0} (r : Result V E) (P Q : V → Type 0) → IfOk r P → ((v : V) → P v → Q v) → IfOk r Q
if_ok (Ok v) P Q h f = f v h
if_ok (Err e) P Q h f = tt

-- if each call returned what a function gives, the results are what the function gives for all members
pub all_made : {F T U E : Type 0} (g : Shared F (Bor T × Unit {0}) (Result U E)) (f : F) (h : T → U)
    → ((z : Bor T) (u : U) → g.post f (z, tt) (Ok u) → u ≡ h z.now)
    → (xs : List T) (us : List U) → AllZip (λ x u. FnReturnsAt g f x (Ok u)) xs us → us ≡ map h xs
all_made g f h says [] [] is = refl
all_made g f h says [] (u ∷ us) is = absurd is
all_made g f h says (x ∷ xs) [] is = absurd is
all_made g f h says (x ∷ xs) (u ∷ us) is =
    let first = subst (λ v. u ≡ h v) is.0.shows (says is.0.shown u is.0.says.met) in
    ap (λ v. v ∷ us) first ∙ ap (λ vs. h x ∷ vs) (all_made g f h says xs us is.1)

each_of : {F T U E : Type 0} (g : Shared F (Bor T × Unit {0}) (Result (Option U) E)) (f : F) (P : T → U → Type 0)
    → ((z : Bor T) (u : Option U) → g.post f (z, tt) (Ok u) → IfSome u (P z.now))
    → (xs : List T) (us : List U) → AllZip (λ x u. FnReturnsAt g f x (Ok u)) xs (map Some us) → AllZip P xs us
each_of g f P says [] [] is = tt
each_of g f P says [] (u ∷ us) is = absurd is
each_of g f P says (x ∷ xs) [] is = absurd is
each_of g f P says (x ∷ xs) (u ∷ us) is =
    (subst (λ x. P x u) is.0.shows (says is.0.shown (Some u) is.0.says.met), each_of g f P says xs us is.1)

-- if each call returned a value, and P holds of what was returned, it holds of all
pub each_made : {F T U E : Type 0} (g : Shared F (Bor T × Unit {0}) (Result (Option U) E)) (f : F) (P : T → U → Type 0)
    → ((z : Bor T) (u : Option U) → g.post f (z, tt) (Ok u) → IfSome u (P z.now))
    → (xs : List T) (made : List (Option U)) (us : List U) → made ≡ map Some us → AllZip (λ x u. FnReturnsAt g f x (Ok u)) xs made → AllZip P xs us
each_made g f P says xs made us same all = each_of g f P says xs us (subst (λ l. AllZip (λ x u. FnReturnsAt g f x (Ok u)) xs l) same all)

-- what was made so far, followed by what is made of the rest, is made of all
abbrev pub MadeSoFar : {A B : Type 0} → (A → B → Type 0) → List A → List A → List B → Type 0
MadeSoFar {A} {B} R all rest made = (more : List B) → AllZip R rest more → AllZip R all (made ++ more)

-- one more
pub made_more : {A B : Type 0} (R : A → B → Type 0) (all : List A) (index : ℕ) (x : A) (u : B) (made : List B) → index < length all → x ≡ get_or all index x → R x u
    → MadeSoFar R all (drop index all) made → MadeSoFar R all (drop (index + 1) all) (made ++ u ∷ [])
made_more R all index x u made less is holds so more rest =
    let here : drop index all ≡ x ∷ drop (index + 1) all = drop-cons all index x less ∙ (λ j. sym is j ∷ drop (sym (add-one index) j) all) in
    subst (λ us. AllZip R all us) (sym (append_assoc made (u ∷ []) more)) (so (u ∷ more) (subst (λ l. AllZip R l (u ∷ more)) (sym here) (holds, rest)))

-- all
pub made_all : {A B : Type 0} (R : A → B → Type 0) (all : List A) (index : ℕ) (made : List B) → length all ≤ index → MadeSoFar R all (drop index all) made → AllZip R all made
made_all R all index made past so =
    subst (λ us. AllZip R all us) (append-nil made) (so [] (subst (λ l. AllZip R l []) (sym (drop_all index all past)) tt))
