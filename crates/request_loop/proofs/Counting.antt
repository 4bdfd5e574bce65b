-- Counts of faults that rise with each reply of one kind.
use Rattle.std.proofs.Common.{◌≡◌, ℕ, ℤ, ◌+◌, ◌≤◌, Bool, List, [], ◌∷◌, ◌++◌, length, sym, ap, ◌∙◌, subst, arith, length-append}
use Rattle.std.specs.List.{filter}
use Rattle.std.proofs.lemmas.List.Elements.{filter-append}
use Rattle.request_loop.specs.Counts.{RoseBy}
use Rattle.request_loop.specs.Sessions.{Session}

pub RoseBy-none : (before now : ℕ) → now ≡ before → RoseBy 0 before now
RoseBy-none before now same = omega (arith, same)

pub RoseBy-join : (n m a b c : ℕ) → RoseBy n a b → RoseBy m b c → RoseBy (n + m) a c
RoseBy-join n m a b c first second = omega (arith, first, second)

pub RoseBy-fewer : (n m a b : ℕ) → n ≤ m → RoseBy m a b → RoseBy n a b
RoseBy-fewer n m a b few rose = omega (arith, few, rose)

-- the number of elements that pass a test, in two lists together
pub passing-append : {P : Type 0} (test : P → Bool) (xs ys : List P)
    → length (filter test (xs ++ ys)) ≡ length (filter test xs) + length (filter test ys)
passing-append test xs ys = ap length (filter-append test xs ys) ∙ length-append (filter test xs) (filter test ys)

-- if a count rises with each reply that passes a test, it rises in a session by the number of these replies
pub session-counts : {A W P : Type 0} (step : A → W → List ℤ → P → A → Type 0) (count : A → ℕ) (test : P → Bool)
    → ((old new : A) (ask : W) (moments : List ℤ) (reply : P) → step old ask moments reply new
    → RoseBy (length (filter test (reply ∷ []))) (count old) (count new))
    → (old new : A) (asks : List W) (moments : List ℤ) (replies : List P) → Session step old asks moments replies new
    → RoseBy (length (filter test replies)) (count old) (count new)
session-counts step count test each old new [] moments [] session =
    RoseBy-none (count old) (count new) (ap count session.1)
session-counts step count test each old new [] moments (reply ∷ replies) session = absurd session
session-counts step count test each old new (ask ∷ asks) moments [] session = absurd session
session-counts step count test each old new (ask ∷ asks) moments (reply ∷ replies) session =
    let R : ℕ → Type 0 = λ n. RoseBy n (count old) (count new) in
    subst R (sym (passing-append test (reply ∷ []) replies))
    (RoseBy-join (length (filter test (reply ∷ []))) (length (filter test replies)) (count old) (count session.2) (count new)
    (each old session.2 ask session.0 reply session.4)
    (session-counts step count test each session.2 new asks session.1 replies session.5))
