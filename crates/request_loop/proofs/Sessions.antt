-- Sessions that are joined, and properties that each step has.
use Rattle.std.proofs.Common.{◌≡◌, ℤ, List, [], ◌∷◌, ◌++◌, length, refl, sym, ap, ◌∙◌, subst, append_assoc, arith}
use Rattle.std.proofs.lemmas.List.{append-nil}
use Rattle.request_loop.specs.Sessions.{Session}

-- a session, and then another
pub session-join : {A W P : Type 0} (step : A → W → List ℤ → P → A → Type 0) (old mid new : A) (asks more : List W)
    (xs ys : List ℤ) (replies others : List P) → Session step old asks xs replies mid → Session step mid more ys others new
    → Session step old (asks ++ more) (xs ++ ys) (replies ++ others) new
session-join {A} step old mid new [] more xs ys [] others first second =
    let P : List ℤ → Type 0 = λ ms. Session step old more (ms ++ ys) others new in
    let Q : A → Type 0 = λ h. Session step h more ys others new in
    subst P (sym first.0) (subst Q first.1 second)
session-join step old mid new [] more xs ys (reply ∷ replies) others first second = absurd first
session-join step old mid new (ask ∷ asks) more xs ys [] others first second = absurd first
session-join step old mid new (ask ∷ asks) more xs ys (reply ∷ replies) others first second = (
  first.0,
  first.1 ++ ys,
  first.2,
  ap (λ (l : List ℤ). l ++ ys) first.3 ∙ append_assoc first.0 first.1 ys,
  first.4,
  session-join step first.2 mid new asks more first.1 ys replies others first.5 second,
)

-- what is asked has one reply each
pub session-length : {A W P : Type 0} (step : A → W → List ℤ → P → A → Type 0) (old new : A) (asks : List W)
    (moments : List ℤ) (replies : List P) → Session step old asks moments replies new → length replies ≡ length asks
session-length step old new [] moments [] session = refl
session-length step old new [] moments (reply ∷ replies) session = absurd session
session-length step old new (ask ∷ asks) moments [] session = absurd session
session-length step old new (ask ∷ asks) moments (reply ∷ replies) session =
    let rest : length replies ≡ length asks = session-length step session.2 new asks session.1 replies session.5 in
    omega (arith, rest)

pub session-one : {A W P : Type 0} (step : A → W → List ℤ → P → A → Type 0) (old new : A) (ask : W) (moments : List ℤ)
    (reply : P) → step old ask moments reply new → Session step old (ask ∷ []) moments (reply ∷ []) new
session-one step old new ask moments reply made = (moments, [], new, sym (append-nil moments), made, (refl, refl))

-- what each step preserves, a session preserves
pub session-keeps : {A W P : Type 0} (step : A → W → List ℤ → P → A → Type 0) (keeps : A → A → Type 0)
    → ((who : A) → keeps who who) → ((old mid new : A) → keeps old mid → keeps mid new → keeps old new)
    → ((old new : A) (ask : W) (moments : List ℤ) (reply : P) → step old ask moments reply new → keeps old new)
    → (old new : A) (asks : List W) (moments : List ℤ) (replies : List P) → Session step old asks moments replies new
    → keeps old new
session-keeps {A} step keeps none join each old new [] moments [] session =
    let K : A → Type 0 = λ who. keeps old who in subst K (sym session.1) (none old)
session-keeps step keeps none join each old new [] moments (reply ∷ replies) session = absurd session
session-keeps step keeps none join each old new (ask ∷ asks) moments [] session = absurd session
session-keeps step keeps none join each old new (ask ∷ asks) moments (reply ∷ replies) session =
    join old session.2 new (each old session.2 ask session.0 reply session.4)
    (session-keeps step keeps none join each session.2 new asks session.1 replies session.5)

-- if the steps are steps of a part of the answerer, a session is a session of that part
pub session-through : {A B W P : Type 0} (step : A → W → List ℤ → P → A → Type 0) (part : A → B)
    (part_step : B → W → List ℤ → P → B → Type 0)
    → ((old new : A) (ask : W) (moments : List ℤ) (reply : P) → step old ask moments reply new
    → part_step (part old) ask moments reply (part new))
    → (old new : A) (asks : List W) (moments : List ℤ) (replies : List P) → Session step old asks moments replies new
    → Session part_step (part old) asks moments replies (part new)
session-through step part part_step each old new [] moments [] session = (session.0, ap part session.1)
session-through step part part_step each old new [] moments (reply ∷ replies) session = absurd session
session-through step part part_step each old new (ask ∷ asks) moments [] session = absurd session
session-through step part part_step each old new (ask ∷ asks) moments (reply ∷ replies) session = (
  session.0,
  session.1,
  part session.2,
  session.3,
  each old session.2 ask session.0 reply session.4,
  session-through step part part_step each session.2 new asks session.1 replies session.5,
)
