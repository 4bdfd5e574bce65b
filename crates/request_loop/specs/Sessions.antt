-- Sessions with an answerer: what was asked, one after the other, and the replies.
use Rattle.std.specs.Prelude.{◌≡◌, ℤ, List, [], ◌∷◌, ◌++◌, Option}
use Rattle.request_loop.specs.Moments.{ClockGives}

-- These replies answer what was asked, in order, at these moments, by steps from one state of the answerer to the next.
abbrev pub Session : {A W P : Type 0} → (A → W → List ℤ → P → A → Type 0) → A → List W → List ℤ
    → List P → A → Type 0
Session step old [] moments [] new = (moments ≡ []) × (new ≡ old)
Session step old [] moments (reply ∷ replies) new = ⊥
Session step old (asked ∷ asks) moments [] new = ⊥
Session {A} step old (asked ∷ asks) moments (reply ∷ replies) new =
    (given : List ℤ) × (rest : List ℤ) × (between : A) × (moments ≡ given ++ rest)
    × step old asked given reply between × Session step between asks rest replies new

-- What was asked got its reply, by one step, at moments that the clock gave.
abbrev pub Replies : {A W P : Type 0} → (A → W → List ℤ → P → A → Type 0) → A → Option (List ℤ) → W → P → A
    → Option (List ℤ) → Type 0
Replies step old given asked reply new given_now =
    (moments : List ℤ) × ClockGives given given_now moments × step old asked moments reply new
