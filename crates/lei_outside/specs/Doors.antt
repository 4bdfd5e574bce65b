-- What a door tells of its lines, and how a call changes it. `None` is a door that tells nothing.
use Rattle.std.specs.Prelude.{◌≡◌, ◌≢◌, List, [], ◌∷◌, ◌++◌, Bool, false, true, Option, None, Some}
use Rattle.lei_outside.specs.declared.door.Came.{Came}

-- whether a line came
abbrev pub is_line : {L : Type 0} → Came L → Bool
is_line (Came.Line line) = true
is_line Came.Closed = false
is_line Came.Failed = false

-- The call failed.
abbrev pub IsFailed : {L : Type 0} → Came L → Type 0
IsFailed (Came.Line line) = ⊥
IsFailed Came.Closed = ⊥
IsFailed Came.Failed = Unit {0}

-- What waiting for a line results in. The first of the lines to come arrives, and is no longer among them. Or the door
-- is closed, exactly if none is to come. Or the call failed, and took none.
abbrev pub ComesOf : {L : Type 0} → List L → Came L → List L → Type 0
ComesOf old (Came.Line line) new = old ≡ line ∷ new
ComesOf old Came.Closed new = (old ≡ []) × (new ≡ [])
ComesOf old Came.Failed new = (old ≢ []) × (new ≡ old)

-- The same for what is told. What is untold stays untold.
abbrev pub Comes : {L : Type 0} → Option (List L) → Came L → Option (List L) → Type 0
Comes None came None = Unit {0}
Comes None came (Some new) = ⊥
Comes (Some old) came None = ⊥
Comes (Some old) came (Some new) = ComesOf old came new

-- The told lines have one more at their end: this one. What is untold stays untold.
abbrev pub TakesBack : {L : Type 0} → Option (List L) → Option (List L) → L → Type 0
TakesBack None None line = Unit {0}
TakesBack None (Some new) line = ⊥
TakesBack (Some old) None line = ⊥
TakesBack (Some old) (Some new) line = new ≡ old ++ line ∷ []
