-- Connections over a stream, and the door that they come through, as contracts see them.
use Rattle.std.specs.Prelude.{◌≡◌, ◌<◌, ◌-◌, ◌⊎◌, ℕ, Bool, false, true, Option, None, Some, Result, Ok, Err}
use Rattle.lei_values.specs.Count.{count_up}
use Rattle.lei_outside.specs.declared.door.Came.{Came}

-- A link over a stream: the stream, and how many reads and writes have failed.
pub record StreamState (S : Type 0) : Type 0 where
  pub stream : S
  pub read_faults : ℕ
  pub write_faults : ℕ

-- A door: whether it has a listener, how many lines it may still give, whether a line is out, and how many calls have
-- failed.
pub record ListenerState : Type 0 where
  pub listens : Bool
  pub to_give : ℕ
  pub out : Bool
  pub faults : ℕ

-- What waiting for a connection results in: one of those that are still to be given, or none if all were given, or a
-- failure. Without a listener it always fails.
abbrev pub Waits : {S E : Type 0} → ListenerState → Result (Option S) E → Type 0
Waits door (Ok (Some stream)) = (door.listens ≡ true) × (0 < door.to_give)
Waits door (Ok None) = (door.listens ≡ true) × (door.to_give ≡ 0)
Waits door (Err fault) = (door.listens ≡ false) ⊎ (0 < door.to_give)

-- What a door's call does to it. It gave one of its lines, which is out now. Or it is closed, exactly if it has a
-- listener and gave all its lines. Or the call failed, which is counted.
abbrev pub GivesLine : {L : Type 0} → ListenerState → Came L → ListenerState → Type 0
GivesLine old (Came.Line line) new = (old.listens ≡ true) × (0 < old.to_give)
    × (new ≡ record old { to_give = old.to_give - 1; out = true })
GivesLine old Came.Closed new = (old.listens ≡ true) × (old.to_give ≡ 0) × (new ≡ old)
GivesLine old Came.Failed new = ((old.listens ≡ false) ⊎ (0 < old.to_give))
    × (new ≡ record old { faults = count_up old.faults })

-- A line that came has not failed yet.
abbrev pub IsNewStream : {S : Type 0} → Came (StreamState S) → Type 0
IsNewStream (Came.Line line) = (line.read_faults ≡ 0) × (line.write_faults ≡ 0)
IsNewStream Came.Closed = Unit {0}
IsNewStream Came.Failed = Unit {0}
