-- What serving the lines of a door does.
use Rattle.std.specs.Prelude.{◌≡◌, ℕ, ◌+◌, ℤ, Bool, false, List, [], ◌∷◌, ◌++◌, map, Option, None, Some, IfSome}
use Rattle.lei_values.specs.Count.{Rose}
use Rattle.request_loop.specs.Serving.{progress}
use Rattle.lei_hall.specs.Calling.{IsSamePass, TakesTurns}
use Rattle.lei_hall.specs.Passes.{HallPass}
use Rattle.issuer_http.specs.Callers.{ServesCaller}
use Rattle.issuer_http.specs.Serving.{ReportsFaults}
use Rattle.issuer_http.specs.declared.ended.Ended.{Ended}
use Rattle.leireg_serve.specs.declared.desk.Desk.{Desk}
use Rattle.leireg_serve.specs.declared.desk.DeskEnd.{DeskEnd}

-- What lines tell: the bytes that are left to be read and those that were written, and how many reads and writes have
-- failed.
pub record LineTells (L : Type 0) : Type 0 where
  pub left : L → Option (List ℕ)
  pub written : L → Option (List ℕ)
  pub read_faults : L → ℕ
  pub write_faults : L → ℕ

-- What lines tell, by these four.
abbrev pub line_tells : {L : Type 0} → (L → Option (List ℕ)) → (L → Option (List ℕ)) → (L → ℕ)
    → (L → ℕ) → LineTells L
line_tells left written read_faults write_faults = record {
  left = left;
  written = written;
  read_faults = read_faults;
  write_faults = write_faults;
}

-- What a desk tells at one time. Its door tells the lines that are to come and those that came back. It also tells
-- whether a line is out, and how many calls of the door have failed. The clock tells the moments that it has given.
pub record DeskState (L : Type 0) : Type 0 where
  pub to_come : Option (List L)
  pub came_back : Option (List L)
  pub out : Bool
  pub faults : ℕ
  pub given : Option (List ℤ)

-- What a desk tells if its door and clock tell these.
abbrev pub desk_state : {D C L : Type 0} → (D → Option (List L)) → (D → Option (List L)) → (D → Bool)
    → (D → ℕ) → (C → Option (List ℤ)) → Desk D C → DeskState L
desk_state to_come came_back out faults given desk = record {
  to_come = to_come desk.door;
  came_back = came_back desk.door;
  out = out desk.door;
  faults = faults desk.door;
  given = given desk.clock;
}

-- ---- one line

-- The progress of a desk: its pass, and the moments that its clock has given.
pub record Stage : Type 0 where
  pub pass : HallPass
  pub given : Option (List ℤ)

-- The stage of these two.
abbrev pub stage : HallPass → Option (List ℤ) → Stage
stage pass given = record { pass = pass; given = given }

-- A line was served, from one stage to the other. It is given as it came and as it was returned, with how serving
-- ended. A read failed exactly if the end says so, and so did a write.
pub record ServesLine {L : Type 0} (tells : LineTells L) (before : Stage) (came back : L)
    (ended : Ended) (after : Stage)
    : Type 0 where
  pub serves : ServesCaller (progress before.pass before.given (tells.written came)) (tells.left came)
      (progress after.pass after.given (tells.written back)) (tells.left back) ended
  pub faults : ReportsFaults ended (tells.read_faults came) (tells.read_faults back) (tells.write_faults came)
      (tells.write_faults back)

-- ---- the lines of a door

-- A line as it came and as it was returned, and how serving it ended.
pub record ServedLine (L : Type 0) : Type 0 where
  pub came : L
  pub back : L
  pub ended : Ended

-- These lines were served one after another, from one stage to the other.
abbrev pub ServesEach : {L : Type 0} → LineTells L → Stage → List (ServedLine L) → Stage → Type 0
ServesEach tells before [] after = after ≡ before
ServesEach tells before (line ∷ lines) after = (between : Stage)
    × ServesLine tells before line.came line.back line.ended between × ServesEach tells between lines after

-- These were removed from the front of the lines to come, if those are told. What is untold stays untold.
abbrev pub GivesLines : {L : Type 0} → Option (List L) → Option (List L) → List L → Type 0
GivesLines None None lines = Unit {0}
GivesLines None (Some new) lines = ⊥
GivesLines (Some old) None lines = ⊥
GivesLines (Some old) (Some new) lines = old ≡ lines ++ new

-- These were added at the end of the lines that came back, if those are told. What is untold stays untold.
abbrev pub TakesLinesBack : {L : Type 0} → Option (List L) → Option (List L) → List L → Type 0
TakesLinesBack None None lines = Unit {0}
TakesLinesBack None (Some new) lines = ⊥
TakesLinesBack (Some old) None lines = ⊥
TakesLinesBack (Some old) (Some new) lines = new ≡ old ++ lines

-- If the lines to come are told, there is none.
abbrev pub IsNoneToCome : {L : Type 0} → Option (List L) → Type 0
IsNoneToCome told = IfSome told (λ lines. lines ≡ [])

-- The lines that a door gave were served one after another, by the turns of one pass. Each came back to the door, in
-- order, and none is out. One turn for each member that the pass was told leads, in order, from its state before to its
-- state after.
pub record ServesDesk {L : Type 0} (tells : LineTells L) (before : HallPass) (desk : DeskState L)
    (after : HallPass) (desk_now : DeskState L) (end : DeskEnd) : Type 0 where
  pub lines : List (ServedLine L)
  pub each : ServesEach tells (stage before desk.given) lines (stage after desk_now.given)
  pub gave : GivesLines desk.to_come desk_now.to_come (map (λ line. line.came) lines)
  pub took : TakesLinesBack desk.came_back desk_now.came_back (map (λ line. line.back) lines)
  pub turns : TakesTurns before after
  pub same : IsSamePass before after
  pub out : desk_now.out ≡ false
  -- serving ends if the door is closed, and no line is to come; or if the door failed
  pub closed : end ≡ DeskEnd.Closed → IsNoneToCome desk_now.to_come × (desk_now.faults ≡ desk.faults)
  pub failed : end ≡ DeskEnd.Failed → Rose desk.faults desk_now.faults

-- ---- many desks

-- A desk with what it tells before and after its lines are served, how that ended, and its pass afterwards.
pub record ServedDesk (L : Type 0) : Type 0 where
  pub before : DeskState L
  pub pass : HallPass
  pub after : DeskState L
  pub end : DeskEnd

-- The lines of each desk were served by the pass with its number, which was new. The pass had seen this history, and
-- these are its numbers that stay. The passes have consecutive numbers starting at k.
abbrev pub ServesDesks : {L : Type 0} → LineTells L → (ℕ → HallPass) → ℕ → List (ServedDesk L) → Type 0
ServesDesks tells new k [] = Unit {0}
ServesDesks tells new k (served ∷ others) =
    ServesDesk tells (new k) served.before served.pass served.after served.end × ServesDesks tells new (k + 1) others
