-- How serving ends, by its status.
use Rattle.std.specs.Prelude.{◌≡◌, ◌⊎◌, ℕ, List, [], ◌∷◌, map, Option, IfSome}
use Rattle.atomic_table.specs.Seated.{TableId}
use Rattle.lei_values.specs.Count.{Rose}
use Rattle.lei_values.specs.KeptTables.{KeptTables}
use Rattle.lei_keeper.specs.Keeping.{TablesStay}
use Rattle.register_words.specs.Limits.{standard}
use Rattle.register_history.specs.Damage.{IsDamage}
use Rattle.register_history.specs.Kept.{Keeps, StaysUntold}
use Rattle.register_history.specs.State.{OfficeState}
use Rattle.register_history.specs.declared.damage.Damage.{Damage}
use Rattle.turnstile.specs.Passes.{new_pass}
use Rattle.lei_office.specs.Offices.{KeptOffice}
use Rattle.lei_office.specs.declared.opening.OpenFault.{OpenFault}
use Rattle.lei_office.specs.declared.opening.OpenFault.TheVariants as faults
use Rattle.lei_hall.specs.Closing.{Closes}
use Rattle.lei_hall.specs.Passes.{numbers_of}
use Rattle.register_history.specs.Opened.{Opens}
use Rattle.leireg_serve.specs.Desks.{DeskState, LineTells, ServedDesk, ServesDesks}
use Rattle.leireg_serve.specs.declared.desk.DeskEnd.{DeskEnd}

-- What the keeper and the desks tell at one time: what is kept, how many calls of the keeper failed, and what each desk
-- tells.
pub record DesksOutside (L : Type 0) : Type 0 where
  pub kept : Option KeptTables
  pub faults : ℕ
  pub desks : List (DeskState L)

-- The outside of these.
abbrev pub desks_outside : {L : Type 0} → Option KeptTables → ℕ → List (DeskState L) → DesksOutside L
desks_outside kept faults desks = record { kept = kept; faults = faults; desks = desks }

-- How several desks ended: closed if all are closed, and failed otherwise.
abbrev pub joint_end : List DeskEnd → DeskEnd
joint_end [] = DeskEnd.Closed
joint_end (DeskEnd.Closed ∷ ends) = joint_end ends
joint_end (DeskEnd.Failed ∷ ends) = DeskEnd.Failed

-- A hall was opened over an office, when the keeper's count of faults had the first value, and the keeper told this.
-- The lines of all desks were served, those of each desk by its own pass. Then the hall was closed, which left the
-- other office and the other value, and this is how all desks ended.
pub record ServesHall {L : Type 0} (tells : LineTells L) (opened : OfficeState) (told : Option KeptTables) (from : ℕ)
    (desks : List (DeskState L)) (closed : OfficeState) (to : ℕ) (desks_now : List (DeskState L)) (end : DeskEnd)
    : Type 0 where
  pub table : TableId
  pub served : List (ServedDesk L)
  pub came : desks ≡ map (λ desk. desk.before) served
  pub back : desks_now ≡ map (λ desk. desk.after) served
  pub ended : end ≡ joint_end (map (λ desk. desk.end) served)
  pub serves : ServesDesks tells (λ k. new_pass table k opened.history (numbers_of opened.limits told)) 0 served
  pub closes : Closes opened from (map (λ desk. desk.pass) served) closed to

-- The store was opened, all desks were served starting from the office that was opened, and the keeper has what the
-- last office has taken.
pub record OpensAndServes {L : Type 0} (may : Option KeptTables → Type 0) (tells : LineTells L)
    (before after : DesksOutside L) (end : DeskEnd) : Type 0 where
  pub first : OfficeState
  pub last : OfficeState
  pub opened : Opens may before.kept after.kept first
  pub serves : ServesHall tells first opened.told before.faults before.desks last after.faults after.desks end
  pub keeps : Keeps after.kept last

-- How serving ends. Status 0: all lines were served, and each door is closed. Status 9: the lines that came were
-- served, and a door failed. With any other status the store wasn't opened, and the keeper has what it had. With 5 a
-- call of it failed, and with 6 and 7 none did. Status 6: memory ran out. Status 7: what the keeper has isn't what a
-- history leaves.
abbrev pub EndsServing : {L : Type 0} → (Option KeptTables → Type 0) → LineTells L → DesksOutside L
    → DesksOutside L → ℕ → Type 0
EndsServing may tells before after status =
    ((status ≡ 0) × OpensAndServes may tells before after DeskEnd.Closed)
    ⊎ ((status ≡ 9) × OpensAndServes may tells before after DeskEnd.Failed)
    ⊎ ((status ≡ 5) × TablesStay before.kept after.kept × Rose before.faults after.faults)
    ⊎ ((status ≡ 6) × TablesStay before.kept after.kept × (after.faults ≡ before.faults))
    ⊎ ((status ≡ 7) × TablesStay before.kept after.kept × (after.faults ≡ before.faults)
    × ((damage : Damage) × IfSome after.kept (λ tables. IsDamage standard tables damage)))

-- With this status no line was served: the words have no meaning, or the store wasn't opened.
abbrev pub IsUnserved : ℕ → Type 0
IsUnserved status = (status ≡ 1) ⊎ ((status ≡ 5) ⊎ ((status ≡ 6) ⊎ (status ≡ 7)))

-- ---- inside

-- The status of an end.
abbrev pub desk_status : DeskEnd → ℕ
desk_status DeskEnd.Closed = 0
desk_status DeskEnd.Failed = 9

-- The status of a refusal to open a store.
abbrev pub fault_status : {K : Type 0} → OpenFault K → ℕ
fault_status (faults.KeeperFault keeper) = 5
fault_status (faults.StoreDamaged keeper damage) = 7
fault_status (faults.NoMemory keeper) = 6

-- A hall served an office and closed it, which left its keeper in this state, and this is the status.
abbrev pub ClosesOffice : {K L : Type 0} → (K → Option KeptTables) → (K → ℕ) → LineTells L
    → KeptOffice K → List (DeskState L) → K → List (DeskState L) → ℕ → Type 0
ClosesOffice tables counts tells office desks keeper desks_now status =
    (last : OfficeState) × (end : DeskEnd)
    × ServesHall tells office.office (tables office.keeper) (counts office.keeper) desks last (counts keeper) desks_now end
    × Keeps (tables keeper) last × StaysUntold (tables office.keeper) (tables keeper) × (status ≡ desk_status end)
