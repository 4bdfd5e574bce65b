-- An office with its keeper, as contracts see it, and the results of opening one.
use Rattle.std.specs.Prelude.{◌≡◌, ℕ, Option, IfSome, ⊤}
use Rattle.lei_values.specs.Count.{Rose}
use Rattle.lei_values.specs.KeptTables.{KeptTables}
use Rattle.register_words.specs.declared.limits.Limits.{Limits}
use Rattle.lei_office.specs.declared.opening.OpenFault.{OpenFault}
use Rattle.lei_office.specs.declared.opening.OpenFault.TheVariants.{KeeperFault, NoMemory, StoreDamaged}
use Rattle.register_history.specs.Damage.{IsDamage}
use Rattle.register_history.specs.State.{OfficeState}

-- the limits with the history, and the keeper
pub record KeptOffice (K : Type 0) : Type 0 where
  pub office : OfficeState
  pub keeper : K

-- ---- opening

-- the keeper that is returned if an office isn't opened
abbrev pub keeper_back : {K : Type 0} → OpenFault K → K
keeper_back (KeeperFault keeper) = keeper
keeper_back (StoreDamaged keeper damage) = keeper
keeper_back (NoMemory keeper) = keeper

-- A call of the keeper failed exactly if the fault says so: then its count of faults rose, and otherwise it stayed.
abbrev pub FaultRose : {K : Type 0} → ℕ → ℕ → OpenFault K → Type 0
FaultRose before now (KeeperFault keeper) = Rose before now
FaultRose before now (StoreDamaged keeper damage) = now ≡ before
FaultRose before now (NoMemory keeper) = now ≡ before

-- If a store is reported as damaged and its keeper tells its tables, this is their first difference.
abbrev pub IsRefused : {K : Type 0} → Limits → (K → Option KeptTables) → OpenFault K → Type 0
IsRefused limits tables (KeeperFault keeper) = ⊤
IsRefused limits tables (StoreDamaged keeper damage) = IfSome (tables keeper)
    (λ told. IsDamage limits told damage)
IsRefused limits tables (NoMemory keeper) = ⊤
