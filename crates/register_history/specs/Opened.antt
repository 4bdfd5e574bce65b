-- The office that is opened from what a keeper tells.
use Rattle.std.specs.Prelude.{◌≡◌, Option}
use Rattle.lei_values.specs.KeptTables.{KeptTables}
use Rattle.lei_keeper.specs.Keeping.{TablesStay}
use Rattle.register_words.specs.Limits.{standard}
use Rattle.register_history.specs.Kept.{Keeps, StaysUntold}
use Rattle.register_history.specs.Legal.{Legal}
use Rattle.register_history.specs.State.{OfficeState}

-- The office of what a keeper tells. It has the standard limits and a legal history, and if the keeper tells its
-- tables, they are those of this office.
pub record IsOpened (told : Option KeptTables) (office : OfficeState) : Type 0 where
  pub limits : office.limits ≡ standard
  pub legal : Legal office
  pub keeps : Keeps told office

-- A keeper of this type may tell this.
abbrev pub MayTell : {K : Type 0} → (K → Option KeptTables) → Option KeptTables → Type 0
MayTell {K} tables told = (keeper : K) × (tables keeper ≡ told)

-- The office was opened from what the keeper told before. In some state the keeper told that, or nothing any more, and
-- the office is that of what it told then. If the keeper tells its tables afterwards, it told them in that state.
pub record Opens (may : Option KeptTables → Type 0) (before after : Option KeptTables)
    (office : OfficeState) : Type 0
  where
    pub told : Option KeptTables
    pub met : may told
    pub stays : TablesStay before told
    pub is : IsOpened told office
    pub untold : StaysUntold told after
