-- The terms under which items are judged.
use Rattle.std.specs.Prelude.{ℕ, ℤ, Bool, nat_le}
use Rattle.lei_code.specs.Texts.{Lei}
use Rattle.lei_records.specs.declared.rules.Rules.{Rules}
use Rattle.register_judge.specs.declared.sitting.Sitting.{Sitting}

-- The sitting by these rules for an upload of an issuer on a day, with this limit on records.
abbrev pub sitting_by : Rules → ℕ → ℤ → Lei → Sitting
sitting_by rules limit today issuer = record { rules = rules; limit = limit; today = today; issuer = issuer }

-- This number of records has reached the limit.
abbrev pub is_at_limit : Sitting → ℕ → Bool
is_at_limit sitting count = nat_le sitting.limit count

-- The same sitting over a whole table: this limit is on all of the table's records.
abbrev pub over_table : Sitting → ℕ → Sitting
over_table sitting limit = record sitting { limit = limit }
