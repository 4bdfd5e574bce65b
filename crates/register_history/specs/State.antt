-- An office as contracts see it: its limits, and the history of what it took.
use Rattle.std.specs.Prelude.{[]}
use Rattle.register_words.specs.declared.limits.Limits.{Limits}
use Rattle.upload_ledger.specs.History.{History}

-- the state of an office
pub record OfficeState : Type 0 where
  pub limits : Limits
  pub history : History

-- the office with these limits and this history
abbrev pub office_of : Limits → History → OfficeState
office_of limits history = record { limits = limits; history = history }

-- the office with these limits that has taken nothing yet
abbrev pub new_office : Limits → OfficeState
new_office limits = office_of limits []
