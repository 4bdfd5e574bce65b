-- The books of a register: its limits, its entries, and the table that they leave.
use Rattle.std.specs.Prelude.{◌∷◌, [], ◌++◌}
use Rattle.lei_values.specs.declared.entry.KeptEntry.{KeptEntry}
use Rattle.register_table.specs.Held.{TableState}
use Rattle.register_table.specs.Undos.{WriteList}
use Rattle.upload_ledger.specs.History.{History}
use Rattle.register_words.specs.Limits.{AreLimits}
use Rattle.register_words.specs.declared.limits.Limits.{Limits}
use Rattle.register_history.specs.Legal.{Legal}
use Rattle.register_history.specs.Register.{IsKeptAfter, after, entry_writes}
use Rattle.register_history.specs.State.{OfficeState, office_of}

-- the limits are in their ranges, the entries are a legal history under them, and the table is the one kept after this
-- history
pub record AreBooks (limits : Limits) (history : History) (table : TableState) : Type 0 where
  pub of_limits : AreLimits limits
  pub legal : Legal (office_of limits history)
  pub of_table : IsKeptAfter limits history table

-- the office with one more entry
abbrev pub office_with_entry : OfficeState → KeptEntry → OfficeState
office_with_entry office e = office_of office.limits (office.history ++ e ∷ [])

-- what an entry writes, judged on the table after the office's history
abbrev pub office_writes : OfficeState → KeptEntry → WriteList
office_writes office e = entry_writes office.limits (after office.limits office.history) e
