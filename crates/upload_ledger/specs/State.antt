-- A ledger as contracts see it.
use Rattle.std.specs.Prelude.{[], Option, None}
use Rattle.lei_code.specs.Texts.{Text}
use Rattle.upload_ledger.specs.History.{History}

-- Its entries, and the issuer for whose next entry there is room.
pub record LedgerState : Type 0 where
  pub entries : History
  pub room : Option Text

-- a ledger without entries
abbrev pub empty_ledger : LedgerState
empty_ledger = record { entries = []; room = None }
