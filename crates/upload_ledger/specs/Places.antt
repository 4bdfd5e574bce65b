-- The meaning of the code's `Place`.
use Rattle.std.specs.Prelude.{◌≡◌}
use Rattle.upload_ledger.specs.declared.place.Place.{Place}
use Rattle.upload_ledger.specs.declared.place.Place.TheVariants as code
use Rattle.upload_ledger.specs.History as history

-- the code's place is this place
abbrev pub IsPlace : Place → history.Place → Type 0
IsPlace code.UnknownOffice place = place ≡ history.unknown_issuer
IsPlace (code.Repeat answer) place = place ≡ history.repeat_of answer.now
IsPlace code.Taken place = place ≡ history.number_taken
IsPlace (code.Ahead next) place = place ≡ history.ahead next
IsPlace code.Fresh place = place ≡ history.fresh
