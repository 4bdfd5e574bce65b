-- What is kept alongside the entries of a ledger.
use Rattle.std.specs.Prelude.{◌≡◌, ◌<◌, Option, Some, None, length, filter, option_map}
use Rattle.std.specs.Vec.{vec_len, vec_capacity}
use Rattle.lei_code.specs.Code.{IsValid}
use Rattle.lei_code.specs.Texts.{Text}
use Rattle.upload_ledger.specs.declared.ledger.Ledger.TheInside.{Inside}
use Rattle.upload_ledger.specs.History.{is_accreditation, is_publication, kept_bytes}
use Rattle.upload_ledger.specs.Index.{ArePlaces, HasRoomForIssuer, IsIndex}
use Rattle.upload_ledger.specs.Limits.{AreFew}

-- there is room for an entry of this issuer
pub record HasRoomFor (ledger : Inside) (issuer : Text) : Type 0 where
  pub entry : vec_len ledger.entries < vec_capacity ledger.entries
  pub publication : vec_len ledger.publications < vec_capacity ledger.publications
  pub place : IsValid issuer → HasRoomForIssuer ledger.index issuer

-- the same if room was made for an issuer
abbrev pub IsRoomFor : Inside → Option Text → Type 0
IsRoomFor ledger None = Unit {0}
IsRoomFor ledger (Some issuer) = HasRoomFor ledger issuer

-- The places and the numbers are those of the entries. Neither the entries nor their bytes are too many.
pub record IsLedger (ledger : Inside) : Type 0 where
  pub index : IsIndex ledger.entries.items ledger.index
  pub publications : ArePlaces is_publication ledger.entries.items ledger.publications.items
  pub accreditations : ledger.accreditations ≡ length (filter is_accreditation ledger.entries.items)
  pub kept_bytes : ledger.kept_bytes ≡ kept_bytes ledger.entries.items
  pub few : AreFew ledger.entries.items
  pub room : IsRoomFor ledger (option_map (λ s. s.value) ledger.room)
