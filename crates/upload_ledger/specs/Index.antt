-- The places that are kept alongside the entries, and what they say of the entries.
use Rattle.std.specs.Prelude.{◌≡◌, ℕ, ◌<◌, List, [], map, filter, find, slice_get, Bool, Option, Some, None, option_map}
use Rattle.std.specs.Vec.{vec_len, vec_capacity}
use Rattle.std.specs.BTreeMap.{BTreeMap, get}
use Rattle.std.specs.Cmp.Lexicographic.{slice_cmp}
use Rattle.std.specs.Ordering.{nat_cmp}
use Rattle.lei_code.specs.Code.{IsValid}
use Rattle.lei_code.specs.Texts.{Lei}
use Rattle.lei_values.specs.declared.entry.KeptEntry.{KeptEntry}
use Rattle.upload_ledger.specs.declared.index.IssuerPlaces.{IssuerPlaces}
use Rattle.upload_ledger.specs.History.{History, is_accreditation_of, is_upload_of}

-- these are the places of the entries that pass the test, in order
abbrev pub ArePlaces : (KeptEntry → Bool) → History → List ℕ → Type 0
ArePlaces test history places = map (slice_get history) places ≡ map Some (filter test history)

-- this is the place of the first entry that passes the test, if there is one
abbrev pub IsFirstPlace : (KeptEntry → Bool) → History → Option ℕ → Type 0
IsFirstPlace test history place = option_map (slice_get history) place ≡ option_map Some (find test history)

-- the places by issuer
abbrev pub Index : Type 0
Index = BTreeMap Lei IssuerPlaces

-- what is kept of an issuer
abbrev pub places_of : Index → Lei → Option IssuerPlaces
places_of index issuer = get (slice_cmp nat_cmp) index issuer

-- the place of its accreditation
abbrev pub accreditation_place : Option IssuerPlaces → Option ℕ
accreditation_place None = None
accreditation_place (Some places) = places.accreditation

-- the places of its uploads
abbrev pub uploads_in : Option IssuerPlaces → List ℕ
uploads_in None = []
uploads_in (Some places) = places.uploads.items

-- what is kept of an issuer gives the places of its entries
pub record AreOf (history : History) (issuer : Lei) (places : Option IssuerPlaces) : Type 0 where
  pub accreditation : IsFirstPlace (is_accreditation_of issuer) history (accreditation_place places)
  pub uploads : ArePlaces (is_upload_of issuer) history (uploads_in places)

-- the same for each issuer
abbrev pub IsIndex : History → Index → Type 0
IsIndex history index = (issuer : Lei) → IsValid issuer → AreOf history issuer (places_of index issuer)

-- there is room for an entry of the issuer
pub record HasRoomForIssuer (index : Index) (issuer : Lei) : Type 0 where
  pub places : IssuerPlaces
  pub found : places_of index issuer ≡ Some places
  pub spare : vec_len places.uploads < vec_capacity places.uploads

-- nothing that is kept of an issuer was changed, and each issuer with room still has it
pub record IsSameIndex (old new : Index) : Type 0 where
  pub accreditation : (issuer : Lei)
      → accreditation_place (places_of new issuer) ≡ accreditation_place (places_of old issuer)
  pub uploads : (issuer : Lei) → uploads_in (places_of new issuer) ≡ uploads_in (places_of old issuer)
  pub room : (issuer : Lei) → HasRoomForIssuer old issuer → HasRoomForIssuer new issuer
