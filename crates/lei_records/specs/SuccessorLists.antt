-- How up to five successors are stored in an array of five LEIs.
use Rattle.std.specs.Prelude.{◌≡◌, ℕ, ◌-◌, ◌≤◌, List, ◌++◌, codes, length, replicate, take}
use Rattle.std.proofs.Common.{sym}
use Rattle.lei_code.specs.Texts.{Lei}
use Rattle.lei_records.specs.declared.successors.Successors.TheInside.{Inside}

-- A record names at most five successors.
abbrev pub most_successors : ℕ
most_successors = 5

-- The LEI in the array past the last successor. No contract sees it. It is needed because each index has some LEI, and
-- it is always the same, so that equal lists are equal arrays.
abbrev pub filler : Lei
filler = codes "00000000000000000098"

-- These successors, followed by the filler up to five LEIs.
abbrev pub in_five_places : List Lei → List Lei
in_five_places leis = leis ++ replicate (5 - length leis) filler

-- The successors: the first LEIs of the array, as many as are counted.
abbrev pub codes_counted : Inside → List Lei
codes_counted s = take s.count s.codes

-- The count is the number of successors, at most five, and the array has the filler past them.
pub record IsFilled (s : Inside) : Type 0 where
  pub counted : length (codes_counted s) ≡ s.count
  pub few : s.count ≤ 5
  pub others : s.codes ≡ in_five_places (codes_counted s)

-- The count and the array for these successors.
abbrev pub successor_fields : List Lei → Inside
successor_fields leis = record { count = length leis; codes = in_five_places leis }

-- The successors that are read from a count and an array give the same count and array.
abbrev pub successor_fields-listed : (s : Inside) → IsFilled s → successor_fields (codes_counted s) ≡ s
successor_fields-listed s is = λ i. record { count = is.counted i; codes = sym is.others i }
