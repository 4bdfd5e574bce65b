-- The two parts of a cell's name in form 2: the first 20 characters, which are an LEI, and what follows them.
use Rattle.std.specs.Prelude.{◌≡◌, ◌≤◌, ◌<◌, ℕ, List, [], length, take, drop}

-- How many characters an LEI has.
abbrev pub lei_length : ℕ
lei_length = 20

-- The first characters of a name, or the whole name if it is shorter.
abbrev pub lei_of : List ℕ → List ℕ
lei_of name = take lei_length name

-- What follows those characters.
abbrev pub rest_of : List ℕ → List ℕ
rest_of name = drop lei_length name

-- The two texts are parts of a name. The first is at most as long as an LEI. If it is shorter, the second is empty.
pub record AreNameParts (lei rest : List ℕ) : Type 0 where
  pub most : length lei ≤ lei_length
  pub whole : length lei < lei_length → rest ≡ []
