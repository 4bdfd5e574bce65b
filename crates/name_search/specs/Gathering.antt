-- What a search has gathered from the names that it has come to.
use Rattle.std.specs.Prelude.{◌≡◌, ℕ, List, take, drop, length}
use Rattle.name_search.specs.NameTables.{Name}

-- The count is that of these matches, and the names are those on the page that starts after the first `start` of them.
pub record GathersPage (start : ℕ) (matches : List Name) (count : ℕ) (names : List Name) : Type 0 where
  pub count_is : count ≡ length matches
  pub names_are : names ≡ take 50 (drop start matches)
