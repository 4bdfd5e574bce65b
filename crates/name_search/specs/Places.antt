-- Where a key stands among names in the order of their keys.
use Rattle.std.specs.Prelude.{◌≡◌, ◌<◌, ◌≤◌, ℕ, List, get_or, length}
use Rattle.std.specs.declared.cmp.Ordering.{Ordering}
use Rattle.lei_code.specs.Texts.{Text}
use Rattle.name_search.specs.NameTables.{Name}
use Rattle.name_search.specs.Keys.{text_cmp}

-- The key comes after those of the names before a place.
abbrev pub FollowsNames : List Name → Text → ℕ → Type 0
FollowsNames names key place = (k : ℕ) (d : Name) → k < place → text_cmp key (get_or names k d).0 ≡ Ordering.Greater

-- It comes before those of the names from a place on.
abbrev pub PrecedesNames : List Name → Text → ℕ → Type 0
PrecedesNames names key place =
    (k : ℕ) (d : Name) → place ≤ k → k < length names → text_cmp key (get_or names k d).0 ≡ Ordering.Less

-- It is that of the name at a place.
abbrev pub IsHere : List Name → Text → ℕ → Type 0
IsHere names key place = (d : Name) → text_cmp key (get_or names place d).0 ≡ Ordering.Equal
