-- Levels: a walk down from a root, level by level.
use Rattle.std.specs.Prelude.{Bool, false, not, ◌&&◌, List, Option, None, Some}
use Rattle.std.specs.Str.{bytes_eq}
use Rattle.lei_code.specs.Texts.{Lei}
use Rattle.group_reports.specs.Links.{Link, direct}

-- There is an LEI, and it passes a test.
abbrev pub is_in : (Lei → Bool) → Option Lei → Bool
is_in test None = false
is_in test (Some lei) = test lei

-- An entity other than the root has its direct parent in a level.
abbrev pub is_next : List Link → Lei → (Lei → Bool) → Lei → Bool
is_next links root is_level lei = not (bytes_eq root lei) && is_in is_level (direct links lei)
