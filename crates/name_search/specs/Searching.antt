-- Which rows a search finds, and the pages that they are on.
use Rattle.std.specs.Prelude.{ℕ, ◌-◌, ◌*◌, Bool, List, take, drop, filter}
use Rattle.std.specs.List.{list_all, list_any}
use Rattle.std.specs.Str.{bytes_eq}
use Rattle.lei_code.specs.Texts.{Text}
use Rattle.name_search.specs.NameTables.{Name}
use Rattle.name_search.specs.Words.{words}

-- A word is among these.
abbrev pub is_word_among : List Text → Text → Bool
is_word_among these word = list_any (bytes_eq word) these

-- Each of the wanted words is among these.
abbrev pub has_each : List Text → List Text → Bool
has_each wanted these = list_all (is_word_among these) wanted

-- The name has each of the wanted words among its own.
abbrev pub is_match : List Text → Name → Bool
is_match wanted name = has_each wanted (words name.1)

-- The names that have each word of a text, in order.
abbrev pub found_names : List Name → Text → List Name
found_names names text = filter (is_match (words text)) names

-- The names on a page of 50; pages are counted from 1. After the last page there are none.
abbrev pub page_of : ℕ → List Name → List Name
page_of page names = take 50 (drop (50 * (page - 1)) names)
