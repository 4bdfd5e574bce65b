-- The texts of a search's answers: JSON objects in their compact form, with their names in byte order (RFC 8259).
use Rattle.std.specs.Prelude.{ℕ, List, [], ◌∷◌, codes, length}
use Rattle.serde_json.specs.Data.{Data, number, unsigned, string, array, object, Items, no_items, item, member, no_members}
use Rattle.serde_json.specs.Written.{compact_text}
use Rattle.lei_code.specs.Texts.{Text}
use Rattle.name_search.specs.NameTables.{Name}
use Rattle.name_search.specs.Searching.{page_of}

-- The key of a row, which is its LEI, and its legal name.
abbrev pub name_answer : Name → Data
name_answer name =
    object (member (codes "LEI") (string name.0) (member (codes "LegalName") (string name.1) no_members))

-- The items of an array of these.
abbrev pub name_items : List Name → Items
name_items [] = no_items
name_items (name ∷ names) = item (name_answer name) (name_items names)

-- How many names were found, these items of the page, and the page's number.
abbrev pub found_value : ℕ → Items → ℕ → Data
found_value matches names page =
    object (member (codes "matches") (number (unsigned matches))
    (member (codes "names") (array names)
    (member (codes "page") (number (unsigned page)) no_members)))

-- The same with the names of the page.
abbrev pub found_answer : ℕ → List Name → ℕ → Data
found_answer matches names page = found_value matches (name_items names) page

-- The answer if these names were found.
unfoldable pub found_text : List Name → ℕ → Text
found_text found page = compact_text (found_answer (length found) (page_of page found) page)

-- The number of rows.
abbrev pub rows_answer : ℕ → Data
rows_answer rows = object (member (codes "rows") (number (unsigned rows)) no_members)

-- The answer if a delta was taken, and this many rows are held after it.
unfoldable pub rows_text : ℕ → Text
rows_text rows = compact_text (rows_answer rows)
