-- What a line of a search says. This project's profile.
use Rattle.std.specs.Prelude.{ℕ, List, codes, if◌then◌else◌, Option, None, Some, ◌||◌}
use Rattle.std.specs.Str.{bytes_eq, is_utf8}
use Rattle.register_words.specs.Words.{number_within}
use Rattle.line_reading.specs.Lines.{Line}
use Rattle.line_reading.specs.Requests.{cut_at_space}
use Rattle.query_reading.specs.declared.grammar.LineMeaning.{LineMeaning}
use Rattle.query_reading.specs.declared.refusal.QueryRefusal.TheVariants.{NoRoute, Path}
use Rattle.search_queries.specs.declared.grammar.FindQuery.{FindQuery}

-- What lines of a search say: the text to find and the page of results, and of a packet nothing but its size.
abbrev pub SearchMeaning : Type 0
SearchMeaning = LineMeaning FindQuery (Unit {0})

-- A page has a number from 1 to 1,000,000.
abbrev pub page_named : List ℕ → Option ℕ
page_named word = number_within 1 1_000_000 word

-- A delta has from 1 to 1,073,741,824 bytes.
abbrev pub delta_size : List ℕ → Option ℕ
delta_size word = number_within 1 1_073_741_824 word

-- The bytes, if they are UTF-8.
abbrev pub utf8_in : List ℕ → Option (List ℕ)
utf8_in bytes = if is_utf8 bytes then Some bytes else None

-- A page and a text.
abbrev pub find_by : Option ℕ → Option (List ℕ) → SearchMeaning
find_by None text = LineMeaning.Refused Path
find_by (Some page) None = LineMeaning.Refused Path
find_by (Some page) (Some text) = LineMeaning.Query (record { page = page; text = text })

-- The same for words that were cut at their first space if they have one.
abbrev pub find_in : Option (List ℕ × List ℕ) → SearchMeaning
find_in None = LineMeaning.Refused Path
find_in (Some parts) = find_by (page_named parts.0) (utf8_in parts.1)

-- FIND: the number of a page, and everything after the space that follows it as the text.
unfoldable pub find_of : List ℕ → SearchMeaning
find_of rest = find_in (cut_at_space rest)

-- A packet of this size.
abbrev pub take_by : Option ℕ → SearchMeaning
take_by None = LineMeaning.Refused Path
take_by (Some size) = LineMeaning.Packet (tt {0}) size

-- TAKE: the number of the bytes of the delta that follows.
unfoldable pub take_of : List ℕ → SearchMeaning
take_of rest = take_by (delta_size rest)

-- A first word on its own lacks the words that belong to it.
abbrev pub search_says_alone : List ℕ → SearchMeaning
search_says_alone word =
    if bytes_eq word (codes "FIND") || bytes_eq word (codes "TAKE") then LineMeaning.Refused Path
    else LineMeaning.Refused NoRoute

-- What a first word says with what follows its space.
abbrev pub search_says_with : List ℕ → List ℕ → SearchMeaning
search_says_with word rest =
    if bytes_eq word (codes "FIND") then find_of rest
    else (if bytes_eq word (codes "TAKE") then take_of rest else LineMeaning.Refused NoRoute)

-- What a line says that was cut at its first space, if it has one.
abbrev pub search_says_cut : Line → Option (List ℕ × List ℕ) → SearchMeaning
search_says_cut line None = search_says_alone line
search_says_cut line (Some parts) = search_says_with parts.0 parts.1

-- What a line of a search says: the first of these that applies. Its first word is unknown; its other words aren't
-- those that belong to the first, or the text isn't UTF-8; or what it asks.
abbrev pub search_says : Line → SearchMeaning
search_says line = search_says_cut line (cut_at_space line)
