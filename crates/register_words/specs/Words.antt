-- The readings of single words of requests. This project's profile.
use Rattle.std.specs.Prelude.{ℕ, List, codes, decimal, nat_le, ◌&&◌, if◌then◌else◌, Option, Some, None, option_map, is_none}
use Rattle.std.specs.Str.{bytes_eq}
use Rattle.std.specs.Str.Parse.{digits_value}
use Rattle.lei_code.specs.Fault.{fault_of}
use Rattle.lei_code.specs.Texts.{Lei}
use Rattle.register_words.specs.declared.sheets.Form.{Form}
use Rattle.register_words.specs.declared.sheets.Sheet.{Sheet}
use Rattle.register_words.specs.declared.base.Base.{Base}

-- The bytes, if they are an LEI.
abbrev pub lei_from : List ℕ → Option Lei
lei_from bytes = if is_none (fault_of bytes) then Some bytes else None

-- The number, if it is in this range and the bytes are exactly its decimal text.
abbrev pub plain_number : ℕ → ℕ → List ℕ → ℕ → Option ℕ
plain_number low high bytes n =
    if nat_le low n && nat_le n high && bytes_eq (decimal n) bytes then Some n else None

-- The number in this range that the bytes write in decimal, without sign or leading zero.
unfoldable pub number_within : ℕ → ℕ → List ℕ → Option ℕ
number_within low high bytes = plain_number low high bytes (digits_value 10 bytes)

-- An upload's number is at most 1,000,000, and so is a publication's.
abbrev pub number_limit : ℕ
number_limit = 1_000_000

-- The number of an upload or of a publication: from 1 to its limit.
abbrev pub number_in_word : List ℕ → Option ℕ
number_in_word bytes = number_within 1 number_limit bytes

-- The sheet with this name.
abbrev pub sheet_named : List ℕ → Option Sheet
sheet_named word =
    if bytes_eq word (codes "lei") then Some Sheet.Lei
    else (if bytes_eq word (codes "rr") then Some Sheet.Rr
    else (if bytes_eq word (codes "repex") then Some Sheet.Repex else None))

-- The form with this name.
abbrev pub form_named : List ℕ → Option Form
form_named word =
    if bytes_eq word (codes "csv") then Some Form.Csv
    else (if bytes_eq word (codes "json") then Some Form.Json else None)

-- The base of a delta that the bytes name. It is the latest publication that is at least a day, a week or a month old,
-- or the one with a number.
abbrev pub base_named : List ℕ → Option Base
base_named word =
    if bytes_eq word (codes "last-day") then Some Base.LastDay
    else (if bytes_eq word (codes "last-week") then Some Base.LastWeek
    else (if bytes_eq word (codes "last-month") then Some Base.LastMonth
    else option_map Base.Number (number_in_word word)))
