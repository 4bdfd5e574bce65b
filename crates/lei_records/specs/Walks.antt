-- Walks: from LEI to LEI, if each names at most one next LEI. This project's profile.
use Rattle.std.specs.Prelude.{◌≡◌, ◌≤◌, ℕ, zero, suc, ◌==◌, List, [], ◌∷◌, length, Bool, Option, Some, option_and_then}
use Rattle.std.specs.List.{list_any}
use Rattle.std.specs.Option.{option_map_or}
use Rattle.std.specs.Str.{bytes_eq}
use Rattle.lei_code.specs.Texts.{Lei}
use Rattle.lei_records.specs.Cells.{successor_in, successors_in}
use Rattle.lei_records.specs.Rows.{Row}
use Rattle.lei_records.specs.Tables.{Table, row_at}

-- The LEI that each LEI names next, if any.
abbrev pub Next : Type 0
Next = Lei → Option Lei

-- The members of a walk after its start: the first one, and then each that the one before it names. At most n are
-- listed.
unfoldable pub walk_members : ℕ → Next → Lei → List Lei
walk_members zero next first = []
walk_members (suc n) next first = first ∷ option_map_or (walk_members n next) (next first) []

-- One of the first 200 members is the start.
abbrev pub is_met : Next → Lei → Lei → Bool
is_met next start first = list_any (bytes_eq start) (walk_members 200 next first)

-- There is a 201st member.
abbrev pub is_long : Next → Lei → Bool
is_long next first = length (walk_members 201 next first) == 201

-- ---- successors

-- The first successor that the record of an LEI names, which is the only one by the first rules.
abbrev pub successor_of : Table → Lei → Option Lei
successor_of table lei = option_and_then successor_in (row_at table lei)

-- All successors that the record of an LEI names.
abbrev pub successors_of : Table → Lei → List Lei
successors_of table lei = option_map_or successors_in (row_at table lei) []

-- Each record of a table names at most one successor, as records that were accepted by the first rules do.
abbrev pub NameOne : Table → Type 0
NameOne table = (lei : Lei) (row : Row) → row_at table lei ≡ Some row → length (successors_in row) ≤ 1
