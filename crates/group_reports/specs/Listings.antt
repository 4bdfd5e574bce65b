-- The members of a group with their depths, listed before they are written.
use Rattle.std.specs.Prelude.{ℕ, List, map, unwrap_or}
use Rattle.lei_code.specs.Texts.{Lei}
use Rattle.group_reports.specs.declared.listing.Placed.{Placed}
use Rattle.group_reports.specs.Groups.{depth, members}
use Rattle.group_reports.specs.Links.{Link}
use Rattle.group_reports.specs.Places.{at}

-- A member of a group: the number of steps up from it to the root, and its LEI.
pub record Member : Type 0 where
  pub depth : ℕ
  pub lei : Lei

-- A member, with its depth.
abbrev pub member_of : List Link → Lei → Lei → Member
member_of links root lei = record { depth = unwrap_or (depth links root lei) 0; lei = lei }

-- An entity at a depth.
abbrev pub at_depth : ℕ → Lei → Member
at_depth d lei = record { depth = d; lei = lei }

-- All members with their depths.
abbrev pub all_members : List Link → Lei → List Member
all_members links root = map (member_of links root) (members links root)

-- The member whose LEI is at a place.
abbrev pub member_at : List Lei → Placed → Member
member_at leis placed = record { depth = placed.depth; lei = at leis placed.place }

-- A place at a depth.
abbrev pub placed_at : ℕ → ℕ → Placed
placed_at d place = record { depth = d; place = place }
