-- The texts of group reports: this project's profile.
use Rattle.std.specs.Prelude.{ℕ, List, [], ◌∷◌, ◌++◌, Option, codes, decimal, filter, flat_map, length, option_and_then, unwrap_or}
use Rattle.lei_code.specs.Texts.{Lei, Text}
use Rattle.lei_records.specs.Spelled.{present}
use Rattle.group_reports.specs.Groups.{disagrees, entity_above, group, members, starts, top}
use Rattle.group_reports.specs.Links.{GroupTable, Link, Name, name_at, reported}
use Rattle.group_reports.specs.Listings.{Member, all_members}

-- A word preceded by a space.
abbrev pub after_space : Text → Text
after_space word = 32 ∷ word

-- A line with a first word and others.
abbrev pub report_line : Text → List Text → Text
report_line first others = first ++ (flat_map after_space others ++ 10 ∷ [])

-- A word, or a hyphen if it is missing.
abbrev pub or_hyphen : Option Text → Text
or_hyphen word = unwrap_or word (codes "-")

-- The legal name of an entity. It is missing if the entity has no row, or if the row has no text there.
abbrev pub name_under : List Name → Lei → Option Text
name_under names lei = option_and_then present (name_at names lei)

-- ---- a report on a group

-- The line of the root: its LEI and its name.
abbrev pub root_line : List Name → Lei → Text
root_line names root = report_line (codes "GROUP") (root ∷ or_hyphen (name_under names root) ∷ [])

-- The line of a member: its depth, its LEI, the LEI of its direct parent, and its name.
abbrev pub member_line : GroupTable → Member → Text
member_line table member =
    report_line (decimal member.depth)
    (member.lei ∷ or_hyphen (entity_above table.links member.lei 1) ∷ or_hyphen (name_under table.names member.lei) ∷ [])

-- The lines of the members.
abbrev pub member_lines : GroupTable → Lei → Text
member_lines table root = flat_map (member_line table) (all_members table.links root)

-- The line with the number of members.
abbrev pub members_line : ℕ → Text
members_line count = report_line (codes "members") (decimal count ∷ [])

-- ---- disagreements

-- The line of an entity that disagrees: the reported ultimate parent, and the computed one.
abbrev pub disagreement_line : List Link → Lei → Text
disagreement_line links lei =
    report_line (codes "DISAGREES") (lei ∷ or_hyphen (reported links lei) ∷ or_hyphen (top links lei) ∷ [])

-- The lines of those entities that disagree, and a line with their number.
abbrev pub disagreement_lines : List Link → List Lei → Text
disagreement_lines links leis =
    flat_map (disagreement_line links) (filter (disagrees links) leis)
    ++ report_line (codes "disagreements") (decimal (length (filter (disagrees links) leis)) ∷ [])

-- ---- the texts

-- The report on the group of a root.
unfoldable pub group_report : GroupTable → Lei → Text
group_report table root =
    root_line table.names root
    ++ (member_lines table root
    ++ (members_line (length (members table.links root))
    ++ disagreement_lines table.links (group table.links root)))

-- The disagreements of all starts.
unfoldable pub disagreement_report : GroupTable → Text
disagreement_report table = disagreement_lines table.links (starts table.links)
