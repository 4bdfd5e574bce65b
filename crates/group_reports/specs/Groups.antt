-- Groups: which entities belong to an entity, by walks from each entity up along direct parents. Copies come from
-- outside, so walks may come back to an earlier entity. This project's profile.
use Rattle.std.specs.Prelude.{◌≡◌, ℕ, zero, suc, ◌==◌, ◌&&◌, not, is_none, is_some, Bool, false, List, [], ◌∷◌, Option, None, Some, filter, find, flat_map, fold, length, map, option_and_then}
use Rattle.std.specs.BTreeSet.{insert_key}
use Rattle.std.specs.Cmp.Lexicographic.{slice_cmp}
use Rattle.std.specs.List.{range_with_len}
use Rattle.std.specs.Ordering.{nat_cmp}
use Rattle.std.specs.Str.{bytes_eq}
use Rattle.lei_code.specs.Texts.{Lei}
use Rattle.group_reports.specs.Links.{Link, direct, reported}

-- The LEIs without repetitions, in byte order.
abbrev pub leis_in_order : List Lei → List Lei
leis_in_order leis = fold (insert_key (slice_cmp nat_cmp)) [] leis

-- ---- walks up

-- The entity this many steps above an entity: no step leads to the entity itself, and each further one to the direct
-- parent.
abbrev pub entity_above : List Link → Lei → ℕ → Option Lei
entity_above links lei zero = Some lei
entity_above links lei (suc k) = option_and_then (direct links) (entity_above links lei k)

-- A chain of direct parents leads from one entity to another, however long it is.
abbrev pub LeadsUpTo : List Link → Lei → Lei → Type 0
LeadsUpTo links lei root = (k : ℕ) × (entity_above links lei k ≡ Some root)

-- The numbers of steps that walks take: up to the number of rows. A longer walk reaches no further entity.
abbrev pub steps : List Link → List ℕ
steps links = range_with_len 1 (length links)

-- There is an LEI, and it is this one.
abbrev pub is_this : Lei → Option Lei → Bool
is_this root None = false
is_this root (Some lei) = bytes_eq root lei

-- The walk up ends after this many steps.
abbrev pub ends_after : List Link → Lei → ℕ → Bool
ends_after links lei k = is_some (entity_above links lei k) && is_none (entity_above links lei (suc k))

-- The end of the walk up: the computed ultimate parent. There is none if there is no direct parent, or if the walk
-- comes back to an earlier entity.
abbrev pub top : List Link → Lei → Option Lei
top links lei = option_and_then (entity_above links lei) (find (ends_after links lei) (steps links))

-- ---- members

-- The depth of an entity below a root: the least number of steps that lead to the root, if any lead there.
abbrev pub depth : List Link → Lei → Lei → Option ℕ
depth links root lei = find (λ k. is_this root (entity_above links lei k)) (steps links)

-- There is a depth, and it is this one.
abbrev pub is_depth : ℕ → Option ℕ → Bool
is_depth d None = false
is_depth d (Some k) = k == d

-- The starts of all links, in byte order.
abbrev pub starts : List Link → List Lei
starts links = leis_in_order (map (λ link. link.start) links)

-- An entity other than the root is at this depth below it.
abbrev pub is_member_at : List Link → Lei → ℕ → Lei → Bool
is_member_at links root d lei = not (bytes_eq root lei) && is_depth d (depth links root lei)

-- The members of a group at one depth, in byte order.
abbrev pub members_at : List Link → Lei → ℕ → List Lei
members_at links root d = filter (is_member_at links root d) (starts links)

-- The members of a group, by depth and then in byte order.
abbrev pub members : List Link → Lei → List Lei
members links root = flat_map (members_at links root) (steps links)

-- The root and the members, in byte order.
abbrev pub group : List Link → Lei → List Lei
group links root = leis_in_order (root ∷ members links root)

-- ---- disagreements

-- Both are missing, or both are there and equal.
abbrev pub is_same : Option Lei → Option Lei → Bool
is_same None other = is_none other
is_same (Some lei) other = is_this lei other

-- The reported and the computed ultimate parent of an entity differ.
abbrev pub disagrees : List Link → Lei → Bool
disagrees links lei = not (is_same (reported links lei) (top links lei))
