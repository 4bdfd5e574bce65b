-- The LEIs that are nearest to an entity if each LEI may name several next ones: level by level. This project's
-- profile.
use Rattle.std.specs.Prelude.{ℕ, zero, suc, not, List, [], ◌∷◌, ◌++◌, filter, flat_map, take}
use Rattle.std.specs.BTreeSet.{insert_key}
use Rattle.std.specs.Cmp.Lexicographic.{slice_cmp}
use Rattle.std.specs.List.{fold}
use Rattle.std.specs.Ordering.{nat_cmp}
use Rattle.std.specs.Set.{is_member}
use Rattle.std.specs.Str.{bytes_eq}
use Rattle.lei_code.specs.Texts.{Lei}
use Rattle.successor_rules.specs.Chains.{Nexts}

-- Those of the LEIs that weren't met before.
abbrev pub unmet_leis : List Lei → List Lei → List Lei
unmet_leis met leis = filter (λ lei. not (is_member bytes_eq met lei)) leis

-- The different LEIs of the list, in byte order.
abbrev pub distinct_leis : List Lei → List Lei
distinct_leis leis = fold (insert_key (slice_cmp nat_cmp)) [] leis

-- The new LEIs of a level: those that the level before it names and that weren't met, each once and in byte order.
abbrev pub new_ones : Nexts → List Lei → List Lei → List Lei
new_ones nexts met before = distinct_leis (unmet_leis met (flat_map nexts before))

-- The new LEIs of the next n levels, level by level. `met` has the LEIs so far, and `before` the new ones of the level
-- before.
unfoldable pub by_levels : ℕ → Nexts → List Lei → List Lei → List Lei
by_levels zero nexts met before = []
by_levels (suc n) nexts met before =
    let level = new_ones nexts met before in level ++ by_levels n nexts (met ++ level) level

-- The first 201 different LEIs of an entity's levels, other than its own. They come level by level, each at the first
-- level that has it, and in byte order within a level. After a level without a new LEI there are no new ones, so 201
-- levels have them all.
abbrev pub nearest : Nexts → Lei → List Lei
nearest nexts own = take 201 (by_levels 201 nexts (own ∷ []) (own ∷ []))
