-- Levels: what is reached from an entity, step by step, if each LEI may name several next ones. This project's profile.
use Rattle.std.specs.Prelude.{◌≡◌, ℕ, zero, suc, Bool, true, false, if◌then◌else◌, List, [], ◌∷◌, ◌++◌, length, nat_lt, take, find, flat_map, Option}
use Rattle.std.specs.Set.{is_member}
use Rattle.std.specs.Str.{bytes_eq}
use Rattle.lei_code.specs.Texts.{Lei}
use Rattle.lei_records.specs.declared.view.CellKey.{CellKey}
use Rattle.lei_records.specs.declared.view.Seen.{Seen}
use Rattle.successor_rules.specs.declared.walks.Walked.{Walked}
use Rattle.successor_rules.specs.Chains.{Nexts}
use Rattle.successor_rules.specs.Walks.{unless_lacking}

-- ---- levels

-- The LEIs that an entity's walk goes on to from one that it reached: those that this one names. From the entity's own
-- LEI it goes on to none.
abbrev pub onward_leis : Nexts → Lei → Lei → List Lei
onward_leis nexts own lei = if bytes_eq lei own then [] else nexts lei

-- The next level: all LEIs that the walk goes on to from the members of this one.
abbrev pub next_level : Nexts → Lei → List Lei → List Lei
next_level nexts own level = flat_map (onward_leis nexts own) level

-- This many levels, one after another, starting with the first, which is what the entity itself names.
unfoldable pub levels : ℕ → Nexts → Lei → List Lei → List Lei
levels zero nexts own level = []
levels (suc n) nexts own level = level ++ levels n nexts own (next_level nexts own level)

-- The LEIs of a list that weren't seen before it, each once, in the order of their first occurrences.
abbrev pub each_once : List Lei → List Lei → List Lei
each_once seen [] = []
each_once seen (lei ∷ leis) =
    if is_member bytes_eq seen lei then each_once seen leis else lei ∷ each_once (seen ++ lei ∷ []) leis

-- The different LEIs of this many levels other than the entity's own, in the order in which the levels reach them.
abbrev pub others : ℕ → Nexts → Lei → List Lei → List Lei
others n nexts own first = each_once (own ∷ []) (levels n nexts own first)

-- The first 200 of the different LEIs of levels 1 to 201 other than the entity's own. What these name decides the
-- result of the walk.
abbrev pub reachable : Nexts → Lei → List Lei → List Lei
reachable nexts own first = take 200 (others 201 nexts own first)

-- Levels 1 to 201 have more than 200 different LEIs other than the entity's own.
abbrev pub has_wide_levels : Nexts → Lei → List Lei → Bool
has_wide_levels nexts own first = nat_lt 200 (length (others 201 nexts own first))

-- The entity's own LEI is among levels 1 to 201.
abbrev pub is_back : Nexts → Lei → List Lei → Bool
is_back nexts own first = is_member bytes_eq (levels 201 nexts own first) own

-- The result of the walk by levels from what an entity names. The walk reaches too many LEIs, or it comes back to the
-- entity, or it ends.
abbrev pub spread_out : Nexts → Lei → List Lei → Walked
spread_out nexts own first =
    if has_wide_levels nexts own first then Walked.Long else if is_back nexts own first then Walked.Meets else Walked.Ends

-- ---- by what a view answers

-- What a view answers for the next ones of an LEI.
abbrev pub SeenNexts : Type 0
SeenNexts = Lei → Seen (List Lei)

-- The next ones that are held, if any are.
abbrev pub held_nexts : Seen (List Lei) → List Lei
held_nexts (Seen.Held leis) = leis
held_nexts Seen.Empty = []
held_nexts Seen.Missing = []

-- The view doesn't know the cell in which they are named.
abbrev pub lacks_nexts : Seen (List Lei) → Bool
lacks_nexts (Seen.Held leis) = false
lacks_nexts Seen.Empty = false
lacks_nexts Seen.Missing = true

-- What an LEI names next, to the view's knowledge.
abbrev pub known_nexts : SeenNexts → Nexts
known_nexts answers lei = held_nexts (answers lei)

-- The first of the LEIs that the walk reaches, to the view's knowledge, whose next ones the view doesn't know.
abbrev pub first_lacking : SeenNexts → Lei → List Lei → Option Lei
first_lacking answers own first = find (λ lei. lacks_nexts (answers lei)) (others 201 (known_nexts answers) own first)

-- The result of the walk by levels over a view. It is too long if the LEIs that are known to be reached are too many.
-- Otherwise the key of the first cell that the view lacks is reported. If it lacks none, the walk comes back or it
-- ends.
abbrev pub spread_over : SeenNexts → (Lei → CellKey) → Lei → List Lei → Walked
spread_over answers key own first =
    if has_wide_levels (known_nexts answers) own first then Walked.Long
    else unless_lacking key (first_lacking answers own first)
    (if is_back (known_nexts answers) own first then Walked.Meets else Walked.Ends)

-- What a view answers agrees with what LEIs name: for each LEI it answers all of it, or nothing.
abbrev pub Agree : SeenNexts → Nexts → Type 0
Agree answers nexts = (lei : Lei) → lacks_nexts (answers lei) ≡ false → nexts lei ≡ known_nexts answers lei
