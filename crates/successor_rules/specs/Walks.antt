-- The results of walks, over all that is held and over what a view answers. This project's profile.
use Rattle.std.specs.Prelude.{find, Bool, true, false, if◌then◌else◌, Option, Some, None}
use Rattle.lei_code.specs.Texts.{Lei}
use Rattle.lei_records.specs.declared.view.CellKey.{CellKey}
use Rattle.lei_records.specs.declared.view.Seen.{Seen}
use Rattle.lei_records.specs.Walks.{Next, is_long, is_met, walk_members}
use Rattle.successor_rules.specs.declared.walks.Walked.{Walked}

-- The result of a walk from the member `first`, for an entity whose own LEI is `start`. The walk comes back to the
-- start, or it is too long, or it ends.
abbrev pub walk_end : Next → Lei → Lei → Walked
walk_end next start first =
    if is_met next start first then Walked.Meets else if is_long next first then Walked.Long else Walked.Ends

-- ---- by what a view answers

-- What a view answers for the next one of an LEI.
abbrev pub SeenNext : Type 0
SeenNext = Lei → Seen Lei

-- What is held, if anything.
abbrev pub held_lei : Seen Lei → Option Lei
held_lei (Seen.Held lei) = Some lei
held_lei Seen.Empty = None
held_lei Seen.Missing = None

-- The view doesn't know the cell.
abbrev pub is_unknown : Seen Lei → Bool
is_unknown (Seen.Held lei) = false
is_unknown Seen.Empty = false
is_unknown Seen.Missing = true

-- What an LEI names next, to the view's knowledge.
abbrev pub known_next : SeenNext → Next
known_next answers lei = held_lei (answers lei)

-- The first of the 200 members whose next one the view doesn't know. The walk, to the view's knowledge, ends there.
abbrev pub first_lacking_member : SeenNext → Lei → Option Lei
first_lacking_member answers first = find (λ lei. is_unknown (answers lei)) (walk_members 200 (known_next answers) first)

-- The key of the cell that the view lacks, or if it lacks none, the result of the walk.
abbrev pub unless_lacking : (Lei → CellKey) → Option Lei → Walked → Walked
unless_lacking key (Some lei) walked = Walked.Missing (key lei)
unless_lacking key None walked = walked

-- The result of a walk over a view. It comes back to its start if the known members have it. Otherwise the key of the
-- first cell that the view lacks is reported. If it lacks none, the walk is too long or it ends.
abbrev pub walk_over : SeenNext → (Lei → CellKey) → Lei → Lei → Walked
walk_over answers key start first =
    if is_met (known_next answers) start first then Walked.Meets
    else unless_lacking key (first_lacking_member answers first)
    (if is_long (known_next answers) first then Walked.Long else Walked.Ends)
