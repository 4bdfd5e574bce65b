-- Places: LEIs in byte order, and what links say of them, by place.
use Rattle.std.specs.Prelude.{◌≡◌, ◌<◌, ◌≤◌, ◌+◌, ◌-◌, ◌==◌, ℕ, zero, suc, Bool, false, if◌then◌else◌, is_none, is_some, List, [], ◌∷◌, Option, None, Some, find, flat_map, fold, get_or, length, option_map, unwrap_or, ⊤}
use Rattle.std.specs.BTreeSet.{insert_key}
use Rattle.std.specs.Cmp.Lexicographic.{slice_cmp}
use Rattle.std.specs.List.{All, range_with_len}
use Rattle.std.specs.List.Sorted.{IsStrictlySortedBy}
use Rattle.std.specs.Ordering.{nat_cmp}
use Rattle.std.specs.Set.{is_member}
use Rattle.std.specs.Str.{bytes_eq}
use Rattle.lei_code.specs.Texts.{Lei}
use Rattle.group_reports.specs.Groups.{leis_in_order}
use Rattle.group_reports.specs.Links.{Link}

-- ---- LEIs by place

-- The two LEIs of a link.
abbrev pub ends_of : Link → List Lei
ends_of link = link.start ∷ link.end ∷ []

-- The LEIs that links start or end at, each once and in byte order.
abbrev pub leis_of : List Link → List Lei
leis_of links = leis_in_order (flat_map ends_of links)

-- Each once, and in byte order.
abbrev pub AreSortedLeis : List Lei → Type 0
AreSortedLeis leis = IsStrictlySortedBy (slice_cmp nat_cmp) leis

-- The LEI at a place; places are counted from 0.
abbrev pub at : List Lei → ℕ → Lei
at leis place = get_or leis place []

-- The same for a place that may be missing.
abbrev pub at_some : List Lei → Option ℕ → Option Lei
at_some leis place = option_map (at leis) place

-- If a place was found, it is that of this LEI, and if none was, the LEI isn't there.
abbrev pub IsLeiPlace : List Lei → Lei → Option ℕ → Type 0
IsLeiPlace leis lei None = is_member bytes_eq leis lei ≡ false
IsLeiPlace leis lei (Some place) = (place < length leis) × (at leis place ≡ lei)

-- ---- steps up

-- The place that the step up from a place leads to, if there is one.
abbrev pub step_up : List (Option ℕ) → ℕ → Option ℕ
step_up parents place = get_or parents place None

-- A place that may be missing is below a count.
abbrev pub IsBelow : ℕ → Option ℕ → Type 0
IsBelow count None = ⊤
IsBelow count (Some place) = place < count

-- Each step leads to a place within the list.
abbrev pub LeadsWithin : List (Option ℕ) → Type 0
LeadsWithin parents = (place : ℕ) → IsBelow (length parents) (step_up parents place)

-- A list gives for the LEI at each place what a definition says of that LEI.
pub record FindsEach (leis : List Lei) (places : List (Option ℕ)) (meaning : Lei → Option Lei) : Type 0 where
  pub counted : length places ≡ length leis
  pub within : LeadsWithin places
  pub each : (place : ℕ) → place < length leis → at_some leis (step_up places place) ≡ meaning (at leis place)

-- ---- many steps up

-- A step up, which stays at the end of the walk.
abbrev pub stay : List (Option ℕ) → ℕ → ℕ
stay parents place = unwrap_or (step_up parents place) place

-- This many such steps.
abbrev pub stays : List (Option ℕ) → ℕ → ℕ → ℕ
stays parents zero place = place
stays parents (suc k) place = stay parents (stays parents k place)

-- A list gives for each place where this many steps lead.
pub record LeadsBy (parents : List (Option ℕ)) (steps : ℕ) (far : List ℕ) : Type 0 where
  pub counted : length far ≡ length parents
  pub within : (place : ℕ) → place < length parents → get_or far place 0 < length parents
  pub each : (place : ℕ) → place < length parents → get_or far place 0 ≡ stays parents steps place

-- The same for some number of steps that is at least this one.
pub record LeadsFar (parents : List (Option ℕ)) (least : ℕ) (far : List ℕ) : Type 0 where
  pub steps : ℕ
  pub enough : least ≤ steps
  pub leads : LeadsBy parents steps far

-- The end of a walk up, given the place that many steps lead to. There is none if no step leads up from the start, or
-- if one still leads up from that place.
abbrev pub end_by : List (Option ℕ) → ℕ → ℕ → Option ℕ
end_by parents place far =
    if is_none (step_up parents place) then None else if is_some (step_up parents far) then None else Some far

-- A list gives for each place the end of the walk up from it.
pub record FindsTops (parents : List (Option ℕ)) (least : ℕ) (tops : List (Option ℕ)) : Type 0 where
  pub steps : ℕ
  pub enough : least ≤ steps
  pub counted : length tops ≡ length parents
  pub within : LeadsWithin tops
  pub each : (place : ℕ) → place < length parents → step_up tops place ≡ end_by parents place (stays parents steps place)

-- ---- steps down

-- A place that may be missing is this one.
abbrev pub is_at : ℕ → Option ℕ → Bool
is_at place None = false
is_at place (Some other) = other == place

-- The step up from a place leads to this one.
abbrev pub is_child : List (Option ℕ) → ℕ → ℕ → Bool
is_child parents parent child = is_at parent (step_up parents child)

-- The first child of a parent, at a place or after it.
abbrev pub child_from : List (Option ℕ) → ℕ → ℕ → Option ℕ
child_from parents parent place = find (is_child parents parent) (range_with_len place (length parents - place))

-- The first child of each place, and for each child the next one of its parent.
pub record FindsChildren (parents firsts nexts : List (Option ℕ)) : Type 0 where
  pub first_count : length firsts ≡ length parents
  pub next_count : length nexts ≡ length parents
  pub first : (parent : ℕ) → step_up firsts parent ≡ child_from parents parent 0
  pub next : (parent child : ℕ) → step_up parents child ≡ Some parent → step_up nexts child ≡ child_from parents parent (child + 1)

-- ---- places that may be missing

-- Both are missing, or both are there and equal.
abbrev pub are_same : Option ℕ → Option ℕ → Bool
are_same None other = is_none other
are_same (Some place) None = false
are_same (Some place) (Some other) = place == other

-- ---- sets of places

-- A place is among these.
abbrev pub has_place : List ℕ → ℕ → Bool
has_place places place = is_member (λ x y. x == y) places place

-- A place that may be missing is among these.
abbrev pub has_some : List ℕ → Option ℕ → Bool
has_some places None = false
has_some places (Some place) = has_place places place

-- All of these are below a count.
abbrev pub AreBelow : ℕ → List ℕ → Type 0
AreBelow count places = All (λ place. place < count) places

-- The places without repetitions, in order.
abbrev pub places_in_order : List ℕ → List ℕ
places_in_order places = fold (insert_key nat_cmp) [] places
