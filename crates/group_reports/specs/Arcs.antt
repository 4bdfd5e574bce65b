-- Arcs: links whose LEIs are identified by their places.
use Rattle.std.specs.Prelude.{◌≡◌, ◌<◌, ◌==◌, ◌&&◌, ℕ, Bool, false, List, Option, find, length, option_map}
use Rattle.lei_code.specs.Texts.{Lei}
use Rattle.group_reports.specs.declared.arcs.Arc.{Arc}
use Rattle.group_reports.specs.declared.kinds.LinkKind.{LinkKind}
use Rattle.group_reports.specs.Links.{Link, is_direct_link, is_ultimate}
use Rattle.group_reports.specs.Places.{at, step_up}

-- The link that an arc represents.
abbrev pub link_at : List Lei → Arc → Link
link_at leis arc = record { start = at leis arc.start; kind = arc.kind; end = at leis arc.end }

-- Both ends are places below a count.
abbrev pub HasPlacesBelow : ℕ → Arc → Type 0
HasPlacesBelow count arc = (arc.start < count) × (arc.end < count)

-- A kind is the wanted one, for a direct or an ultimate parent.
abbrev pub is_wanted_kind : LinkKind → LinkKind → Bool
is_wanted_kind LinkKind.Direct kind = is_direct_link kind
is_wanted_kind LinkKind.Ultimate kind = is_ultimate kind
is_wanted_kind LinkKind.Other kind = false

-- The end of the first arc of a kind that starts at a place.
abbrev pub first_end : List Arc → LinkKind → ℕ → Option ℕ
first_end arcs kind place = option_map (λ arc. arc.end) (find (λ arc. is_wanted_kind kind arc.kind && place == arc.start) arcs)

-- These are the first ends of all places below a count.
pub record AreFirstEnds (count : ℕ) (arcs : List Arc) (kind : LinkKind) (ends : List (Option ℕ)) : Type 0 where
  pub counted : length ends ≡ count
  pub each : (place : ℕ) → step_up ends place ≡ first_end arcs kind place
