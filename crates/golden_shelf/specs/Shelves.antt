-- Shelves: what is kept for a trail of publications.
use Rattle.std.specs.Prelude.{◌≡◌, ◌-◌, Bool, true, List, [], ◌∷◌, length, Option, Some, None, IfSome, map, unwrap_or, ⊤}
use Rattle.std.specs.List.{filter, slice_get}
use Rattle.register_words.specs.declared.sheets.Sheet.{Sheet}
use Rattle.copy_csv.specs.Sheets.{SheetRow}
use Rattle.copy_forms.specs.Trails.{IsSoundTrail, Publication, Trail, nothing_published}
use Rattle.golden_shelf.specs.declared.issue.Issue.{Issue}
use Rattle.golden_shelf.specs.Keys.{is_key_of, key_texts}
use Rattle.golden_shelf.specs.Lines.{KeyedLine, keyed_line}

-- ---- the latest publication

-- The last of several publications, given as the first and the later ones.
abbrev pub last_after : Publication → Trail → Publication
last_after first [] = first
last_after first (next ∷ later) = last_after next later

-- The latest publication of a trail, if there is one.
abbrev pub latest : Trail → Option Publication
latest [] = None
latest (first ∷ later) = Some (last_after first later)

-- The latest publication of a trail; without one, `nothing_published`.
abbrev pub latest_or_nothing : Trail → Publication
latest_or_nothing trail = unwrap_or (latest trail) nothing_published

-- The rows of the latest publication, by sheet.
abbrev pub latest_rows : Trail → Sheet → List SheetRow
latest_rows trail = (latest_or_nothing trail).rows

-- ---- what is kept

-- What is kept. For each publication, this is its moment, its width and the keys that changed. For the latest one, it
-- is also the texts of its rows under their keys.
pub record Kept : Type 0 where
  pub issues : List Issue
  pub lei : List KeyedLine
  pub rr : List KeyedLine
  pub repex : List KeyedLine

-- The lines of a sheet.
abbrev pub lines_of : Kept → Sheet → List KeyedLine
lines_of kept Sheet.Lei = kept.lei
lines_of kept Sheet.Rr = kept.rr
lines_of kept Sheet.Repex = kept.repex

-- What is kept without publications.
abbrev pub empty_shelf : Kept
empty_shelf = record { issues = []; lei = []; rr = []; repex = [] }

-- What contracts see of a shelf: what it keeps, and what it kept before the last publication, if that can be taken
-- back.
pub record ShelfState : Type 0 where
  pub now : Kept
  pub before : Option Kept

-- A publication of this width may follow those for which this is kept: no narrow one follows a wide one.
abbrev pub MayFollow : List Issue → Bool → Type 0
MayFollow issues wide =
    IfSome (slice_get issues (length issues - 1)) (λ issue. issue.wide ≡ true → wide ≡ true)

-- ---- shelves of trails

-- The issue is what is kept for the publication.
pub record IsIssueOf (issue : Issue) (publication : Publication) : Type 0 where
  pub moment_is : issue.moment ≡ publication.moment
  pub wide_is : issue.wide ≡ publication.wide
  pub touched_are : (sheet : Sheet)
      → publication.touched sheet ≡ map key_texts (filter (is_key_of sheet) issue.keys)

-- The issues are what is kept for the publications of a trail, in their order.
abbrev pub AreIssuesOf : List Issue → Trail → Type 0
AreIssuesOf [] [] = ⊤
AreIssuesOf (issue ∷ issues) (publication ∷ trail) = IsIssueOf issue publication × AreIssuesOf issues trail
AreIssuesOf issues trail = ⊥

-- This is kept for a trail: the trail is sound, and its publications are those for which something is kept. The lines
-- of each sheet are those of the latest rows.
pub record KeepsTrail (trail : Trail) (kept : Kept) : Type 0 where
  pub sound : IsSoundTrail trail
  pub issues_are : AreIssuesOf kept.issues trail
  pub lines_are : (sheet : Sheet) → lines_of kept sheet ≡ map keyed_line (latest_rows trail sheet)
