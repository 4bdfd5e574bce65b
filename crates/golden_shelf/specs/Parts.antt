-- Parts: what is kept for each sheet, and what was kept before.
use Rattle.std.specs.Prelude.{◌-◌, List, length, take}
use Rattle.register_words.specs.declared.sheets.Sheet.{Sheet}
use Rattle.golden_shelf.specs.declared.issue.Issue.{Issue}
use Rattle.golden_shelf.specs.declared.sides.Sides.{Sides}
use Rattle.golden_shelf.specs.Lines.{with_lines}
use Rattle.golden_shelf.specs.Shelves.{Kept}
use Rattle.golden_shelf.specs.Sides.{SideState}

-- The side of a sheet.
abbrev pub side_of : Sides → Sheet → SideState
side_of sides Sheet.Lei = sides.lei
side_of sides Sheet.Rr = sides.rr
side_of sides Sheet.Repex = sides.repex

-- What is kept, built from its parts.
abbrev pub kept_parts : List Issue → Sides → Kept
kept_parts issues sides = record
    { issues = issues; lei = sides.lei.lines; rr = sides.rr.lines; repex = sides.repex.lines }

-- What was kept before the last publication: all publications but the last, and the lines with what it replaced.
abbrev pub before_of : List Issue → Sides → Kept
before_of issues sides = record {
  issues = take (length issues - 1) issues;
  lei = with_lines sides.lei.lines sides.lei.notes;
  rr = with_lines sides.rr.lines sides.rr.notes;
  repex = with_lines sides.repex.lines sides.repex.notes;
}
