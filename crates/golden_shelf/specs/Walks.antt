-- Walks: lines and their changes, gone through together step by step.
use Rattle.std.specs.Prelude.{List, [], ◌∷◌, ◌++◌, Option, Some, None}
use Rattle.std.specs.FinMap.Entries.{by_order}
use Rattle.std.specs.declared.cmp.Ordering.{Ordering}
use Rattle.copy_csv.specs.declared.rows.RowTexts.{RowTexts}
use Rattle.lei_records.specs.Tables.{KeyTexts, key_cmp}
use Rattle.golden_shelf.specs.Lines.{KeyedLine, LineChange}

-- The lines before a key.
abbrev pub below : KeyTexts → List KeyedLine → List KeyedLine
below k [] = []
below k (line ∷ lines) = by_order (key_cmp k line.0) [] [] (line ∷ below k lines)

-- The lines from a key on.
abbrev pub lines_from : KeyTexts → List KeyedLine → List KeyedLine
lines_from k [] = []
lines_from k (line ∷ lines) = by_order (key_cmp k line.0) (line ∷ lines) (line ∷ lines) (lines_from k lines)

-- Of lines from a key on, those after it.
abbrev pub past : KeyTexts → List KeyedLine → List KeyedLine
past k [] = []
past k (line ∷ lines) = by_order (key_cmp k line.0) (line ∷ lines) lines (line ∷ lines)

-- Of lines from a key on, the texts of this key, if it has a line.
abbrev pub texts_under : KeyTexts → List KeyedLine → Option RowTexts
texts_under k [] = None
texts_under k (line ∷ lines) = by_order (key_cmp k line.0) None (Some line.1) None

-- How a key compares with that of the first line, if there is one.
abbrev pub first_order : KeyTexts → List KeyedLine → Option Ordering
first_order k [] = None
first_order k (line ∷ lines) = Some (key_cmp k line.0)

-- The line that a change puts, if it has texts.
abbrev pub line_for : LineChange → List KeyedLine
line_for (k, None) = []
line_for (k, Some texts) = (k, texts) ∷ []

-- The lines after changes, by a walk over both.
abbrev pub interleave : List KeyedLine → List LineChange → List KeyedLine
interleave lines [] = lines
interleave lines (c ∷ cs) = below c.0 lines ++ (line_for c ++ interleave (past c.0 (lines_from c.0 lines)) cs)

-- What the changes replace on this walk.
abbrev pub changes_back : List KeyedLine → List LineChange → List LineChange
changes_back lines [] = []
changes_back lines (c ∷ cs) = (c.0, texts_under c.0 (lines_from c.0 lines)) ∷ changes_back (past c.0 (lines_from c.0 lines)) cs
