use Rattle.std.proofs.Common.{◌≡◌, ◌≤◌, ◌++◌, drop, length, take}
use Rattle.item_fields.specs.declared.readying.FieldCheck.{FieldCheck}
use Rattle.item_fields.proofs.SheetLemmas.{first_in, printed_in}
use Rattle.item_fields.proofs.readying.shaped_row.Given as goal

-- the first misshapen field of the rest is the first of all; the texts so far, followed by those of the rest, are the
-- row
abbrev pub invariant-loop-index : goal.invariant-loop-index
invariant-loop-index l = record {
  misshapen : first_in FieldCheck.Shape l.facts (drop l.index l.table) (drop l.index l.texts) ≡ first_in FieldCheck.Shape l.facts l.table l.texts;
  row : l.row ++ printed_in (drop l.index (take l.count l.table)) (drop l.index l.texts) ≡ printed_in (take l.count l.table) l.texts;
  short : length l.row ≤ l.index;
}
