-- Which cells an item names, and which it needs. This project's profile.
use Rattle.std.specs.Prelude.{List, [], ◌∷◌, ◌++◌, if◌then◌else◌, Option, Some, None, map}
use Rattle.lei_code.specs.Texts.{Lei, Text}
use Rattle.lei_shapes.specs.declared.lists.RelationType.{RelationType}
use Rattle.lei_records.specs.declared.item.Item.{Item}
use Rattle.lei_records.specs.declared.item.Readied.{Readied}
use Rattle.lei_records.specs.declared.rules.Rules.{Rules}
use Rattle.lei_records.specs.declared.view.CellKey.{CellKey}
use Rattle.lei_records.specs.Cells.{Cells, akey, lei_in, successor_in, successors_in}
use Rattle.lei_records.specs.Relations.{end_in}
use Rattle.lei_records.specs.Rows.{Row}
use Rattle.lei_records.specs.Walks.{walk_members}
use Rattle.successor_rules.specs.Levels.{SeenNexts, known_nexts, reachable}
use Rattle.successor_rules.specs.Successors.{successor_seen, successors_seen}
use Rattle.successor_rules.specs.Walks.{SeenNext, known_next}
use Rattle.relation_rules.specs.Checks.{is_direct_parent}
use Rattle.relation_rules.specs.Needs.{exception_names, relation_names}

-- ---- the cells that an item names

-- The cell of an authority key, if a record has one.
abbrev pub key_names : Option (Text × Text) → List CellKey
key_names None = []
key_names (Some key) = CellKey.Key key.0 key.1 ∷ []

-- The records of the successors of a record.
abbrev pub successor_names : List Lei → List CellKey
successor_names successors = map CellKey.Rec successors

-- The cells that a record names: its own, that of its authority key, and those of its successors.
abbrev pub record_names : Row → List CellKey
record_names row = CellKey.Rec (lei_in row) ∷ (key_names (akey row) ++ successor_names (successors_in row))

-- The cells that an item names. An item that failed the checks of its fields names none.
abbrev pub named_cells : Readied → List CellKey
named_cells (Readied.Bad check) = []
named_cells (Readied.Good (Item.Record row)) = record_names row
named_cells (Readied.Good (Item.Relation row)) = relation_names row
named_cells (Readied.Good (Item.Exception item)) = exception_names item.0

-- ---- the cells of walks

-- A view's answer for the first successor that the record of an LEI names.
abbrev pub next_successor : Cells → SeenNext
next_successor cells lei = successor_seen (cells.record_cell lei)

-- A view's answer for the direct parent of an LEI.
abbrev pub parents_in : Cells → SeenNext
parents_in cells lei = cells.active lei RelationType.IsDirectlyConsolidatedBy

-- The cell that says which direct parent an LEI has.
abbrev pub parent_key : Lei → CellKey
parent_key lei = CellKey.Act lei RelationType.IsDirectlyConsolidatedBy

-- The records of the first 200 members of the walk along successors from this one, as far as the view knows it.
abbrev pub successor_walk : Cells → Option Lei → List CellKey
successor_walk cells None = []
successor_walk cells (Some successor) = map CellKey.Rec (walk_members 200 (known_next (next_successor cells)) successor)

-- The cells of the direct parents of the first 200 members of the walk from this LEI, as far as the view knows it.
abbrev pub parent_walk : Cells → Lei → List CellKey
parent_walk cells first = map parent_key (walk_members 200 (known_next (parents_in cells)) first)

-- A view's answer for all successors that the record of an LEI names.
abbrev pub next_successors : Cells → SeenNexts
next_successors cells lei = successors_seen (cells.record_cell lei)

-- The records of the first 200 LEIs that the walk by levels reaches from these successors of an entity. It goes as far
-- as the view knows.
abbrev pub level_walk : Cells → Lei → List Lei → List CellKey
level_walk cells own successors = map CellKey.Rec (reachable (known_nexts (next_successors cells)) own successors)

-- The cells of a record's walk: by the first rules the walk from its only successor, and by the later rules the walk by
-- levels.
abbrev pub record_walk : Rules → Cells → Row → List CellKey
record_walk Rules.First cells row = successor_walk cells (successor_in row)
record_walk Rules.Second cells row = level_walk cells (lei_in row) (successors_in row)
record_walk Rules.Third cells row = level_walk cells (lei_in row) (successors_in row)

-- The cells of an item's walk by the rules: a record's walk, and for an active direct parent the walk from its end. Any
-- other item has none.
abbrev pub walk_cells : Rules → Cells → Readied → List CellKey
walk_cells rules cells (Readied.Bad check) = []
walk_cells rules cells (Readied.Good (Item.Record row)) = record_walk rules cells row
walk_cells rules cells (Readied.Good (Item.Relation row)) =
    if is_direct_parent row then parent_walk cells (end_in row) else []
walk_cells rules cells (Readied.Good (Item.Exception item)) = []

-- The cells that an item needs by the rules and by the answers of a view: those that it names, and those of its walk.
abbrev pub needs : Rules → Cells → Readied → List CellKey
needs rules cells item = named_cells item ++ walk_cells rules cells item
