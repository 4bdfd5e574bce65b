-- Which cells are fetched for keys, and what a view of these cells alone answers. This project's profile.
use Rattle.std.specs.Prelude.{◌≡◌, List, [], ◌∷◌, ◌++◌, IsTrue, map, ⊤}
use Rattle.std.specs.List.{Contains, flat_map}
use Rattle.lei_code.specs.Texts.{Lei}
use Rattle.lei_records.specs.declared.item.Item.{Item}
use Rattle.lei_records.specs.declared.item.Readied.{Readied}
use Rattle.lei_records.specs.declared.view.CellKey.{CellKey}
use Rattle.lei_records.specs.Cells.{Cells, lei_in, successors_in}
use Rattle.successor_rules.specs.declared.walks.Walked.{Walked}
use Rattle.successor_rules.specs.Levels.{known_nexts, spread_out}
use Rattle.relation_rules.specs.Needs.{lacks}
use Rattle.cell_reads.specs.Needs.{next_successors, parent_walk}
use Rattle.fetched_cells.specs.Nearest.{nearest}

-- ---- which cells are fetched

-- The records of the first 201 different LEIs that the walk by levels reaches from the record of an LEI. They come
-- level by level, and in byte order within a level, as far as the view knows the walk.
abbrev pub nearest_records : Cells → Lei → List CellKey
nearest_records cells lei = map CellKey.Rec (nearest (known_nexts (next_successors cells)) lei)

-- The cells that are fetched along with a key. For a record these are the records of its levels of successors, and then
-- the cells of the walk of direct parents from it. That walk has up to 200 members, as far as the view knows it. For
-- any other key there are none.
abbrev pub keys_along : Cells → CellKey → List CellKey
keys_along cells (CellKey.Rec lei) = nearest_records cells lei ++ parent_walk cells lei
keys_along cells key = []

-- The cells that are fetched for keys, in order: each key, followed by the cells that are fetched along with it. A cell
-- occurs as often as it is named or reached.
abbrev pub fetched_keys : Cells → List CellKey → List CellKey
fetched_keys cells keys = flat_map (λ key. key ∷ keys_along cells key) keys

-- An item's walk by levels ends, as far as the view knows it. Only a record has such a walk.
abbrev pub LevelsEnd : Cells → Readied → Type 0
LevelsEnd cells (Readied.Good (Item.Record row)) =
    spread_out (known_nexts (next_successors cells)) (lei_in row) (successors_in row) ≡ Walked.Ends
LevelsEnd cells item = ⊤

-- ---- a part of a view

-- Two views answer the same for the cell with this key.
abbrev pub SameAt : Cells → Cells → CellKey → Type 0
SameAt a b (CellKey.Rec lei) = a.record_cell lei ≡ b.record_cell lei
SameAt a b (CellKey.Rel start kind end) = a.relation start kind end ≡ b.relation start kind end
SameAt a b (CellKey.Exc lei category) = a.exception lei category ≡ b.exception lei category
SameAt a b (CellKey.Key authority id) = a.holder authority id ≡ b.holder authority id
SameAt a b (CellKey.Act start kind) = a.active start kind ≡ b.active start kind

-- A view has exactly these cells of the whole: it answers for them as the whole does, and lacks all others.
pub record HasJust (part whole : Cells) (keys : List CellKey) : Type 0 where
  pub has : (key : CellKey) → Contains keys key → SameAt part whole key
  pub just : (key : CellKey) → (Contains keys key → ⊥) → IsTrue (lacks part key)
