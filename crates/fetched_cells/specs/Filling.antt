-- A fetched view after cells were copied into it, as long as there was room.
use Rattle.std.specs.Prelude.{◌≡◌, ◌⊎◌, ◌-◌, ℕ, List, ◌++◌, length, map, take}
use Rattle.lei_code.specs.Texts.{Lei}
use Rattle.lei_records.specs.declared.view.CellKey.{CellKey}
use Rattle.lei_records.specs.Cells.{Cells}
use Rattle.lei_records.specs.Walks.{walk_members}
use Rattle.successor_rules.specs.Walks.{SeenNext, known_next}
use Rattle.fetched_cells.specs.declared.filling.Filling.{Filling}
use Rattle.fetched_cells.specs.Fetching.{HasJust, SameAt}
use Rattle.fetched_cells.specs.Maps.{fetched_view}

-- The cell with this key was copied from the whole: it is as in the whole, and each other cell is as before.
pub record IsCopied (whole old new : Cells) (key : CellKey) : Type 0 where
  pub here : SameAt new whole key
  pub elsewhere : (other : CellKey) → (other ≡ key) ⊎ SameAt new old other

-- The cells with these keys were copied in order, as many as there was room for. The view has them in addition to the
-- cells that it had before, and the room that is left is less by their number.
pub record AddsCells (whole : Cells) (old new : Filling) (keys : List CellKey) : Type 0 where
  pub more : (before : List CellKey) → HasJust (fetched_view old.fetched) whole before
      → HasJust (fetched_view new.fetched) whole (before ++ take old.left keys)
  pub rest : new.left ≡ old.left - length keys

-- The cells of the first n members of a walk, as far as the view knows it.
abbrev pub member_keys : ℕ → (List ℕ → CellKey) → SeenNext → Lei → List CellKey
member_keys n cell answers first = map cell (walk_members n (known_next answers) first)
