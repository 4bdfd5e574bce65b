-- Which cells the checks of relationships and exceptions need. This project's profile.
use Rattle.std.specs.Prelude.{◌≡◌, ◌⊎◌, List, [], ◌∷◌, ◌++◌, Bool, true, false, Option, Some, None, IsTrue}
use Rattle.std.specs.List.{Contains}
use Rattle.lei_code.specs.Texts.{Lei}
use Rattle.lei_shapes.specs.declared.lists.ExceptionCategory.{ExceptionCategory}
use Rattle.lei_shapes.specs.declared.lists.RelationType.{RelationType}
use Rattle.lei_records.specs.declared.view.CellKey.{CellKey}
use Rattle.lei_records.specs.declared.view.Seen.{Seen}
use Rattle.lei_records.specs.Cells.{Cells}
use Rattle.lei_records.specs.Exceptions.{exception_category_in, subject_in}
use Rattle.lei_records.specs.Parents.{parent_category, parent_type}
use Rattle.lei_records.specs.Relations.{end_in, kind_in, start_in}
use Rattle.lei_records.specs.Rows.{Row}
use Rattle.lei_records.specs.Walks.{walk_members}
use Rattle.successor_rules.specs.Walks.{known_next}
use Rattle.relation_rules.specs.Checks.{is_direct_parent}

-- The view doesn't know what the cell has.
abbrev pub is_lacking : {X : Type 0} → Seen X → Bool
is_lacking (Seen.Held x) = false
is_lacking Seen.Empty = false
is_lacking Seen.Missing = true

-- The view lacks the cell with this key.
abbrev pub lacks : Cells → CellKey → Bool
lacks cells (CellKey.Rec lei) = is_lacking (cells.record_cell lei)
lacks cells (CellKey.Rel start kind end) = is_lacking (cells.relation start kind end)
lacks cells (CellKey.Exc lei category) = is_lacking (cells.exception lei category)
lacks cells (CellKey.Key authority id) = is_lacking (cells.holder authority id)
lacks cells (CellKey.Act start kind) = is_lacking (cells.active start kind)

-- The exception that replaces an entity's parents, if there is a category for it.
abbrev pub exception_keys : Lei → Option ExceptionCategory → List CellKey
exception_keys lei None = []
exception_keys lei (Some category) = CellKey.Exc lei category ∷ []

-- The cells that a relationship names: the records of its start and its end, and the relationship itself. It also names
-- the active relationship of its start and type, and the exception that replaces such a parent.
abbrev pub relation_names : Row → List CellKey
relation_names item =
    (CellKey.Rec (start_in item) ∷ CellKey.Rec (end_in item)
    ∷ CellKey.Rel (start_in item) (kind_in item) (end_in item)
    ∷ CellKey.Act (start_in item) (kind_in item) ∷ [])
    ++ exception_keys (start_in item) (parent_category (kind_in item))

-- The relationship is an active direct parent. The cell is that of the direct parent of one of the first 200 members of
-- its walk, to the view's knowledge.
pub record IsOfWalk (cells : Cells) (item : Row) (key : CellKey) : Type 0 where
  pub direct : IsTrue (is_direct_parent item)
  pub member : Lei
  pub stands :
      Contains (walk_members 200 (known_next (λ lei. cells.active lei RelationType.IsDirectlyConsolidatedBy))
      (end_in item)) member
  pub is : key ≡ CellKey.Act member RelationType.IsDirectlyConsolidatedBy

-- A relationship needs a cell: it names the cell, or the cell belongs to its walk.
abbrev pub IsNeeded : Cells → Row → CellKey → Type 0
IsNeeded cells item key = Contains (relation_names item) key ⊎ IsOfWalk cells item key

-- The cells that an exception names: the record of its LEI, the exception itself, and the active parent of its
-- category. It needs no others.
abbrev pub exception_names : Row → List CellKey
exception_names row =
    CellKey.Rec (subject_in row) ∷ CellKey.Exc (subject_in row) (exception_category_in row)
    ∷ CellKey.Act (subject_in row) (parent_type (exception_category_in row)) ∷ []
