-- What holds for the parents that a register has.
use Rattle.std.specs.Prelude.{◌≡◌, None, IsTrue}
use Rattle.lei_code.specs.Texts.{Lei}
use Rattle.lei_shapes.specs.declared.lists.ExceptionCategory.{ExceptionCategory}
use Rattle.lei_records.specs.Parents.{parent_type, parents_of}
use Rattle.lei_records.specs.Tables.{Table, active_of, has_exception}
use Rattle.successor_rules.specs.Chains.{AllEnd}

-- Each chain of direct parents ends.
pub record ParentChainsEnd (table : Table) : Type 0 where
  pub ends : AllEnd (parents_of table)

-- If an entity has an exception, it has no active parent of that category.
abbrev pub ExceptionsExcludeParents : Table → Type 0
ExceptionsExcludeParents table = (lei : Lei) (category : ExceptionCategory)
    → IsTrue (has_exception table lei category) → active_of table lei (parent_type category) ≡ None
