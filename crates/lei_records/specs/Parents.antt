-- Parents: the entities that consolidate another one, and which exceptions are about them.
use Rattle.std.specs.Prelude.{List, Bool, true, false, Option, Some, None}
use Rattle.std.specs.Option.{option_to_list}
use Rattle.lei_code.specs.Texts.{Lei}
use Rattle.lei_shapes.specs.declared.lists.ExceptionCategory.{ExceptionCategory}
use Rattle.lei_shapes.specs.declared.lists.RelationType.{RelationType}
use Rattle.lei_records.specs.Tables.{Table, active_of}

-- The category of the exceptions about parents of this type, or `None` if the type isn't a parent's.
abbrev pub parent_category : RelationType → Option ExceptionCategory
parent_category RelationType.IsDirectlyConsolidatedBy = Some
    ExceptionCategory.DirectAccountingConsolidationParent
parent_category RelationType.IsUltimatelyConsolidatedBy = Some
    ExceptionCategory.UltimateAccountingConsolidationParent
parent_category other = None

-- The type of the parents that exceptions of this category are about.
abbrev pub parent_type : ExceptionCategory → RelationType
parent_type ExceptionCategory.DirectAccountingConsolidationParent = RelationType.IsDirectlyConsolidatedBy
parent_type ExceptionCategory.UltimateAccountingConsolidationParent = RelationType.IsUltimatelyConsolidatedBy

-- The type is that of a direct parent.
abbrev pub is_direct_type : RelationType → Bool
is_direct_type RelationType.IsDirectlyConsolidatedBy = true
is_direct_type other = false

-- The direct parent of an entity: the end of its active relationship of this type.
abbrev pub parent_of : Table → Lei → Option Lei
parent_of table lei = active_of table lei RelationType.IsDirectlyConsolidatedBy

-- The same as a list, of one LEI or none.
abbrev pub parents_of : Table → Lei → List Lei
parents_of table lei = option_to_list (parent_of table lei)
