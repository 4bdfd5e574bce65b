-- The nodes that the checks of a table consist of.
use Rattle.std.specs.Prelude.{ℕ, List, slice_index_or}
use Rattle.sqlite_value.specs.declared.value.Value.TheVariants.{Null}
use Rattle.sqlite_schema.specs.declared.code.Op.{Op}

-- The node at this index. An index past the last one means NULL.
abbrev pub node_at : List Op → ℕ → Op
node_at nodes index = slice_index_or nodes index (Op.Literal Null)
