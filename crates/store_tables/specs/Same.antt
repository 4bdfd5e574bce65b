-- Whether two rows or two schemas are equal. Each value has a code, one to one, and codes are compared.
use Rattle.std.specs.Prelude.{Bool, true, false, ◌&&◌, ◌==◌}
use base.Stored.{Gv, gnil, gnum, gcons}
use Rattle.sqlite_value.specs.Order.{Row}
use Rattle.sqlite_value.specs.contracts.row.Row as row
use Rattle.sqlite_schema.specs.declared.schema.Schema.{Schema}
use Rattle.sqlite_schema.specs.contracts.schema.Schema as schema

-- Two codes are equal.
abbrev pub same_code : Gv → Gv → Bool
same_code gnil gnil = true
same_code (gnum m) (gnum n) = m == n
same_code (gcons a b) (gcons c d) = same_code a c && same_code b d
same_code _ _ = false

-- Two rows are equal, since their codes are.
unfoldable pub same_row : Row → Row → Bool
same_row a b = same_code (row.the_row.coded.code a) (row.the_row.coded.code b)

-- Two schemas are equal, since their codes are.
unfoldable pub same_schema : Schema → Schema → Bool
same_schema a b = same_code (schema.the_row.coded.code a) (schema.the_row.coded.code b)
