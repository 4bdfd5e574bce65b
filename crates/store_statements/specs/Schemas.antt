-- The schemas that a store of the register may have: no table, the first one, two or three, or all four.
use Rattle.std.specs.Prelude.{ℕ, Bool, true, false, List, [], ◌∷◌, pos, codes, Some, None}
use Rattle.sqlite_value.specs.declared.keys.Collation.TheVariants.{Binary}
use Rattle.sqlite_value.specs.declared.value.Value.TheVariants.{Null, Int}
use Rattle.sqlite_value.specs.Keys.{plain}
use Rattle.sqlite_sql.specs.declared.ops.BinaryOp.TheVariants.{Compare}
use Rattle.sqlite_sql.specs.declared.ops.CompareOp.TheVariants.{Ge}
use Rattle.sqlite_sql.specs.Term.{Term, lit, col, op2}
use Rattle.sqlite_schema.specs.declared.schema.Kind.{Kind}
use Rattle.sqlite_schema.specs.declared.schema.Kind.TheVariants.{Integer, Text, Blob}
use Rattle.sqlite_schema.specs.declared.schema.Column.{Column}
use Rattle.sqlite_schema.specs.declared.schema.Stamps.{Stamps}
use Rattle.sqlite_schema.specs.declared.schema.Table.{Table}
use Rattle.sqlite_schema.specs.declared.schema.Index.{Index}
use Rattle.sqlite_schema.specs.declared.schema.Schema.{Schema}

-- A column of a STRICT table without a default, and whether it refuses NULL.
abbrev pub column_of : List ℕ → Kind → Bool → Column
column_of name kind not_null =
    record {
      name = name;
      kind = kind;
      is_strict = true;
      not_null = not_null;
      default = Null;
      collation =
          Binary;
    }

-- The value at this place of a row is at least 1.
abbrev pub at_least_one : ℕ → Term
at_least_one place = op2 (Compare Ge Binary) (col 1 place) (lit (Int (pos 1)))

-- No value is computed when a row is written.
abbrev pub no_stamps : Stamps
no_stamps = record { places = []; terms = []; formats = [] }

-- The table of entries, whose rows have the number of the entry as their id.
abbrev pub entry_table : Table
entry_table = record {
  name = codes "entry";
  tree = 0;
  columns = column_of (codes "seq") Integer false ∷ column_of (codes "kind") Integer true
      ∷ column_of (codes "office") Text true
      ∷ column_of (codes "number") Integer true ∷ column_of (codes "moment") Integer true
      ∷ column_of (codes "rules") Integer true
      ∷ column_of (codes "body") Blob true ∷ column_of (codes "answer") Blob true ∷ [];
  key = Some 0;
  primary = 0 ∷ [];
  uniques = [];
  orders = [];
  checks = at_least_one 0 ∷ [];
  references = [];
  computed = [];
  stamps = no_stamps;
  is_counted = false;
}

-- The table of the cells of form 1. No two have the same kind and name, and so no two the same entry, kind and name.
abbrev pub cell_table : Table
cell_table = record {
  name = codes "cell";
  tree = 1;
  columns = column_of (codes "kind") Integer true ∷ column_of (codes "name") Text true
      ∷ column_of (codes "touched") Integer true
      ∷ column_of (codes "row") Blob false ∷ [];
  key = None;
  primary = 1 ∷ 2 ∷ [];
  uniques = (1 ∷ 2 ∷ []) ∷ (3 ∷ 1 ∷ 2 ∷ []) ∷ [];
  orders = plain ∷ plain ∷ [];
  checks = at_least_one 3 ∷ [];
  references = [];
  computed = [];
  stamps = no_stamps;
  is_counted = false;
}

-- The table of the form, whose rows have the number `one` as their id.
abbrev pub store_table : Table
store_table = record {
  name = codes "store";
  tree = 4;
  columns = column_of (codes "one") Integer false ∷ column_of (codes "form") Integer true ∷ [];
  key = Some 0;
  primary = 0 ∷ [];
  uniques = [];
  orders = [];
  checks = [];
  references = [];
  computed = [];
  stamps = no_stamps;
  is_counted = false;
}

-- The table of the cells of form 2. No two have the same kind and name, and so no two the same entry, kind and name.
abbrev pub cell2_table : Table
cell2_table = record {
  name = codes "cell2";
  tree = 5;
  columns = column_of (codes "kind") Integer true ∷ column_of (codes "lei") Text true
      ∷ column_of (codes "rest") Text true
      ∷ column_of (codes "touched") Integer true
      ∷ column_of (codes "row") Blob false ∷ [];
  key = None;
  primary = 1 ∷ 2 ∷ 3 ∷ [];
  uniques = (1 ∷ 2 ∷ 3 ∷ []) ∷ (4 ∷ 1 ∷ 2 ∷ 3 ∷ []) ∷ [];
  orders = plain ∷ plain ∷ [];
  checks = at_least_one 4 ∷ [];
  references = [];
  computed = [];
  stamps = no_stamps;
  is_counted = false;
}

-- An index that SQLite makes for a key of a table of cells: the table with this tree.
abbrev pub key_index : ℕ → List ℕ → ℕ → List ℕ → Index
key_index table name tree places =
    record { name = name; tree = tree; table = table; columns = places; order = plain; is_unique = true }

-- The index of cells of form 1 by kind and name.
abbrev pub by_name : Index
by_name = key_index 1 (codes "sqlite_autoindex_cell_1") 2 (1 ∷ 2 ∷ [])

-- The index of cells of form 1 by the entry that touched them last, kind and name.
abbrev pub by_entry : Index
by_entry = key_index 1 (codes "sqlite_autoindex_cell_2") 3 (3 ∷ 1 ∷ 2 ∷ [])

-- The index of cells of form 2 by kind and the two parts of the name.
abbrev pub by_parts : Index
by_parts = key_index 5 (codes "sqlite_autoindex_cell2_1") 6 (1 ∷ 2 ∷ 3 ∷ [])

-- The index of cells of form 2 by the entry that touched them last, kind and the two parts of the name.
abbrev pub by_entry2 : Index
by_entry2 = key_index 5 (codes "sqlite_autoindex_cell2_2") 7 (4 ∷ 1 ∷ 2 ∷ 3 ∷ [])

-- The schema of a store whose tables aren't made yet.
abbrev pub no_schema : Schema
no_schema = record { tables = []; indexes = []; views = [] }

-- The schema of a store that has only the table of entries.
abbrev pub entry_schema : Schema
entry_schema = record { tables = entry_table ∷ []; indexes = []; views = [] }

-- The schema of a store from before form 2 existed.
abbrev pub both_schema : Schema
both_schema = record { tables = entry_table ∷ cell_table ∷ []; indexes = by_name ∷ by_entry ∷ []; views = [] }

-- The schema of a store that has no table for the cells of form 2 yet.
abbrev pub store_schema : Schema
store_schema = record {
  tables = entry_table ∷ cell_table ∷ store_table ∷ [];
  indexes = by_name ∷ by_entry ∷ [];
  views = [];
}

-- The schema of a store with all four tables.
abbrev pub whole_schema : Schema
whole_schema = record {
  tables = entry_table ∷ cell_table ∷ store_table ∷ cell2_table ∷ [];
  indexes = by_name ∷ by_entry ∷ by_parts ∷ by_entry2 ∷ [];
  views = [];
}
