-- What the statements mean over a store with all four tables.
use Rattle.std.specs.Prelude.{ℕ, true, false, List, [], ◌∷◌, pos, negsuc, Some, None}
use Rattle.sqlite_value.specs.declared.value.Value.TheVariants.{Null, Int}
use Rattle.sqlite_value.specs.declared.keys.Collation.TheVariants.{Binary}
use Rattle.sqlite_value.specs.declared.keys.Key.{Key}
use Rattle.sqlite_sql.specs.declared.ops.BinaryOp.TheVariants.{Compare}
use Rattle.sqlite_sql.specs.declared.ops.CompareOp.TheVariants.{Gt, Le, Eq}
use Rattle.sqlite_sql.specs.Term.{Term, lit, col, op2}
use Rattle.sqlite_sql.specs.Query.{Query, inner, end}
use Rattle.sqlite_schema.specs.declared.program.Program.{Program}
use Rattle.sqlite_schema.specs.declared.command.Upsert.{Upsert}

-- Ascending or descending, by the order of values.
abbrev pub ascending_key : Key
ascending_key = record { collation = Binary; descending = false }

-- A descending order, byte by byte.
abbrev pub down : Key
down = record { collation = Binary; descending = true }

-- The value at this place of a row is greater than the first parameter and at most the second.
abbrev pub within : ℕ → List Term
within place = op2 (Compare Gt Binary) (col 1 place) (col 0 0)
    ∷ op2 (Compare Le Binary) (col 1 place) (col 0 1) ∷ []

-- No limit and no offset.
abbrev pub no_limit : Term
no_limit = lit (Int (negsuc 0))

-- No row is skipped at the front.
abbrev pub no_offset : Term
no_offset = lit (Int (pos 0))

-- The rows of the entries within the range, by number.
abbrev pub entries_query : Query
entries_query = record {
  from = inner 0 end;
  filter = within 0;
  group = None;
  project = col 1 0 ∷ col 1 2 ∷ col 1 3 ∷ col 1 4 ∷ col 1 5 ∷ col 1 6 ∷ col 1 7 ∷ col 1 8 ∷ [];
  distinct = false;
  collations = [];
  order = (col 1 0, ascending_key) ∷ [];
  limit = no_limit;
  offset = no_offset;
}

-- The rows of the cells of form 2 within the range, by kind and the two parts of the name.
abbrev pub cells_query : Query
cells_query = record {
  from = inner 5 end;
  filter = within 4;
  group = None;
  project = col 1 1 ∷ col 1 2 ∷ col 1 3 ∷ col 1 4 ∷ col 1 5 ∷ [];
  distinct = false;
  collations = [];
  order = (col 1 1, ascending_key) ∷ (col 1 2, ascending_key) ∷ (col 1 3, ascending_key) ∷ [];
  limit = no_limit;
  offset = no_offset;
}

-- The number of the last entry.
abbrev pub last_query : Query
last_query = record {
  from = inner 0 end;
  filter = [];
  group = None;
  project = col 1 0 ∷ [];
  distinct = false;
  collations = [];
  order = (col 1 0, down) ∷ [];
  limit = lit (Int (pos 1));
  offset = no_offset;
}

-- A query that computes no table of its own.
abbrev pub plain_query : Query → Program
plain_query query = record { lets = []; body = query }

-- The row of the entry whose values are the parameters.
abbrev pub insert_terms : List Term
insert_terms = col 0 0 ∷ lit Null ∷ col 0 1 ∷ col 0 2 ∷ col 0 3 ∷ col 0 4 ∷ col 0 5 ∷ col 0 6 ∷ col 0 7 ∷ []

-- The row of the cell of form 2 whose values are the parameters.
abbrev pub put_terms : List Term
put_terms = lit Null ∷ col 0 0 ∷ col 0 1 ∷ col 0 2 ∷ col 0 3 ∷ col 0 4 ∷ []

-- The row with the id in the sixth parameter, with the entry and the row of the cell that was to be put. The last six
-- parameters are the id and the columns of that cell.
abbrev pub put_query : Query
put_query = record {
  from = inner 5 end;
  filter = op2 (Compare Eq Binary) (col 1 0) (col 0 5) ∷ [];
  group = None;
  project = col 1 0 ∷ col 1 0 ∷ col 1 1 ∷ col 1 2 ∷ col 1 3 ∷ col 0 10 ∷ col 0 11 ∷ [];
  distinct = false;
  collations = [];
  order = [];
  limit = no_limit;
  offset = no_offset;
}

-- If there is a cell with the kind and the name, it gets the entry and the row.
abbrev pub put_clause : Upsert
put_clause = record { target = Some (1 ∷ 2 ∷ 3 ∷ []); update = Some (plain_query put_query) }

-- ---- the form, and the move from form 1 to form 2

-- What the rows of the table of the form have, two rows at most.
abbrev pub form_query : Query
form_query = record {
  from = inner 4 end;
  filter = [];
  group = None;
  project = col 1 0 ∷ col 1 2 ∷ [];
  distinct = false;
  collations = [];
  order = [];
  limit = lit (Int (pos 2));
  offset = no_offset;
}

-- The row of form 2.
abbrev pub form_terms : List Term
form_terms = lit (Int (pos 1)) ∷ lit Null ∷ lit (Int (pos 2)) ∷ []

-- The first rows of the cells of form 1, as they are stored.
abbrev pub page_query : Query
page_query = record {
  from = inner 1 end;
  filter = [];
  group = None;
  project = col 1 0 ∷ col 1 1 ∷ col 1 2 ∷ col 1 3 ∷ col 1 4 ∷ [];
  distinct = false;
  collations = [];
  order = (col 1 0, ascending_key) ∷ [];
  limit = lit (Int (pos 100));
  offset = no_offset;
}

-- The ids of the rows of the cells of form 1 up to the parameter.
abbrev pub clear_query : Query
clear_query = record {
  from = inner 1 end;
  filter = op2 (Compare Le Binary) (col 1 0) (col 0 0) ∷ [];
  group = None;
  project = col 1 0 ∷ [];
  distinct = false;
  collations = [];
  order = [];
  limit = no_limit;
  offset = no_offset;
}
