-- Tables: the rows that are held, by key.
use Rattle.std.specs.Prelude.{◌≡◌, ℕ, List, [], ◌∷◌, Bool, true, false, not, ◌&&◌, if◌then◌else◌, Option, Some, None, is_some, find, option_map, IsTrue, ⊤}
use Rattle.std.specs.Cmp.Lexicographic.{slice_cmp}
use Rattle.std.specs.FinMap.{FinMap, get, insert, remove, len, values}
use Rattle.std.specs.Ordering.{nat_cmp}
use Rattle.std.specs.Str.{bytes_eq}
use Rattle.std.specs.declared.cmp.Ordering.{Ordering}
use Rattle.lei_code.specs.Texts.{Lei, Text}
use Rattle.lei_shapes.specs.declared.lists.ExceptionCategory.{ExceptionCategory}
use Rattle.lei_shapes.specs.declared.lists.RelationType.{RelationType}
use Rattle.lei_shapes.specs.Lists.{exception_category_text, relation_type_text}
use Rattle.lei_records.specs.declared.item.Item.{Item}
use Rattle.lei_records.specs.declared.view.RecCell.{RecCell}
use Rattle.lei_records.specs.declared.view.RelCell.{RelCell}
use Rattle.lei_records.specs.declared.view.RowKey.{RowKey}
use Rattle.lei_records.specs.declared.view.Seen.{Seen}
use Rattle.lei_records.specs.Cells.{Cells, lei_in, rec_cell, akey, holds}
use Rattle.lei_records.specs.Exceptions.{exception_category_in, subject_in}
use Rattle.lei_records.specs.Relations.{end_in, is_active_of, kind_in, rel_cell, start_in}
use Rattle.lei_records.specs.Rows.{Row}
use Rattle.lei_records.specs.Spelled.{IsExceptionRow, IsRecordRow, IsRelationRow}

-- The key of a row is a list of texts.
abbrev pub KeyTexts : Type 0
KeyTexts = List Text

-- Keys are in order text by text, each in byte order.
abbrev pub key_cmp : KeyTexts → KeyTexts → Ordering
key_cmp = slice_cmp (slice_cmp nat_cmp)

-- Rows under their keys, in the order of the keys.
abbrev pub Rows : Type 0
Rows = FinMap key_cmp Row

-- A table: the rows that are held, those of records, of relationships and of exceptions.
pub record Table : Type 0 where
  pub records : Rows
  pub relations : Rows
  pub exceptions : Rows

-- ---- keys

-- The key of a record's row is its LEI.
abbrev pub record_key : Lei → KeyTexts
record_key lei = lei ∷ []

-- The key of a relationship's row is its start, its type and its end.
abbrev pub relation_key : Lei → RelationType → Lei → KeyTexts
relation_key start kind end = start ∷ relation_type_text kind ∷ end ∷ []

-- The key of an exception's row is its LEI and its category.
abbrev pub exception_key : Lei → ExceptionCategory → KeyTexts
exception_key lei category = lei ∷ exception_category_text category ∷ []

-- The key of a relationship's row, from its texts.
abbrev pub relation_key_in : Row → KeyTexts
relation_key_in row = relation_key (start_in row) (kind_in row) (end_in row)

-- The key of an exception's row, from its texts.
abbrev pub exception_key_in : Row → KeyTexts
exception_key_in row = exception_key (subject_in row) (exception_category_in row)

-- The key of an item's row.
abbrev pub row_key : Item → RowKey
row_key (Item.Record row) = RowKey.Rec (lei_in row)
row_key (Item.Relation row) = RowKey.Rel (start_in row) (kind_in row) (end_in row)
row_key (Item.Exception item) = RowKey.Exc (subject_in item.0) (exception_category_in item.0)

-- ---- changes

-- A table with its records replaced by these rows.
abbrev pub with_records : Table → Rows → Table
with_records table rows = record table { records = rows }

-- A table with its relationships replaced by these rows.
abbrev pub with_relations : Table → Rows → Table
with_relations table rows = record table { relations = rows }

-- A table with its exceptions replaced by these rows.
abbrev pub with_exceptions : Table → Rows → Table
with_exceptions table rows = record table { exceptions = rows }

-- The table after an item is put: its row replaces the row under its key, or is added if there is none. An exception
-- that is a withdrawal removes the row under its key. All other rows stay.
abbrev pub put : Table → Item → Table
put table (Item.Record row) = with_records table (insert table.records (record_key (lei_in row)) row)
put table (Item.Relation row) = with_relations table (insert table.relations (relation_key_in row) row)
put table (Item.Exception item) = with_exceptions table
    (if item.1 then remove table.exceptions (exception_key_in item.0)
    else insert table.exceptions (exception_key_in item.0) item.0)

-- The table after a write: the item is put or, if there is none, the exception under the key is removed. A record or a
-- relationship is never withdrawn.
abbrev pub put_write : Table → RowKey × Option Item → Table
put_write table (key, Some item) = put table item
put_write table (RowKey.Exc lei category, None) = with_exceptions table
    (remove table.exceptions (exception_key lei category))
put_write table (key, None) = table

-- The table after these writes, from the first to the last.
abbrev pub put_all : List (RowKey × Option Item) → Table → Table
put_all [] table = table
put_all (write ∷ writes) table = put_all writes (put_write table write)

-- ---- what a table has for a cell's key

-- The row of the record with this LEI.
abbrev pub row_at : Table → Lei → Option Row
row_at table lei = get table.records (record_key lei)

-- All records, in the order of their LEIs.
abbrev pub records_of : Table → List Row
records_of table = values table.records

-- How many records are held.
abbrev pub record_count : Table → ℕ
record_count table = len table.records

-- The record with this LEI, as the rules see it.
abbrev pub record_of : Table → Lei → Option RecCell
record_of table lei = option_map rec_cell (row_at table lei)

-- The LEI of the live record that has this authority key; if there are several, of the first in the order of LEIs.
abbrev pub holder_of : Table → Text → Text → Option Lei
holder_of table authority id = option_map lei_in (find (holds authority id) (records_of table))

-- There is a key, and the record is live and has it.
abbrev pub holds_key : Option (Text × Text) → Row → Bool
holds_key None row = false
holds_key (Some key) row = holds key.0 key.1 row

-- The LEI of another live record that has the row's authority key; if there are several, of the first in the order of
-- LEIs.
abbrev pub other_holder : Table → Row → Option Lei
other_holder table row =
    option_map lei_in
    (find (λ other. holds_key (akey row) other && not (bytes_eq (lei_in other) (lei_in row)))
    (records_of table))

-- All relationships, in the order of their keys.
abbrev pub relations_of : Table → List Row
relations_of table = values table.relations

-- The row of the relationship with this start, type and end.
abbrev pub relation_row : Table → Lei → RelationType → Lei → Option Row
relation_row table start kind end = get table.relations (relation_key start kind end)

-- The relationship with this start, type and end, as the rules see it.
abbrev pub relation_of : Table → Lei → RelationType → Lei → Option RelCell
relation_of table start kind end = option_map rel_cell (relation_row table start kind end)

-- The end of the active relationship with this start and type; if there are several, of the first in the order of keys.
abbrev pub active_of : Table → Lei → RelationType → Option Lei
active_of table start kind = option_map end_in (find (is_active_of start kind) (relations_of table))

-- All exceptions, in the order of their keys.
abbrev pub exceptions_of : Table → List Row
exceptions_of table = values table.exceptions

-- The row of the exception with this LEI and category.
abbrev pub exception_row : Table → Lei → ExceptionCategory → Option Row
exception_row table lei category = get table.exceptions (exception_key lei category)

-- There is an exception with this LEI and category.
abbrev pub has_exception : Table → Lei → ExceptionCategory → Bool
has_exception table lei category = is_some (exception_row table lei category)

-- What a view answers if a cell has this, or is empty.
abbrev pub seen : {X : Type 0} → Option X → Seen X
seen (Some x) = Seen.Held x
seen None = Seen.Empty

-- The same for a cell that only says whether there is something.
abbrev pub seen_fact : Bool → Seen ⊤
seen_fact true = Seen.Held tt
seen_fact false = Seen.Empty

-- The cells of a table: none is missing.
abbrev pub cells_of : Table → Cells
cells_of table = record {
  record_cell = λ lei. seen (record_of table lei);
  holder = λ authority id. seen (holder_of table authority id);
  relation = λ start kind end. seen (relation_of table start kind end);
  active = λ start kind. seen (active_of table start kind);
  exception = λ lei category. seen_fact (has_exception table lei category);
}

-- ---- sound tables

-- Each record's row is under its own key.
abbrev pub IsKeyed : Table → Type 0
IsKeyed table = (key : KeyTexts) (row : Row) → get table.records key ≡ Some row
    → key ≡ record_key (lei_in row)

-- No two live records have the same authority key.
abbrev pub AuthorityKeysAreUnique : Table → Type 0
AuthorityKeysAreUnique table = (authority id : Text) (a b : Lei) (first second : Row)
    → row_at table a ≡ Some first → row_at table b ≡ Some second
    → IsTrue (holds authority id first) → IsTrue (holds authority id second) → a ≡ b

-- Each record's row is that of a record.
abbrev pub HasRows : Table → Type 0
HasRows table = (key : KeyTexts) (row : Row) → get table.records key ≡ Some row → IsRecordRow row

-- Each relationship's row is under its own key.
abbrev pub AreRelationsKeyed : Table → Type 0
AreRelationsKeyed table = (key : KeyTexts) (row : Row) → get table.relations key ≡ Some row
    → key ≡ relation_key_in row

-- Each relationship's row is that of a relationship.
abbrev pub HasRelationRows : Table → Type 0
HasRelationRows table = (key : KeyTexts) (row : Row) → get table.relations key ≡ Some row → IsRelationRow row

-- No two active relationships have the same start and type.
abbrev pub HasActives : Table → Type 0
HasActives table = (start : Lei) (kind : RelationType) (a b : KeyTexts) (first second : Row)
    → get table.relations a ≡ Some first → get table.relations b ≡ Some second
    → IsTrue (is_active_of start kind first) → IsTrue (is_active_of start kind second) → a ≡ b

-- Each exception's row is under its own key.
abbrev pub AreExceptionsKeyed : Table → Type 0
AreExceptionsKeyed table = (key : KeyTexts) (row : Row) → get table.exceptions key ≡ Some row
    → key ≡ exception_key_in row

-- Each exception's row is that of an exception.
abbrev pub HasExceptionRows : Table → Type 0
HasExceptionRows table = (key : KeyTexts) (row : Row) → get table.exceptions key ≡ Some row
    → IsExceptionRow row

-- A sound table: each row is under its own key, and is that of a record, a relationship or an exception, as its list
-- says. No two live records have the same authority key, and no two active relationships the same start and type.
pub record IsSoundTable (table : Table) : Type 0 where
  pub keyed : IsKeyed table
  pub holders : AuthorityKeysAreUnique table
  pub rows : HasRows table
  pub relations_keyed : AreRelationsKeyed table
  pub relation_rows : HasRelationRows table
  pub actives : HasActives table
  pub exceptions_keyed : AreExceptionsKeyed table
  pub exception_rows : HasExceptionRows table
