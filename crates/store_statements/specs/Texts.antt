-- The texts of the statements, whose meaning SQL defines.
use Rattle.std.specs.Prelude.{ℕ, List, codes}

-- Makes the table of entries, if there is none with this name. It has one row per entry, whose number is at least 1 and
-- is the row's id.
abbrev pub entry_table_text : List ℕ
entry_table_text = codes "CREATE TABLE IF NOT EXISTS entry (\n  seq INTEGER PRIMARY KEY CHECK (seq >= 1),\n  kind INTEGER NOT NULL,\n  office TEXT NOT NULL,\n  number INTEGER NOT NULL,\n  moment INTEGER NOT NULL,\n  rules INTEGER NOT NULL,\n  body BLOB NOT NULL,\n  answer BLOB NOT NULL\n) STRICT"

-- Makes the table of the cells of form 1, if there is none with this name. It has one row per cell, by its kind and its
-- name. The row has the number of an entry, at least 1, and a row or NULL. A second index leads from the entries to the
-- cells that they touched.
abbrev pub cell_table_text : List ℕ
cell_table_text = codes "CREATE TABLE IF NOT EXISTS cell (\n  kind INTEGER NOT NULL,\n  name TEXT NOT NULL,\n  touched INTEGER NOT NULL CHECK (touched >= 1),\n  row BLOB,\n  PRIMARY KEY (kind, name),\n  UNIQUE (touched, kind, name)\n) STRICT"

-- Makes the table of the store's form, if there is none with this name: no row in form 1, one in form 2.
abbrev pub store_table_text : List ℕ
store_table_text = codes "CREATE TABLE IF NOT EXISTS store (\n  one INTEGER PRIMARY KEY,\n  form INTEGER NOT NULL\n) STRICT"

-- Makes the table of the cells of form 2, if there is none with this name. It has one row per cell, by its kind and the
-- two parts of its name. The row has the number of an entry, at least 1, and a row or NULL. A second index leads from
-- the entries to the cells that they touched.
abbrev pub cell2_table_text : List ℕ
cell2_table_text = codes "CREATE TABLE IF NOT EXISTS cell2 (\n  kind INTEGER NOT NULL,\n  lei TEXT NOT NULL,\n  rest TEXT NOT NULL,\n  touched INTEGER NOT NULL CHECK (touched >= 1),\n  row BLOB,\n  PRIMARY KEY (kind, lei, rest),\n  UNIQUE (touched, kind, lei, rest)\n) STRICT"

-- The greatest number of an entry.
abbrev pub last_text : List ℕ
last_text = codes "SELECT seq FROM entry ORDER BY seq DESC LIMIT 1"

-- The entries whose number is greater than the first parameter and at most the second, by number.
abbrev pub entries_text : List ℕ
entries_text = codes "SELECT seq, kind, office, number, moment, rules, body, answer\nFROM entry WHERE seq > ?1 AND seq <= ?2 ORDER BY seq"

-- The cells of form 2 whose entry has a number greater than the first parameter and at most the second. They are in the
-- order of the kind, the first part of the name, and the other part.
abbrev pub cells_text : List ℕ
cells_text = codes "SELECT kind, lei, rest, touched, row\nFROM cell2 WHERE touched > ?1 AND touched <= ?2 ORDER BY kind, lei, rest"

-- Puts an entry, by the values of its row.
abbrev pub insert_text : List ℕ
insert_text = codes "INSERT INTO entry (seq, kind, office, number, moment, rules, body, answer)\nVALUES (?1, ?2, ?3, ?4, ?5, ?6, ?7, ?8)"

-- Puts a cell of form 2, by the values of its row. If there is one with its kind and name, that one gets its entry and
-- its row.
abbrev pub put_text : List ℕ
put_text = codes "INSERT INTO cell2 (kind, lei, rest, touched, row) VALUES (?1, ?2, ?3, ?4, ?5)\nON CONFLICT (kind, lei, rest) DO UPDATE SET touched = excluded.touched, row = excluded.row"

-- ---- the form, and the move from form 1 to form 2

-- What the table of the form has. Two rows are enough to show that there are too many.
abbrev pub form_text : List ℕ
form_text = codes "SELECT one, form FROM store LIMIT 2"

-- Writes form 2.
abbrev pub set_form_text : List ℕ
set_form_text = codes "INSERT INTO store (one, form) VALUES (1, 2)"

-- The first rows of the cells of form 1, by the ids of the rows.
abbrev pub page_text : List ℕ
page_text = codes "SELECT rowid, kind, name, touched, row FROM cell ORDER BY rowid LIMIT 100"

-- Removes the rows of the cells of form 1 whose id is at most the parameter.
abbrev pub clear_text : List ℕ
clear_text = codes "DELETE FROM cell WHERE rowid <= ?1"
