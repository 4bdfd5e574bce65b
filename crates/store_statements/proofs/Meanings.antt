-- The meaning of each text, by computation.
use Rattle.std.specs.Prelude.{◌≡◌, refl, false, [], ◌∷◌, codes, Ok}
use Rattle.sqlite_schema.specs.declared.command.Source.TheVariants.{Values}
use Rattle.sqlite_schema.specs.declared.command.Conflict.TheVariants.{Abort}
use Rattle.sqlite_schema.specs.declared.command.Command.TheVariants.{Insert, InsertOr, Select, CreateTable, Delete, Nothing}
use Rattle.sqlite_resolve.specs.Compile.{table_defined_by}
use Rattle.sqlite_catalog.specs.Change.{created}
use Rattle.sqlite_tied.specs.Compute.{everything}
use Rattle.sqlite.specs.Listing.{understood, reads_listing}
use Rattle.sqlite.proofs.Callers.{IsPlain, command_of, statement_of}
use Rattle.store_statements.specs.Texts.{entry_table_text, cell_table_text, store_table_text, cell2_table_text, last_text, entries_text, cells_text, insert_text, put_text, form_text, set_form_text, page_text, clear_text}
use Rattle.store_statements.specs.Schemas.{entry_table, cell_table, store_table, cell2_table, no_schema, entry_schema, both_schema, store_schema, whole_schema}
use Rattle.store_statements.specs.Commands.{entries_query, cells_query, last_query, plain_query, insert_terms, put_terms, put_clause, form_query, form_terms, page_query, clear_query}

pub entry_table_is : table_defined_by entry_table_text ≡ Ok entry_table
unfolding understood everything
entry_table_is = refl

pub cell_table_is : table_defined_by cell_table_text ≡ Ok (record cell_table { tree = 0 })
unfolding understood everything
cell_table_is = refl

pub store_table_is : table_defined_by store_table_text ≡ Ok (record store_table { tree = 0 })
unfolding understood everything
store_table_is = refl

pub cell2_table_is : table_defined_by cell2_table_text ≡ Ok (record cell2_table { tree = 0 })
unfolding understood everything
cell2_table_is = refl

pub schemas_are : (created no_schema entry_table ≡ entry_schema)
    × (created entry_schema (record cell_table { tree = 0 }) ≡ both_schema)
    × (created both_schema (record store_table { tree = 0 }) ≡ store_schema)
    × (created store_schema (record cell2_table { tree = 0 }) ≡ whole_schema)
unfolding understood everything
schemas_are = (refl, refl, refl, refl)

pub entries_is : (command_of (understood whole_schema entries_text)
    ≡ Select (plain_query entries_query)
    (codes "seq" ∷ codes "kind" ∷ codes "office" ∷ codes "number" ∷ codes "moment" ∷ codes "rules"
    ∷ codes "body" ∷ codes "answer" ∷ [])) × (reads_listing whole_schema entries_text ≡ false)
unfolding understood everything
entries_is = (refl, refl)

pub cells_is : (command_of (understood whole_schema cells_text)
    ≡ Select (plain_query cells_query) (codes "kind" ∷ codes "lei" ∷ codes "rest" ∷ codes "touched" ∷ codes "row" ∷ []))
    × (reads_listing whole_schema cells_text ≡ false)
unfolding understood everything
cells_is = (refl, refl)

pub last_is : (command_of (understood whole_schema last_text) ≡ Select (plain_query last_query) (codes "seq" ∷ []))
    × (reads_listing whole_schema last_text ≡ false)
unfolding understood everything
last_is = (refl, refl)

pub insert_is : command_of (understood whole_schema insert_text) ≡ Insert 0 (Values insert_terms 9)
unfolding understood everything
insert_is = refl

pub put_is : command_of (understood whole_schema put_text)
    ≡ InsertOr 3 Abort (Values put_terms 6) (put_clause ∷ [])
unfolding understood everything
put_is = refl

pub form_is : (command_of (understood whole_schema form_text)
    ≡ Select (plain_query form_query) (codes "one" ∷ codes "form" ∷ [])) × (reads_listing whole_schema form_text ≡ false)
unfolding understood everything
form_is = (refl, refl)

pub page_is : (command_of (understood whole_schema page_text)
    ≡ Select (plain_query page_query)
    (codes "rowid" ∷ codes "kind" ∷ codes "name" ∷ codes "touched" ∷ codes "row" ∷ []))
    × (reads_listing whole_schema page_text ≡ false)
unfolding understood everything
page_is = (refl, refl)

pub clear_is : command_of (understood whole_schema clear_text) ≡ Delete 1 (plain_query clear_query)
unfolding understood everything
clear_is = refl

pub set_form_is : command_of (understood whole_schema set_form_text) ≡ Insert 2 (Values form_terms 3)
unfolding understood everything
set_form_is = refl

pub entries_plain : IsPlain (understood whole_schema entries_text)
unfolding understood everything
entries_plain = (refl, refl)

pub cells_plain : IsPlain (understood whole_schema cells_text)
unfolding understood everything
cells_plain = (refl, refl)

pub last_plain : IsPlain (understood whole_schema last_text)
unfolding understood everything
last_plain = (refl, refl)

pub insert_plain : IsPlain (understood whole_schema insert_text)
unfolding understood everything
insert_plain = (refl, refl)

pub put_plain : IsPlain (understood whole_schema put_text)
unfolding understood everything
put_plain = (refl, refl)

pub form_plain : IsPlain (understood whole_schema form_text)
unfolding understood everything
form_plain = (refl, refl)

pub page_plain : IsPlain (understood whole_schema page_text)
unfolding understood everything
page_plain = (refl, refl)

pub clear_plain : IsPlain (understood whole_schema clear_text)
unfolding understood everything
clear_plain = (refl, refl)

pub set_form_plain : IsPlain (understood whole_schema set_form_text)
unfolding understood everything
set_form_plain = (refl, refl)

pub make_entries_is : (command_of (understood no_schema entry_table_text) ≡ CreateTable)
    × (statement_of entry_table_text (understood no_schema entry_table_text) ≡ entry_table_text)
unfolding understood everything
make_entries_is = (refl, refl)

pub make_cells_is : (command_of (understood entry_schema cell_table_text) ≡ CreateTable)
    × (statement_of cell_table_text (understood entry_schema cell_table_text) ≡ cell_table_text)
unfolding understood everything
make_cells_is = (refl, refl)

pub make_entries_plain : IsPlain (understood no_schema entry_table_text)
unfolding understood everything
make_entries_plain = (refl, refl)

pub make_cells_plain : IsPlain (understood entry_schema cell_table_text)
unfolding understood everything
make_cells_plain = (refl, refl)

-- if the table of entries exists, nothing is done
pub keep_entries_is : command_of (understood entry_schema entry_table_text) ≡ Nothing
unfolding understood everything
keep_entries_is = refl

pub keep_entries_plain : IsPlain (understood entry_schema entry_table_text)
unfolding understood everything
keep_entries_plain = (refl, refl)

pub make_store_is : (command_of (understood both_schema store_table_text) ≡ CreateTable)
    × (statement_of store_table_text (understood both_schema store_table_text) ≡ store_table_text)
unfolding understood everything
make_store_is = (refl, refl)

pub make_cell2_is : (command_of (understood store_schema cell2_table_text) ≡ CreateTable)
    × (statement_of cell2_table_text (understood store_schema cell2_table_text) ≡ cell2_table_text)
unfolding understood everything
make_cell2_is = (refl, refl)

pub make_store_plain : IsPlain (understood both_schema store_table_text)
unfolding understood everything
make_store_plain = (refl, refl)

pub make_cell2_plain : IsPlain (understood store_schema cell2_table_text)
unfolding understood everything
make_cell2_plain = (refl, refl)

-- if the table of the form exists, nothing is done
pub keep_store_is : command_of (understood store_schema store_table_text) ≡ Nothing
unfolding understood everything
keep_store_is = refl

pub keep_store_plain : IsPlain (understood store_schema store_table_text)
unfolding understood everything
keep_store_plain = (refl, refl)
