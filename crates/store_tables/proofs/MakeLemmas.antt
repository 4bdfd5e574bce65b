-- What making the tables makes of a store.
use Rattle.std.proofs.Common.{◌≡◌, ◌⊎◌, inl, inr, ℕ, false, List, [], None, Some, Option, Ok, Err, Result, OnOk, sym, ap, subst, ◌∙◌, option_and_then}
use Rattle.sqlite_schema.specs.declared.schema.Schema.{Schema}
use Rattle.sqlite_schema.specs.declared.schema.Table.{Table}
use Rattle.sqlite_schema.specs.declared.command.Command.TheVariants.{CreateTable, Nothing}
use Rattle.sqlite_resolve.specs.Compile.{table_defined_by}
use Rattle.sqlite_catalog.specs.Calls.{CreatesTable}
use Rattle.sqlite_catalog.specs.Change.{created}
use Rattle.sqlite.specs.declared.error.Error.{Error}
use Rattle.sqlite.specs.Does.{Tally, lacks_sequence}
use Rattle.sqlite.specs.Effect.{Database, IsDatabase}
use Rattle.sqlite.specs.State.{State, ExecutesInside, Writes}
use Rattle.sqlite.proofs.Callers.{runs_as}
use Rattle.store_statements.specs.Schemas.{both_schema, cell2_table, cell_table, entry_schema, entry_table, no_schema, store_schema, store_table, whole_schema}
use Rattle.store_statements.specs.Texts.{cell2_table_text, cell_table_text, entry_table_text, store_table_text}
use Rattle.store_statements.proofs.Meanings.{cell2_table_is, cell_table_is, entry_table_is, keep_entries_is, keep_entries_plain, keep_store_is, keep_store_plain, make_cell2_is, make_cell2_plain, make_cells_is, make_cells_plain, make_entries_is, make_entries_plain, make_store_is, make_store_plain, schemas_are, store_table_is}
use Rattle.store_tables.specs.Calls.{IsInside, Makes}
use Rattle.store_tables.specs.Told.{StoredRows, told_in_rows, told_in_trees}
use Rattle.store_tables.proofs.CallLemmas.{ran_inside}
use Rattle.store_tables.proofs.RowLemmas.{rows_in_both, rows_in_entry, rows_in_none, rows_in_store, rows_in_whole}
use Rattle.store_tables.proofs.WriteLemmas.{same_value, went}

-- what the text of a table makes
created_by : (text : List ℕ) (before : Schema) (table : Table) (old new : State) (count : ℕ)
    → old.now.schema ≡ before → table_defined_by text ≡ Ok table
    → lacks_sequence (created before table) ≡ false → Writes old new None CreateTable text [] count
    → (made : CreatesTable before text old.now.trees new.now.schema new.now.trees)
    × (new.now.schema ≡ created before table)
created_by text before table old new count has defined plain w =
    let all = went w.changed in
    let first = went all.1 in
    let made : CreatesTable before text old.now.trees first.0.schema first.0.trees = subst
    (λ s. CreatesTable s text old.now.trees first.0.schema first.0.trees) has first.1 in
    let both : Ok made.table ≡ Ok table = sym made.defined ∙ defined in
    let same : made.table ≡ table = cc in
    let schema : first.0.schema ≡ created before table = made.is ∙ ap (created before) same in
    let now : new.now ≡ first.0 = ap (λ (p : Tally × Database). p.1) (same_value all.2)
    ∙ same_value (rw (ap lacks_sequence schema ∙ plain) at first.2) in (
      subst (λ (d : Database). CreatesTable before text old.now.trees d.schema d.trees) (sym now) made,
      ap (λ (d : Database). d.schema) now ∙ schema,
    )

pub makes_entries : (old new : State) (count : ℕ) → old.now.schema ≡ no_schema
    → ExecutesInside 0 entry_table_text [] old new (Ok count) → Makes entry_schema old new
makes_entries old new count has h =
    let w = subst (λ t. Writes old new None CreateTable t [] count) make_entries_is.1
    (runs_as entry_table_text [] old new no_schema has CreateTable make_entries_is.0 make_entries_plain
    count h.0) in
    let it = created_by entry_table_text no_schema entry_table old new count has entry_table_is
    (ap lacks_sequence schemas_are.0) w in
    let schema = it.1 ∙ schemas_are.0 in
    record {
      inside = ran_inside entry_table_text [] old new count h;
      schema = schema;
      told = ap (option_and_then told_in_rows)
          (rows_in_entry _ new.now.trees schema
          ∙ (ap (λ rows. Some (record { entries = rows; cells = []; forms = []; cells2 = [] })) it.0.empty
          ∙ sym (rows_in_none _ old.now.trees has)));
    }

pub makes_cells : (old new : State) (count : ℕ) → old.now.schema ≡ entry_schema
    → ExecutesInside 0 cell_table_text [] old new (Ok count) → Makes both_schema old new
makes_cells old new count has h =
    let w = subst (λ t. Writes old new None CreateTable t [] count) make_cells_is.1
    (runs_as cell_table_text [] old new entry_schema has CreateTable make_cells_is.0 make_cells_plain
    count h.0) in
    let it = created_by cell_table_text entry_schema (record cell_table { tree = 0 }) old new count has
    cell_table_is (ap lacks_sequence schemas_are.1) w in
    let schema = it.1 ∙ schemas_are.1 in
    let rows : ◌≡◌ {A = Option StoredRows}
    (Some (record { entries = new.now.trees 0; cells = new.now.trees 1; forms = []; cells2 = [] }))
    (Some (record { entries = old.now.trees 0; cells = []; forms = []; cells2 = [] })) =
    λ i. Some (record { entries = it.0.others.0 i; cells = it.0.empty i; forms = []; cells2 = [] }) in
    record {
      inside = ran_inside cell_table_text [] old new count h;
      schema = schema;
      told = ap (option_and_then told_in_rows)
          (rows_in_both _ new.now.trees schema ∙ (rows ∙ sym (rows_in_entry _ old.now.trees has)));
    }

pub makes_store : (old new : State) (count : ℕ) → old.now.schema ≡ both_schema
    → ExecutesInside 0 store_table_text [] old new (Ok count) → Makes store_schema old new
makes_store old new count has h =
    let w = subst (λ t. Writes old new None CreateTable t [] count) make_store_is.1
    (runs_as store_table_text [] old new both_schema has CreateTable make_store_is.0 make_store_plain
    count h.0) in
    let it = created_by store_table_text both_schema (record store_table { tree = 0 }) old new count has
    store_table_is (ap lacks_sequence schemas_are.2) w in
    let schema = it.1 ∙ schemas_are.2 in
    let rows : ◌≡◌ {A = Option StoredRows}
    (Some (record {
      entries = new.now.trees 0;
      cells = new.now.trees 1;
      forms = new.now.trees 4;
      cells2 = [];
    }))
    (Some (record { entries = old.now.trees 0; cells = old.now.trees 1; forms = []; cells2 = [] })) =
    λ i. Some (record {
      entries = it.0.others.0 i;
      cells = it.0.others.1.0 i;
      forms = it.0.empty i;
      cells2 = [];
    }) in
    record {
      inside = ran_inside store_table_text [] old new count h;
      schema = schema;
      told = ap (option_and_then told_in_rows)
          (rows_in_store _ new.now.trees schema ∙ (rows ∙ sym (rows_in_both _ old.now.trees has)));
    }

pub makes_cell2 : (old new : State) (count : ℕ) → old.now.schema ≡ store_schema
    → ExecutesInside 0 cell2_table_text [] old new (Ok count) → Makes whole_schema old new
makes_cell2 old new count has h =
    let w = subst (λ t. Writes old new None CreateTable t [] count) make_cell2_is.1
    (runs_as cell2_table_text [] old new store_schema has CreateTable make_cell2_is.0 make_cell2_plain
    count h.0) in
    let it = created_by cell2_table_text store_schema (record cell2_table { tree = 0 }) old new count has
    cell2_table_is (ap lacks_sequence schemas_are.3) w in
    let schema = it.1 ∙ schemas_are.3 in
    let rows : ◌≡◌ {A = Option StoredRows}
    (Some (record {
      entries = new.now.trees 0;
      cells = new.now.trees 1;
      forms = new.now.trees 4;
      cells2 = new.now.trees 5;
    }))
    (Some (record {
      entries = old.now.trees 0;
      cells = old.now.trees 1;
      forms = old.now.trees 4;
      cells2 = [];
    })) =
    λ i. Some (record {
      entries = it.0.others.0 i;
      cells = it.0.others.1.0 i;
      forms = it.0.others.1.1.0 i;
      cells2 = it.0.empty i;
    }) in
    record {
      inside = ran_inside cell2_table_text [] old new count h;
      schema = schema;
      told = ap (option_and_then told_in_rows)
          (rows_in_whole _ new.now.trees schema ∙ (rows ∙ sym (rows_in_store _ old.now.trees has)));
    }

pub makes_then : (s t : Schema) (a b c : State) → Makes s a b → Makes t b c → Makes t a c
makes_then s t a b c one two = record {
  inside = record {
    was_open = one.inside.was_open;
    is_open = two.inside.is_open;
    committed =
        two.inside.committed ∙ one.inside.committed;
    mode = two.inside.mode;
  };
  schema = two.schema;
  told = two.told ∙ one.told;
}

keeps_entries : (old new : State) (count : ℕ) → old.now.schema ≡ entry_schema
    → ExecutesInside 0 entry_table_text [] old new (Ok count) → Makes entry_schema old new
keeps_entries old new count has h =
    let same = runs_as entry_table_text [] old new entry_schema has Nothing keep_entries_is keep_entries_plain
    count h.0 in
    let now = same.0.0.now_is in
    record {
      inside = ran_inside entry_table_text [] old new count h;
      schema = ap (λ (d : Database). d.schema) now ∙ has;
      told = ap (λ (d : Database). told_in_trees d.schema d.trees) now;
    }

pub entries_made : (old new : State) (r : Result ℕ Error)
    → (old.now.schema ≡ no_schema) ⊎ (old.now.schema ≡ entry_schema)
    → ExecutesInside 0 entry_table_text [] old new r
    → OnOk r (Makes entry_schema old new)
entries_made old new (Ok count) (inl has) h = makes_entries old new count has h
entries_made old new (Ok count) (inr has) h = keeps_entries old new count has h
entries_made old new (Err e) has h = tt

pub cells_made : (old new : State) (r : Result ℕ Error) → old.now.schema ≡ entry_schema
    → ExecutesInside 0 cell_table_text [] old new r → OnOk r (Makes both_schema old new)
cells_made old new (Ok count) has h = makes_cells old new count has h
cells_made old new (Err e) has h = tt

keeps_store : (old new : State) (count : ℕ) → old.now.schema ≡ store_schema
    → ExecutesInside 0 store_table_text [] old new (Ok count) → Makes store_schema old new
keeps_store old new count has h =
    let same = runs_as store_table_text [] old new store_schema has Nothing keep_store_is keep_store_plain
    count h.0 in
    let now = same.0.0.now_is in
    record {
      inside = ran_inside store_table_text [] old new count h;
      schema = ap (λ (d : Database). d.schema) now ∙ has;
      told = ap (λ (d : Database). told_in_trees d.schema d.trees) now;
    }

pub store_made : (old new : State) (r : Result ℕ Error)
    → (old.now.schema ≡ both_schema) ⊎ (old.now.schema ≡ store_schema)
    → ExecutesInside 0 store_table_text [] old new r
    → OnOk r (Makes store_schema old new)
store_made old new (Ok count) (inl has) h = makes_store old new count has h
store_made old new (Ok count) (inr has) h = keeps_store old new count has h
store_made old new (Err e) has h = tt

cell2_sound : (old new : State) (count : ℕ) → old.now.schema ≡ store_schema
    → ExecutesInside 0 cell2_table_text [] old new (Ok count) → IsDatabase new.now
cell2_sound old new count has h =
    (runs_as cell2_table_text [] old new store_schema has CreateTable make_cell2_is.0 make_cell2_plain count
    h.0).sound

pub cell2_made : (old new : State) (r : Result ℕ Error) → old.now.schema ≡ store_schema
    → ExecutesInside 0 cell2_table_text [] old new r → OnOk r (Makes whole_schema old new × IsDatabase new.now)
cell2_made old new (Ok count) has h = (makes_cell2 old new count has h, cell2_sound old new count has h)
cell2_made old new (Err e) has h = tt

pub inside_by : (sql : List ℕ) (old new : State) (r : Result ℕ Error) → ExecutesInside 0 sql [] old new r
    → OnOk r (IsInside old new)
inside_by sql old new (Ok count) h = ran_inside sql [] old new count h
inside_by sql old new (Err e) h = tt
