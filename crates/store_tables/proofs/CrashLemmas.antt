-- What a crash may leave: one sound schema fits trees, so what an open would find is what the trees tell.
use Rattle.std.proofs.Common.{◌≡◌, true, [], Option, Some, sym, ap, subst, ◌∙◌}
use Rattle.sqlite_trees.specs.Tree.{Trees}
use Rattle.sqlite_trees.specs.Objects.{catalog_tree}
use Rattle.sqlite_schema.specs.declared.schema.Schema.{Schema}
use Rattle.sqlite_catalog.specs.Listing.{IsSound}
use Rattle.sqlite_catalog.proofs.ReadLemmas.{lists_once}
use Rattle.sqlite.specs.Effect.{Database}
use Rattle.sqlite.specs.State.{State}
use Rattle.lei_values.specs.KeptTables.{KeptTables, with_batch}
use Rattle.lei_values.specs.declared.batch.Batch.{Batch}
use Rattle.store_statements.specs.Schemas.{whole_schema}
use Rattle.store_tables.specs.Calls.{HasNextNumber, KeepsBatch, TellsFirst, TellsTables}
use Rattle.store_tables.specs.Crash.{MayBeFound}
use Rattle.store_tables.specs.Told.{says_second, told_in_trees}
use Rattle.store_tables.proofs.RowLemmas.{first_told, second_told, told_second, told_whole, whole_rows}

pub one_schema : (s t : Schema) (trees : Trees) → IsSound s trees → IsSound t trees → s ≡ t
one_schema s t trees p q = lists_once (trees catalog_tree) s t p.lists q.lists

-- a store of form 2 tells what its rows tell
pub tells_told : (schema : Schema) (trees : Trees) (t : KeptTables) → TellsTables schema trees t
    → told_in_trees schema trees ≡ Some t
tells_told schema trees t tells =
    told_whole schema trees tells.holds.whole
    ∙ (told_second (whole_rows trees) tells.second tells.emptied ∙ tells.holds.told)

pub told_tells : (schema : Schema) (trees : Trees) (t : KeptTables) → schema ≡ whole_schema
    → IsSound schema trees → says_second (trees 4) ≡ true → told_in_trees schema trees ≡ Some t
    → TellsTables schema trees t
told_tells schema trees t whole sound second told =
    let it = second_told (whole_rows trees) t second (sym (told_whole schema trees whole) ∙ told) in
    record {
      holds = record { whole = whole; sound = sound; told = it.1 };
      second = second;
      emptied = it.0;
    }

-- and so does one of form 1
pub told_tells_first : (schema : Schema) (trees : Trees) (t : KeptTables) → schema ≡ whole_schema
    → IsSound schema trees → trees 4 ≡ [] → told_in_trees schema trees ≡ Some t → TellsFirst schema trees t
told_tells_first schema trees t whole sound form told =
    let it = first_told (whole_rows trees) t form (sym (told_whole schema trees whole) ∙ told) in
    record { whole = whole; sound = sound; told = it.1; form = form; none = it.0 }

told_once : (s t : Schema) (trees : Trees) (left : Option KeptTables) (tables : KeptTables) → IsSound s trees
    → left ≡ told_in_trees s trees → TellsTables t trees tables → left ≡ Some tables
told_once s t trees left tables sound is tells = is
    ∙ (ap (λ x. told_in_trees x trees) (one_schema s t trees sound tells.holds.sound)
    ∙ tells_told t trees tables tells)

-- if a crash leaves the last commit and nothing else
pub found_settled : (s : State) (t : KeptTables) → ((db : Trees) → s.may_leave db → db ≡ s.committed.trees)
    → s.now ≡ s.committed → TellsTables s.now.schema s.now.trees t
    → (left : Option KeptTables) → MayBeFound s left → left ≡ Some t
found_settled s t settled same tells left found =
    let trees : found.0 ≡ s.now.trees = settled found.0 found.2 ∙ ap (λ (d : Database). d.trees) (sym same) in
    told_once found.1 s.now.schema s.now.trees left t (subst (IsSound found.1) trees found.3)
    (found.4 ∙ ap (told_in_trees found.1) trees) tells

-- trees that a transaction of a batch commits tell the tables with the batch
pub kept_tells : (batch : Batch) (s : State) (trees : Trees) (schema : Schema) (left : Option KeptTables)
    (t : KeptTables) → KeepsBatch batch s trees → IsSound schema trees → left ≡ told_in_trees schema trees
    → HasNextNumber batch.entry t → TellsTables s.now.schema s.now.trees t → left ≡ Some (with_batch batch t)
kept_tells batch s trees schema left t kept sound is next tells =
    let it = kept.1 t next tells in
    told_once schema it.0 trees left (with_batch batch t) sound is it.1
