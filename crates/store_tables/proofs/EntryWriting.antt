-- What inserting an entry makes of a store.
use Rattle.std.proofs.Common.{◌≡◌, ℕ, pos, Bool, true, false, not, [], ◌∷◌, None, Ok, arith, refl, ap, subst, ◌∙◌}
use Rattle.sqlite_value.specs.declared.value.Value.TheVariants.{Null, Int, Text, Blob}
use Rattle.sqlite_trees.specs.Tree.{Trees, put_row}
use Rattle.sqlite_schema.specs.declared.command.Source.TheVariants.{Values}
use Rattle.sqlite_schema.specs.declared.command.Command.TheVariants.{Insert}
use Rattle.sqlite_rules.specs.declared.error.Rowids.TheVariants.{Chosen}
use Rattle.sqlite_rules.specs.Cast.{cast_row}
use Rattle.sqlite_rules.specs.Edit.{are_fresh, edit_of, is_taken, put_all, with_rowid}
use Rattle.sqlite.specs.Does.{Does, Tally}
use Rattle.sqlite.specs.Effect.{Database, IsDatabase}
use Rattle.sqlite.specs.Rows.{Written}
use Rattle.sqlite.specs.State.{State, Executes, mode_of}
use Rattle.sqlite.specs.Listing.{understood}
use Rattle.sqlite.proofs.Callers.{one_step, runs_as, statement_of}
use Rattle.lei_values.specs.declared.entry.KeptEntry.{KeptEntry}
use Rattle.store_statements.specs.Commands.{insert_terms}
use Rattle.store_statements.specs.Rows.{entry_row}
use Rattle.store_statements.specs.Schemas.{whole_schema, entry_table}
use Rattle.store_statements.specs.Texts.{insert_text}
use Rattle.store_statements.proofs.Meanings.{insert_is, insert_plain}
use Rattle.store_tables.specs.Calls.{KeepsForm}
use Rattle.store_tables.specs.Stored.{stored_entry}
use Rattle.store_tables.proofs.SameLemmas.{left_of}
use Rattle.store_tables.proofs.WriteLemmas.{cast_int, cast_null, same_value, went}

-- the entry's row is put if its number was free, and nothing else changes
pub record Inserts (old new : Database) (e : KeptEntry) : Type 0 where
  pub schema : new.schema ≡ whole_schema
  pub sound : IsDatabase new
  pub entries : new.trees 0 ≡ put_row (stored_entry e) (old.trees 0)
  pub fresh : is_taken (old.trees 0) (stored_entry e) ≡ false
  pub cells : new.trees 5 ≡ old.trees 5
  pub form : KeepsForm old.trees new.trees

entry_cast : (e : KeptEntry)
    → cast_row entry_table (Int (pos e.seq) ∷ Null ∷ Int (pos e.kind) ∷ Text e.office ∷ Int (pos e.number)
    ∷ Int e.moment ∷ Int (pos e.rules)
    ∷ Blob e.body ∷ Blob e.answer ∷ []) ≡ stored_entry e
entry_cast e = rw (
  cast_int (pos e.seq),
  cast_null,
  cast_int (pos e.kind),
  cast_int (pos e.number),
  cast_int e.moment,
  cast_int (pos e.rules),
)

pub not_taken : (b : Bool) → not b ≡ true → b ≡ false
not_taken true h = cc
not_taken false h = refl

pub inserts : (old new : State) (e : KeptEntry) (count : ℕ) → old.now.schema ≡ whole_schema
    → Executes insert_text (entry_row e) old new (Ok count) → Inserts old.now new.now e
inserts old new e count has h =
    let params = entry_row e in
    let db = old.now.trees in
    let command = Insert 0 (Values insert_terms 9) in
    let w = runs_as insert_text params old new whole_schema has command insert_is insert_plain count h in
    let text = statement_of insert_text (understood whole_schema insert_text) in
    let done = went (subst (λ s. Does old.step_limit (mode_of old) params (record old.now { schema = s }) text
    None command (Ok (w.tally, new.now))) has w.changed) in
    let now = ap (λ (p : Tally × Database). p.1) (same_value (went (went done.2).2).2) in
    let given = went done.1 in
    let written = went (went given.2).2 in
    let counted = went written.2 in
    let trees : done.0.trees ≡ written.0 = ap (λ (it : Written). it.trees) (same_value counted.2)
    ∙ same_value counted.1 in
    let edit = edit_of db entry_table [] Chosen 0 given.0 in
    let applies = one_step whole_schema _ db written.0 edit refl written.1 in
    let news : edit.news ≡ stored_entry e
    ∷ [] = ap (λ all. (edit_of db entry_table [] Chosen 0 all).news) given.1.1
    ∙ ap (λ row. with_rowid Chosen (db 0) row ∷ []) (entry_cast e) in
    let all : new.now.trees ≡ written.0 = ap (λ (d : Database). d.trees) now ∙ trees in
    record {
      schema = ap (λ (d : Database). d.schema) now;
      sound = w.sound;
      entries = ap (λ (t : Trees). t 0) all ∙ (applies.rows ∙ ap (λ rows. put_all (db 0) rows) news);
      fresh = not_taken _ (left_of _ _ (subst (λ rows. are_fresh (db 0) rows ≡ true) news applies.fresh));
      cells = ap (λ (t : Trees). t 5) all ∙ applies.tables.1.1.1.0 (λ same. omega (arith, same));
      form = (
        ap (λ (t : Trees). t 1) all ∙ applies.tables.1.0 (λ same. omega (arith, same)),
        ap (λ (t : Trees). t 4) all ∙ applies.tables.1.1.0 (λ same. omega (arith, same)),
      );
    }
