-- The form: the answer of reading it, and what writing it makes of a store.
use Rattle.std.proofs.Common.{◌≡◌, ℕ, pos, Bool, true, List, [], ◌∷◌, map, filter, take, length, None, Ok, Err, Result, OnOk, IsPermutation, refl, sym, ap, subst, ◌∙◌, arith}
use Rattle.std.proofs.lemmas.List.Sorted.{IsPermutation-sym, length_permutation}
use Rattle.sqlite_value.specs.declared.value.Value.TheVariants.{Null, Int}
use Rattle.sqlite_value.specs.Order.{Row}
use Rattle.sqlite_trees.specs.Tree.{Trees, put_row}
use Rattle.sqlite_trees.proofs.ListLemmas.{all_of, filter_all}
use Rattle.sqlite_sql.specs.Query.{IsAnswer, Output}
use Rattle.sqlite_sql.specs.Program.{overlay}
use Rattle.sqlite_schema.specs.declared.command.Source.TheVariants.{Values}
use Rattle.sqlite_schema.specs.declared.command.Command.TheVariants.{Insert}
use Rattle.sqlite_rules.specs.declared.error.Rowids.TheVariants.{Chosen}
use Rattle.sqlite_rules.specs.Cast.{cast_row}
use Rattle.sqlite_rules.specs.Edit.{edit_of, put_all, with_rowid}
use Rattle.sqlite.specs.declared.error.Error.{Error}
use Rattle.sqlite.specs.Does.{Does, Tally}
use Rattle.sqlite.specs.Effect.{Database, IsDatabase}
use Rattle.sqlite.specs.Rows.{Written}
use Rattle.sqlite.specs.State.{State, Executes, ExecutesInside, Shown, mode_of}
use Rattle.sqlite.specs.Listing.{understood}
use Rattle.sqlite.proofs.Callers.{one_permutation, one_step, reads_as, runs_as, statement_of}
use Rattle.store_statements.specs.Commands.{form_query, form_terms}
use Rattle.store_statements.specs.Schemas.{store_table, whole_schema}
use Rattle.store_statements.specs.Texts.{form_text, set_form_text}
use Rattle.store_statements.proofs.Meanings.{form_is, form_plain, set_form_is, set_form_plain}
use Rattle.store_tables.specs.Calls.{Forms, ReadsForm}
use Rattle.store_tables.specs.Stored.{form_2, form_row, second_row}
use Rattle.store_tables.specs.Told.{says_second, told_as}
use Rattle.store_tables.proofs.CallLemmas.{plain_under, ran_inside}
use Rattle.store_tables.proofs.QueryLemmas.{kept_is, passes, shown}
use Rattle.store_tables.proofs.SameLemmas.{row_itself}
use Rattle.store_tables.proofs.StateLemmas.{shown_unchanged}
use Rattle.store_tables.proofs.WriteLemmas.{cast_int, cast_null, same_value, went}

-- ---- reading

abbrev form_passes : Row → Bool
form_passes = passes 4 [] form_query.project form_query.order form_query.limit []

abbrev form_shown : Row → Output
form_shown = shown 4 [] form_query.project form_query.order form_query.limit []

none_shown : (ordered : List Output) → [] ≡ take 2 (map (λ (o : Output). o.1) ordered) → ordered ≡ []
none_shown [] e = refl
none_shown (o ∷ ordered) e = absurd (cc)

one_shown : (row : Row) (ordered : List Output) → row ∷ [] ≡ take 2 (map (λ (o : Output). o.1) ordered)
    → (o : Output) × (ordered ≡ o ∷ []) × (row ≡ o.1)
one_shown row [] e = absurd (cc)
one_shown row (o ∷ []) e = (o, refl, cc)
one_shown row (o ∷ p ∷ ordered) e = absurd (cc)

none_of : {X Y : Type 0} (f : X → Y) (xs : List X) → length (map f xs) ≡ 0 → xs ≡ []
none_of f [] e = refl
none_of f (x ∷ xs) e = absurd (omega (arith, e))

says : (rows : List Row) (o : Output) → map form_shown rows ≡ o ∷ [] → second_row ≡ o.1
    → says_second rows ≡ true
says [] o e is = absurd (cc)
says (r ∷ []) o e is =
    let same : form_shown r ≡ o = cc in
    row_itself (form_row r) second_row (ap (λ (x : Output). x.1) same ∙ sym is)
says (r ∷ s ∷ rows) o e is = absurd (cc)

module _ (db : Trees) (rows : List Row) (a : IsAnswer form_query (overlay db []) [] rows) where
  same_rows : IsPermutation (map form_shown (db 4)) a.ordered
  same_rows =
      let whole : filter form_passes (db 4)
      ≡ db 4 = filter_all form_passes (db 4) (all_of (λ x. form_passes x ≡ true) (λ x. refl) (db 4)) in
      subst (λ k. IsPermutation k a.ordered)
      (kept_is 4 [] form_query.project form_query.order form_query.limit [] db rows a
      ∙ ap (map form_shown) whole) a.same

  no_form : rows ≡ [] → db 4 ≡ []
  no_form none =
      let empty = none_shown a.ordered (sym none ∙ a.shown) in
      none_of form_shown (db 4) (sym (length_permutation _ _ same_rows) ∙ ap length empty)

  second_form : rows ≡ second_row ∷ [] → says_second (db 4) ≡ true
  second_form one =
      let it = one_shown second_row a.ordered (sym one ∙ a.shown) in
      says (db 4) it.0
      (one_permutation it.0 _ (IsPermutation-sym _ _ (subst (IsPermutation (map form_shown (db 4))) it.1
      same_rows))) it.2

pub reads_form : (old new : State) (rows : List Row) → old.now.schema ≡ whole_schema
    → Shown form_text [] old new rows → ReadsForm old new rows
reads_form old new rows whole h =
    let same = shown_unchanged form_text [] old new rows (plain_under _ form_text whole form_plain) h in
    let a = reads_as form_text [] old new whole_schema whole _ form_is.0 form_plain form_is.1 rows h in
    let tree : new.now.trees 4 ≡ old.now.trees 4 = ap (λ (d : Database). d.trees 4) same.0.now_is in
    record {
      was_open = same.0.was_open;
      now = same.0.now_is;
      committed = same.0.committed_is;
      none = λ none. tree ∙ no_form old.now.trees rows (a.answer Null) none;
      second = λ one. ap says_second tree ∙ second_form old.now.trees rows (a.answer Null) one;
    }

-- ---- writing

abbrev stored_form : Row
stored_form = Int (pos 1) ∷ Null ∷ Int (pos 2) ∷ []

form_cast : cast_row store_table (Int (pos 1) ∷ Null ∷ Int (pos 2) ∷ []) ≡ stored_form
form_cast = rw (cast_int (pos 1), cast_null, cast_int (pos 2))

record Sets (old new : Database) : Type 0 where
  pub schema : new.schema ≡ whole_schema
  pub sound : IsDatabase new
  pub entries : new.trees 0 ≡ old.trees 0
  pub cells : new.trees 1 ≡ old.trees 1
  pub cells2 : new.trees 5 ≡ old.trees 5
  pub form : new.trees 4 ≡ put_row stored_form (old.trees 4)

sets : (old new : State) (count : ℕ) → old.now.schema ≡ whole_schema
    → Executes set_form_text [] old new (Ok count) → Sets old.now new.now
sets old new count has h =
    let db = old.now.trees in
    let command = Insert 2 (Values form_terms 3) in
    let w = runs_as set_form_text [] old new whole_schema has command set_form_is set_form_plain count h in
    let text = statement_of set_form_text (understood whole_schema set_form_text) in
    let done = went (subst (λ s. Does old.step_limit (mode_of old) [] (record old.now { schema = s }) text
    None command (Ok (w.tally, new.now))) has w.changed) in
    let now = ap (λ (p : Tally × Database). p.1) (same_value (went (went done.2).2).2) in
    let given = went done.1 in
    let written = went (went given.2).2 in
    let counted = went written.2 in
    let trees : done.0.trees ≡ written.0 = ap (λ (it : Written). it.trees) (same_value counted.2)
    ∙ same_value counted.1 in
    let edit = edit_of db store_table [] Chosen 0 given.0 in
    let applies = one_step whole_schema _ db written.0 edit refl written.1 in
    let news : edit.news ≡ stored_form
    ∷ [] = ap (λ all. (edit_of db store_table [] Chosen 0 all).news) given.1.1
    ∙ ap (λ row. with_rowid Chosen (db 4) row ∷ []) form_cast in
    let all : new.now.trees ≡ written.0 = ap (λ (d : Database). d.trees) now ∙ trees in
    record {
      schema = ap (λ (d : Database). d.schema) now;
      sound = w.sound;
      entries = ap (λ (t : Trees). t 0) all ∙ applies.tables.0 (λ same. omega (arith, same));
      cells = ap (λ (t : Trees). t 1) all ∙ applies.tables.1.0 (λ same. omega (arith, same));
      cells2 = ap (λ (t : Trees). t 5) all ∙ applies.tables.1.1.1.0 (λ same. omega (arith, same));
      form = ap (λ (t : Trees). t 4) all ∙ (applies.rows ∙ ap (λ rows. put_all (db 4) rows) news);
    }

second_said : (rows : List Row) → rows ≡ stored_form ∷ [] → says_second rows ≡ true
second_said rows e = ap says_second e ∙ row_itself second_row second_row refl

pub forms_by : (old new : State) (r : Result ℕ Error) → ExecutesInside 0 set_form_text [] old new r
    → OnOk r (Forms old new)
forms_by old new (Err e) h = tt
forms_by old new (Ok count) h = record {
  inside = ran_inside set_form_text [] old new count h;
  told = λ t holds form none.
      let it = sets old new count holds.whole h.0 in
      let second : new.now.trees 4 ≡ stored_form ∷ [] = it.form ∙ ap (put_row stored_form) form in
      record {
        holds = record {
          whole = it.schema;
          sound = it.sound;
          told = (λ i. told_as form_2 (it.entries i) (it.cells2 i)) ∙ holds.told;
        };
        second = second_said (new.now.trees 4) second;
        emptied = it.cells ∙ none;
      };
}
