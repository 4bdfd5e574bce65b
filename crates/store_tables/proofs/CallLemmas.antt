-- The answers of the statements for a store that is ready, and what they make of it inside a transaction.
use Rattle.std.proofs.Common.{◌≡◌, inl, inr, ◌≤◌, ◌<◌, ◌^◌, nat_le, nat_lt, ℕ, true, false, List, [], ◌∷◌, ◌++◌, map, Some, Ok, Err, Result, IfOk, IfErr, OnOk, IsTrue, refl, sym, ap, subst, ◌∙◌, arith}
use Rattle.std.proofs.lemmas.Bool.Decides.{nat_tests}
use Rattle.std.proofs.lemmas.List.Sums.{fold-append}
use Rattle.sqlite_value.specs.declared.value.Value.TheVariants.{Null}
use Rattle.sqlite_value.specs.Order.{Row}
use Rattle.sqlite_schema.specs.declared.schema.Schema.{Schema}
use Rattle.sqlite.specs.declared.error.Error.{Error}
use Rattle.sqlite.specs.Effect.{Database}
use Rattle.sqlite.specs.Listing.{understood}
use Rattle.sqlite.specs.State.{State, CommitsShowing, FailsToQuery, Survives, ExecutesInside, HasCleanDisk, IsUnchanged, KeepsCommit, Shown}
use Rattle.sqlite.proofs.Callers.{IsPlain, reads_as}
use Rattle.lei_values.specs.KeptTables.{KeptTables, cells_between, entries_between, put_cell}
use Rattle.lei_values.specs.declared.entry.KeptEntry.{KeptEntry}
use Rattle.lei_values.specs.declared.cell.KeptCell.{KeptCell}
use Rattle.store_statements.specs.Rows.{cell_row, entry_row}
use Rattle.store_statements.specs.Schemas.{whole_schema}
use Rattle.store_statements.specs.Texts.{cells_text, entries_text, insert_text, last_text, put_text}
use Rattle.store_statements.proofs.Meanings.{cells_is, cells_plain, entries_is, entries_plain, last_is, last_plain}
use Rattle.store_tables.specs.Calls.{ChangesTables, HasNextNumber, HoldsTables, IsInside, IsReadyStore, IsSteady, IsWholeStore, TellsTables, last_rows, tables_with_cell, tables_with_entry, with_cells}
use Rattle.store_tables.specs.Stored.{cell_fits, entry_fits, is_entry_number}
use Rattle.store_tables.proofs.SameLemmas.{both_of}
use Rattle.store_tables.specs.Told.{says_second, told_in_trees}
use Rattle.store_tables.proofs.CrashLemmas.{told_tells}
use Rattle.store_tables.proofs.CellReading.{cells_answer}
use Rattle.store_tables.proofs.CellWriting.{puts}
use Rattle.store_tables.proofs.EntryReading.{entries_answer, range}
use Rattle.store_tables.proofs.EntryWriting.{inserts}
use Rattle.store_tables.proofs.LastReading.{last_answer}
use Rattle.store_tables.proofs.StateLemmas.{query_steady, shown_unchanged}
use Rattle.store_tables.proofs.StepLemmas.{HasRows, hold_rows, rows_apart, rows_hold, rows_insert, rows_put}

-- ---- reading

pub plain_under : (s : Schema) (sql : List ℕ) → s ≡ whole_schema → IsPlain (understood whole_schema sql)
    → IsPlain (understood s sql)
plain_under s sql is plain = subst (λ x. IsPlain (understood x sql)) (sym is) plain

-- what is told afterwards was told before, for a store that holds it
held : (old new : State) (t : KeptTables) → IsReadyStore old → IsUnchanged old new
    → told_in_trees new.now.schema new.now.trees ≡ Some t → HasRows old.now t
held old new t ready same told =
    hold_rows old.now t
    (told_tells old.now.schema old.now.trees t ready.whole.schema (ready.whole.sound same.0.was_open) ready.second
    (subst (λ (d : Database). told_in_trees d.schema d.trees ≡ Some t) same.0.now_is told)).holds

pub last_told : (old new : State) (rows : List Row) (t : KeptTables) → IsReadyStore old
    → Shown last_text [] old new rows → told_in_trees new.now.schema new.now.trees ≡ Some t → rows ≡ last_rows t
last_told old new rows t ready h told =
    let same = shown_unchanged last_text [] old new rows (plain_under _ last_text ready.whole.schema last_plain) h in
    let it = held old new t ready same told in
    let a = reads_as last_text [] old new whole_schema ready.whole.schema _ last_is.0 last_plain last_is.1 rows h in
    last_answer old.now.trees rows it.told.entries (a.answer Null) ∙ ap last_rows (sym it.is)

pub entries_told : (after upto : ℕ) (old new : State) (rows : List Row) (t : KeptTables) → IsReadyStore old
    → Shown entries_text (range after upto) old new rows
    → told_in_trees new.now.schema new.now.trees ≡ Some t → rows ≡ map entry_row (entries_between after upto t)
entries_told after upto old new rows t ready h told =
    let same = shown_unchanged entries_text (range after upto) old new rows
    (plain_under _ entries_text ready.whole.schema entries_plain) h in
    let it = held old new t ready same told in
    let a = reads_as entries_text (range after upto) old new whole_schema ready.whole.schema _ entries_is.0
    entries_plain entries_is.1 rows h in
    entries_answer after upto old.now.trees rows it.told.entries (a.answer Null)
    ∙ ap (λ x. map entry_row (entries_between after upto x)) (sym it.is)

pub cells_told : (after upto : ℕ) (old new : State) (rows : List Row) (t : KeptTables) → IsReadyStore old
    → Shown cells_text (range after upto) old new rows
    → told_in_trees new.now.schema new.now.trees ≡ Some t → rows ≡ map cell_row (cells_between after upto t)
cells_told after upto old new rows t ready h told =
    let same = shown_unchanged cells_text (range after upto) old new rows
    (plain_under _ cells_text ready.whole.schema cells_plain) h in
    let it = held old new t ready same told in
    let a = reads_as cells_text (range after upto) old new whole_schema ready.whole.schema _ cells_is.0 cells_plain
    cells_is.1 rows h in
    cells_answer after upto old.now.trees rows it.told.cells (rows_apart old.now t it) (a.answer Null)
    ∙ ap (λ x. map cell_row (cells_between after upto x)) (sym it.is)

-- ---- inside a transaction

pub ran_inside : (sql : List ℕ) (params : Row) (old new : State) (count : ℕ)
    → ExecutesInside 0 sql params old new (Ok count) → IsInside old new
ran_inside sql params old new count h = record
    { was_open = h.1.was_open; is_open = h.1.is_open; committed = h.1.committed_is; mode = h.1.mode }

-- A statement that is refused commits nothing, either.
pub keeps_commit : (sql : List ℕ) (params : Row) (old new : State) (r : Result ℕ Error)
    → ExecutesInside 0 sql params old new r → KeepsCommit old new
keeps_commit sql params old new (Ok count) h = record
    { was_open = λ _. h.1.was_open; committed = λ _. h.1.committed_is }
keeps_commit sql params old new (Err e) (inl (ran, inl same)) = record
    { was_open = λ _. same.0.was_open; committed = λ _. same.0.committed_is }
keeps_commit sql params old new (Err e) (inl (ran, inr back)) = record
    { was_open = back.was_open; committed = λ live. (back.undone live).1 }
keeps_commit sql params old new (Err e) (inr (ends, is, same)) = record
    { was_open = λ _. same.0.was_open; committed = λ _. same.0.committed_is }

test_le : (m n : ℕ) → m ≤ n → nat_le m n ≡ true
test_le m n low = grind (arith, nat_tests)

test_lt : (m n : ℕ) → m < n → nat_lt m n ≡ true
test_lt m n low = grind (arith, nat_tests)

number_fits : (n : ℕ) → 1 ≤ n → n ≤ 9223372036854775807 → is_entry_number n ≡ true
number_fits n low high = both_of _ _ (test_le 1 n low) (test_le n 9223372036854775807 high)

-- the numbers of an entry and of a cell are within the ranges of their types
pub record EntryRanges (e : KeptEntry) : Type 0 where
  pub seq : e.seq ≤ 9223372036854775807
  pub kind : e.kind < 2 ^ 8
  pub number : e.number < 2 ^ 32
  pub rules : e.rules < 2 ^ 16

entry_within : (e : KeptEntry) → 1 ≤ e.seq → EntryRanges e → entry_fits e ≡ true
entry_within e low r = both_of _ _ (number_fits e.seq low r.seq)
    (both_of _ _ (test_lt e.kind (2 ^ 8) r.kind)
    (both_of _ _ (test_lt e.number (2 ^ 32) r.number) (test_lt e.rules (2 ^ 16) r.rules)))

cell_within : (c : KeptCell) → 1 ≤ c.touched → c.touched ≤ 9223372036854775807 → c.kind < 2 ^ 8
    → cell_fits c ≡ true
cell_within c low high kind = both_of _ _ (number_fits c.touched low high) (test_lt c.kind (2 ^ 8) kind)

pub turns_insert : (old new : State) (e : KeptEntry) (count : ℕ) → EntryRanges e
    → ExecutesInside 0 insert_text (entry_row e) old new (Ok count)
    → ChangesTables (tables_with_entry e) (HasNextNumber e) old new
turns_insert old new e count ranges h = record {
  inside = ran_inside insert_text (entry_row e) old new count h;
  holds = λ t next holds.
      let it = hold_rows old.now t holds in
      let made = inserts old new e count holds.whole h.0 in
      let fits = entry_within e (omega (arith, next)) ranges in (
        rows_hold new.now (tables_with_entry e t) (rows_insert old.now new.now t e it made fits next),
        made.form,
      );
}

pub turns_put : (old new : State) (c : KeptCell) (count : ℕ) → c.touched ≤ 9223372036854775807
    → c.kind < 2 ^ 8 → ExecutesInside 0 put_text (cell_row c) old new (Ok count)
    → ChangesTables (tables_with_cell c) (λ _. 1 ≤ c.touched) old new
turns_put old new c count high kind h = record {
  inside = ran_inside put_text (cell_row c) old new count h;
  holds = λ t low holds.
      let it = hold_rows old.now t holds in
      let fits = cell_within c low high kind in
      let made = puts old new c count holds.whole fits it.told.cells (rows_apart old.now t it) h.0 in
      (rows_hold new.now (tables_with_cell c t) (rows_put old.now new.now t c it made fits), made.form);
}

pub turns_none : (s : State) (P : KeptTables → Type 0) → IsTrue s.is_open → IsTrue s.in_transaction
    → ChangesTables (with_cells []) P s s
turns_none s P live mode = record {
  inside = record { was_open = live; is_open = live; committed = refl; mode = mode };
  holds = λ t fits holds. (holds, (refl, refl));
}

pub turns_then : (f g : KeptTables → KeptTables) (P Q R : KeptTables → Type 0) (a b c : State)
    → ((t : KeptTables) → R t → P t × Q (f t)) → ChangesTables f P a b → ChangesTables g Q b c → ChangesTables (λ t. g (f t)) R a c
turns_then f g P Q R a b c fits one two = record {
  inside = record {
    was_open = one.inside.was_open;
    is_open = two.inside.is_open;
    committed =
        two.inside.committed ∙ one.inside.committed;
    mode = two.inside.mode;
  };
  holds = λ t r holds.
      let it = fits t r in
      let first = one.holds t it.0 holds in
      let second = two.holds (f t) it.1 first.0 in
      (second.0, (second.1.0 ∙ first.1.0, second.1.1 ∙ first.1.1));
}

-- In a store of form 2 the told tables become what the function makes of them.
pub turns_tells : (change : KeptTables → KeptTables) (Fits : KeptTables → Type 0) (old new : State)
    (t : KeptTables) → ChangesTables change Fits old new → Fits t → TellsTables old.now.schema old.now.trees t
    → TellsTables new.now.schema new.now.trees (change t)
turns_tells change Fits old new t turns fits tells =
    let it = turns.holds t fits tells.holds in
    record {
      holds = it.0;
      second = ap says_second it.1.1 ∙ tells.second;
      emptied = it.1.0 ∙ tells.emptied;
    }

-- the cells so far and one more
pub one_more : (front : List KeptCell) (c : KeptCell) (t : KeptTables)
    → tables_with_cell c (with_cells front t) ≡ with_cells (front ++ c ∷ []) t
one_more front c t = ap (λ cells. record { entries = t.entries; cells = cells })
    (sym (fold-append put_cell t.cells front (c ∷ [])))

pub cells_more : (front : List KeptCell) (c : KeptCell) (P : KeptTables → Type 0) (a b d : State)
    → ((t : KeptTables) → P t → 1 ≤ c.touched)
    → ChangesTables (with_cells front) P a b → ChangesTables (tables_with_cell c) (λ _. 1 ≤ c.touched) b d
    → ChangesTables (with_cells (front ++ c ∷ [])) P a d
cells_more front c P a b d low one two =
    let both = turns_then (with_cells front) (tables_with_cell c) P (λ _. 1 ≤ c.touched) P a b d
    (λ t p. (p, low t p)) one two in
    record {
      inside = both.inside;
      holds = λ t p holds. let it = both.holds t p holds in
          (subst (HoldsTables d.now.schema d.now.trees) (one_more front c t) it.0, it.1);
    }

-- ---- the clauses of the functions that run the statements

pub if_ok : {X E : Type 0} (r : Result X E) (P Q : X → Type 0) → ((x : X) → P x → Q x) → IfOk r P → IfOk r Q
if_ok (Ok x) P Q then h = then x h
if_ok (Err e) P Q then h = tt

pub whole_steady : {X : Type 0} (sql : List ℕ) (params : Row) (old new : State) (show : X → List Row)
    (r : Result X Error) → (HasCleanDisk old → IsWholeStore old)
    → IsPlain (understood whole_schema sql) → (old.in_transaction ≡ false → new.in_transaction ≡ false)
    → (HasCleanDisk new → IfOk r (λ rows. Shown sql params old new (show rows)))
    → (HasCleanDisk new → IfErr r (FailsToQuery sql params old new))
    → Survives old new (CommitsShowing sql params old) → IsSteady old new
whole_steady sql params old new show r whole plain mode ok err survives =
    query_steady sql params old new show r (λ clean. (whole (earlier clean)).settled)
    (λ clean. plain_under _ sql (whole (earlier clean)).schema plain) mode ok err survives
  where
    earlier : HasCleanDisk new → HasCleanDisk old
    earlier clean = omega (arith, survives.clean, clean)

pub ready_steady : {X : Type 0} (sql : List ℕ) (params : Row) (old new : State) (show : X → List Row)
    (r : Result X Error) → (HasCleanDisk old → IsReadyStore old)
    → IsPlain (understood whole_schema sql) → (old.in_transaction ≡ false → new.in_transaction ≡ false)
    → (HasCleanDisk new → IfOk r (λ rows. Shown sql params old new (show rows)))
    → (HasCleanDisk new → IfErr r (FailsToQuery sql params old new))
    → Survives old new (CommitsShowing sql params old) → IsSteady old new
ready_steady sql params old new show r ready =
    whole_steady sql params old new show r (λ clean. (ready clean).whole)

pub adds_entry : (old new : State) (e : KeptEntry) (r : Result ℕ Error) → EntryRanges e
    → ExecutesInside 0 insert_text (entry_row e) old new r → OnOk r (ChangesTables (tables_with_entry e) (HasNextNumber e) old new)
adds_entry old new e (Ok count) ranges h = turns_insert old new e count ranges h
adds_entry old new e (Err error) ranges h = tt

pub puts_cell : (old new : State) (c : KeptCell) (r : Result ℕ Error) → c.touched ≤ 9223372036854775807
    → c.kind < 2 ^ 8 → ExecutesInside 0 put_text (cell_row c) old new r
    → OnOk r (ChangesTables (tables_with_cell c) (λ _. 1 ≤ c.touched) old new)
puts_cell old new c (Ok count) high kind h = turns_put old new c count high kind h
puts_cell old new c (Err error) high kind h = tt
