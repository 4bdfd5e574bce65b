-- What putting a cell of form 2 makes of a store.
use Rattle.std.proofs.Common.{◌≡◌, ◌⊎◌, inl, inr, ℕ, ℤ, pos, Bool, true, false, not, ◌&&◌, ◌||◌, List, [], ◌∷◌, ◌++◌, cond, filter, map, Option, None, Some, Ok, Less, is_eq, arith, refl, sym, ap, subst, ◌∙◌, true≢false, IsPermutation}
use Rattle.std.specs.List.{AllByRecursion}
use Rattle.std.specs.FinMap.{find}
use Rattle.std.specs.Cmp.Lexicographic.{slice_cmp}
use Rattle.std.specs.Ordering.{nat_cmp}
use Rattle.std.proofs.lemmas.List.Sorted.{IsPermutation-refl, IsPermutation-trans}
use Rattle.sqlite_value.specs.declared.value.Value.{Value}
use Rattle.sqlite_value.specs.declared.value.Value.TheVariants.{Null, Int, Text, Blob}
use Rattle.sqlite_value.specs.declared.keys.Collation.TheVariants.{Binary}
use Rattle.sqlite_value.specs.Order.{Row, column, value_cmp}
use Rattle.sqlite_value.specs.Keys.{plain}
use Rattle.sqlite_value.proofs.OrderLemmas.{value_cmp_total}
use Rattle.sqlite_trees.specs.Tree.{Trees, IsTable, has_rowid, put_row, rowid, without_rowid}
use Rattle.sqlite_trees.proofs.ListLemmas.{all-filter, all_weaker, ascending-filter, filter_same, filter_none}
use Rattle.sqlite_sql.specs.Ops.{binary}
use Rattle.sqlite_sql.specs.Query.{IsAnswer}
use Rattle.sqlite_sql.specs.Program.{overlay}
use Rattle.sqlite_schema.specs.Rules.{agree, equal}
use Rattle.sqlite_schema.specs.declared.command.Source.TheVariants.{Values}
use Rattle.sqlite_schema.specs.declared.command.Conflict.TheVariants.{Abort}
use Rattle.sqlite_schema.specs.declared.command.Command.TheVariants.{InsertOr}
use Rattle.sqlite_rules.specs.Cast.{cast, cast_row}
use Rattle.sqlite_schema.specs.declared.schema.Kind.TheVariants.{Integer}
use Rattle.std.specs.Cmp.{tied_itself}
use Rattle.std.specs.Ordering.{ordering_reverse}
use Rattle.std.proofs.lemmas.Cmp.{eq_by_cmp_equiv, nat_list_cmp_total}
use Rattle.sqlite_rules.specs.Edit.{Applies, at_least, are_fresh, edit_of, id_in, is_taken, next_rowid, put_all, with_rowid, without_all}
use Rattle.sqlite_rules.specs.declared.error.Rowids.TheVariants.{Chosen, Given}
use Rattle.sqlite_rules.specs.Keys.{AreConflicts, conflicts}
use Rattle.sqlite_rules.specs.Lists.{Has}
use Rattle.sqlite_rules.proofs.ListLemmas.{all_has, all_from, has_filtered, has_kept}
use Rattle.sqlite.specs.Values.{or_null}
use Rattle.sqlite.specs.Does.{Does, Tally}
use Rattle.sqlite.specs.Effect.{Database, IsDatabase}
use Rattle.sqlite.specs.Rows as rows
use Rattle.sqlite.specs.Rows.{Task, Written}
use Rattle.sqlite_schema.specs.declared.schema.Keys.{Keys}
use Rattle.sqlite.specs.State.{State, Executes, mode_of}
use Rattle.sqlite.specs.Listing.{understood}
use Rattle.sqlite.proofs.Callers.{one_step, runs_as, statement_of}
use Rattle.lei_values.specs.KeptTables.{CellPlace, cell_place}
use Rattle.lei_values.specs.declared.cell.KeptCell.{KeptCell}
use Rattle.store_statements.specs.Commands.{no_limit, plain_query, put_clause, put_query, put_terms}
use Rattle.store_statements.specs.Rows.{cell_row}
use Rattle.store_statements.specs.Names.{lei_of, rest_of}
use Rattle.store_statements.specs.Schemas.{by_entry, by_entry2, by_name, by_parts, cell2_table, whole_schema}
use Rattle.store_statements.specs.Texts.{put_text}
use Rattle.store_statements.proofs.Meanings.{put_is, put_plain}
use Rattle.store_tables.specs.Calls.{KeepsForm}
use Rattle.store_tables.specs.Stored.{cell2_of, cell_fits, form_2, stored_cell2}
use Rattle.store_tables.specs.Told.{place_and_content}
use Rattle.store_tables.proofs.EntryWriting.{not_taken}
use Rattle.store_tables.proofs.NameLemmas.{joined_again}
use Rattle.store_tables.proofs.PlaceLemmas.{Apart, agree2_is, by_both, none_true, place, same_place}
use Rattle.store_tables.proofs.QueryLemmas.{answer_is, passes, shown}
use Rattle.lei_values.proofs.Places.{tied}
use Rattle.sqlite_rules.specs.Calls.{ids_of}
use Rattle.store_tables.proofs.RowLemmas.{AreCells, IsCell}
use Rattle.store_tables.proofs.SameLemmas.{left_of}
use Rattle.store_tables.proofs.ValueLemmas.{told_truth}
use Rattle.store_tables.proofs.WriteLemmas.{cast_int, cast_null, same_value, went}

-- The rows that stay are cells in other places, and each of the old ones in such a place is among them.
pub record Stay (old rest : List Row) (c : KeptCell) : Type 0 where
  pub are : AreCells form_2 rest
  pub apart : AllByRecursion (λ s. same_place (cell_place c) (place form_2 s) ≡ false) rest
  pub found : (q : CellPlace) → same_place q (cell_place c) ≡ false
      → find (slice_cmp nat_cmp) q (map (place_and_content form_2) rest) ≡ find (slice_cmp nat_cmp) q (map (place_and_content form_2) old)

-- the cell's row is put alongside those that stay, and nothing else changes
pub record Puts (old new : Database) (c : KeptCell) : Type 0 where
  pub schema : new.schema ≡ whole_schema
  pub sound : IsDatabase new
  pub entries : new.trees 0 ≡ old.trees 0
  pub form : KeepsForm old.trees new.trees
  pub id : ℤ
  pub rest : List Row
  pub stay : Stay (old.trees 5) rest c
  pub cells : new.trees 5 ≡ put_row (stored_cell2 id c) rest
  pub fresh : is_taken rest (stored_cell2 id c) ≡ false

-- ---- the row that is to be put

blob_stays : (o : Option (List ℕ)) (v : Value) → v ≡ or_null Blob o → v ≡ or_null Blob o
blob_stays o v e = e

cell_cast : (v : Value) (w : ℤ) (c : KeptCell) → cast Integer v ≡ Int w
    → cast_row cell2_table (v ∷ Int (pos c.kind) ∷ Text (lei_of c.name) ∷ Text (rest_of c.name) ∷ Int (pos c.touched)
    ∷ or_null Blob c.row ∷ [])
    ≡ stored_cell2 w c
cell_cast v w c is = rw (is, cast_int (pos c.kind), cast_int (pos c.touched))

new_cast : (c : KeptCell)
    → cast_row cell2_table (Null ∷ Int (pos c.kind) ∷ Text (lei_of c.name) ∷ Text (rest_of c.name) ∷ Int (pos c.touched)
    ∷ or_null Blob c.row
    ∷ [])
    ≡ Null ∷ Int (pos c.kind) ∷ Text (lei_of c.name) ∷ Text (rest_of c.name) ∷ Int (pos c.touched)
    ∷ or_null Blob c.row ∷ []
new_cast c = rw (cast_null, cast_int (pos c.kind), cast_int (pos c.touched))

-- ---- which rows conflict

or_false : (b : Bool) → (b || false) ≡ b
or_false true = refl
or_false false = refl

conflict_is : (new r : Row)
    → conflicts (Some by_both) (by_name ∷ by_entry ∷ by_parts ∷ by_entry2 ∷ []) cell2_table new r
    ≡ agree plain by_both r by_both new
conflict_is new r = or_false _

-- ---- the row with an id

id_test : (a b : ℤ) → equal Binary (Int a) (Int b) ≡ is_eq (value_cmp (Int a) (Int b))
unfolding binary
id_test a b = told_truth _

same_id : (r : Row) (id : ℤ) → IsCell form_2 r → equal Binary (column r 0) (Int id) ≡ has_rowid id r
same_id r id is = subst (λ v. equal Binary v (Int id) ≡ is_eq (value_cmp v (Int id)))
    (sym (ap (λ (x : Row). column x 0) is.0)) (id_test _ id)

pub not_id : (r s : Row) (id : ℤ) → rowid s ≡ Int id → value_cmp (rowid r) (rowid s) ≡ Less
    → has_rowid id r ≡ false
not_id r s id is below = ap is_eq (subst (λ v. value_cmp (rowid r) v ≡ Less) is below)

pub has_its_id : (r : Row) (id : ℤ) → rowid r ≡ Int id → has_rowid id r ≡ true
has_its_id r id is = ap is_eq (ap (λ v. value_cmp v (Int id)) is ∙ tied_itself value_cmp_total (Int id))

pub after_id : (s x : Row) (id : ℤ) → rowid s ≡ Int id → value_cmp (rowid s) (rowid x) ≡ Less
    → has_rowid id x ≡ false
after_id s x id is below =
    let less : value_cmp (Int id) (rowid x) ≡ Less = subst (λ v. value_cmp v (rowid x) ≡ Less) is below in
    ap is_eq (value_cmp_total.antisymm (rowid x) (Int id) ∙ ap ordering_reverse less)

one_with : (rows : List Row) (r : Row) (id : ℤ) → IsTable rows → Has rows r → rowid r ≡ Int id
    → filter (has_rowid id) rows ≡ r ∷ []
one_with [] r id up has is = absurd has
one_with (s ∷ rows) r id up (inl e) is =
    let here : has_rowid id s ≡ true = ap (λ x. has_rowid id x) (sym e) ∙ has_its_id r id is in
    let none : filter (has_rowid id) rows
    ≡ [] = filter_none (has_rowid id) rows
    (all_from (λ x. has_rowid id x ≡ false) rows
    (λ x h. after_id s x id (ap rowid (sym e) ∙ is)
    (all_has (λ y. value_cmp (rowid s) (rowid y) ≡ Less) rows x up.0 h))) in
    rw (here, none, e)
one_with (s ∷ rows) r id up (inr h) is =
    let here : has_rowid id s
    ≡ false = not_id s r id is (all_has (λ y. value_cmp (rowid s) (rowid y) ≡ Less) rows r up.0 h) in
    rw here (one_with rows r id up.1 h is)

-- ---- the other rows

apart_symm : (a b : CellPlace) → same_place a b ≡ same_place b a
apart_symm = (eq_by_cmp_equiv nat_list_cmp_total).symm

apart_pair : (rows : List Row) (a b : Row) → Apart form_2 rows → Has rows a → Has rows b
    → (a ≡ b) ⊎ (same_place (place form_2 a) (place form_2 b) ≡ false)
apart_pair [] a b apart p q = absurd p
apart_pair (r ∷ rows) a b apart (inl p) (inl q) = inl (p ∙ sym q)
apart_pair (r ∷ rows) a b apart (inl p) (inr q) = inr
    (ap (λ x. same_place (place form_2 x) (place form_2 b)) p
    ∙ all_has (λ s. same_place (place form_2 r) (place form_2 s) ≡ false) rows b apart.0 q)
apart_pair (r ∷ rows) a b apart (inr p) (inl q) =
    inr (apart_symm (place form_2 a) (place form_2 b)
    ∙ (ap (λ x. same_place (place form_2 x) (place form_2 a)) q
    ∙ all_has (λ s. same_place (place form_2 r) (place form_2 s) ≡ false) rows a apart.0 p))
apart_pair (r ∷ rows) a b apart (inr p) (inr q) = apart_pair rows a b apart.1 p q

find_rest : (q : CellPlace) (id : ℤ) (rows : List Row)
    → ((x : Row) → Has rows x → has_rowid id x ≡ true → same_place q (place form_2 x) ≡ false)
    → find (slice_cmp nat_cmp) q (map (place_and_content form_2) (without_rowid id rows))
    ≡ find (slice_cmp nat_cmp) q (map (place_and_content form_2) rows)
find_rest q id [] gone = refl
find_rest q id (r ∷ rows) gone = go (has_rowid id r) refl (find_rest q id rows (λ x h. gone x (inr h)))
  where
    go : (b : Bool) → has_rowid id r ≡ b
        → find (slice_cmp nat_cmp) q (map (place_and_content form_2) (without_rowid id rows))
        ≡ find (slice_cmp nat_cmp) q (map (place_and_content form_2) rows)
        → find (slice_cmp nat_cmp) q (map (place_and_content form_2) (without_rowid id (r ∷ rows)))
        ≡ find (slice_cmp nat_cmp) q (map (place_and_content form_2) (r ∷ rows))
    go true e more = rw (e, gone r (inl refl) e) more
    go false e more = rw e (ap (cond (same_place q (place form_2 r)) (Some (place_and_content form_2 r).1)) more)

-- The row with the id of a cell of this place is removed.
stay_without : (rows : List Row) (r : Row) (id : ℤ) (c : KeptCell) → AreCells form_2 rows → Apart form_2 rows → Has rows r
    → rowid r ≡ Int id → place form_2 r ≡ cell_place c → Stay rows (without_rowid id rows) c
stay_without rows r id c are apart has is same =
    let only : (x : Row) → Has rows x → has_rowid id x ≡ true → x ≡ r = λ x h e.
    elim (subst (λ xs. Has xs x) (one_with rows r id are.rise has is) (has_kept (has_rowid id) rows x h e))
    [ inl here ↦ here | inr none ↦ absurd none ] in
    record {
      are = record {
        rise = ascending-filter _ (λ x. not (has_rowid id x)) rows are.rise;
        each = all-filter
            (IsCell form_2) (λ x. not (has_rowid id x)) rows are.each;
      };
      apart = all_from (λ s. same_place (cell_place c) (place form_2 s) ≡ false) (without_rowid id rows) (λ s h.
          let it = has_filtered (λ x. not (has_rowid id x)) rows s h in
          elim (apart_pair rows r s apart has it.0) [
            | inl one ↦ absurd (true≢false
                (sym (subst (λ x. has_rowid id x ≡ true) one (has_its_id r id is)) ∙ not_taken _ it.1))
            | inr other ↦ subst (λ p. same_place p (place form_2 s) ≡ false) same other
          ]);
      found = λ q other. find_rest q id rows
          (λ x h e. subst (λ y. same_place q (place form_2 y) ≡ false) (sym (only x h e))
          (subst (λ p. same_place q p ≡ false) (sym same) other));
    }

-- ---- what the edit makes

head_of : List ℕ → ℕ
head_of [] = 0
head_of (x ∷ xs) = x

tail_of : List ℕ → List ℕ
tail_of [] = []
tail_of (x ∷ xs) = xs

edit_puts : (db next : Trees) (gone : List ℤ) (news : List Row) (keys : Keys) (id : ℤ) (c : KeptCell)
    → news ≡ stored_cell2 id c ∷ []
    → Applies whole_schema keys db (record { table = cell2_table; gone = gone; news = news }) next
    → (next 5 ≡ put_row (stored_cell2 id c) (without_all (db 5) gone))
    × (is_taken (without_all (db 5) gone) (stored_cell2 id c) ≡ false) × (next 0 ≡ db 0) × KeepsForm db next
edit_puts db next gone news keys id c is applies = (
  applies.rows ∙ ap (put_all (without_all (db 5) gone)) is,
  not_taken _ (left_of _ _ (subst (λ rows. are_fresh (without_all (db 5) gone) rows ≡ true) is
      applies.fresh)),
  applies.tables.0 (λ same. omega (arith, same)),
  (applies.tables.1.0 (λ same. omega (arith, same)), applies.tables.1.1.0 (λ same. omega (arith, same))),
)

row_again : (id : ℤ) (c : KeptCell) (o : Option (List ℕ))
    → (cell2_of (stored_cell2 id (record c { row = o }))).row ≡ o
row_again id c None = refl
row_again id c (Some b) = refl

-- a cell is read back from its row
pub cell_again : (id : ℤ) (c : KeptCell) → cell2_of (stored_cell2 id c) ≡ c
cell_again id c = λ i. record c { name = joined_again c.name i; row = row_again id c c.row i }

pub cell_is_cell : (id : ℤ) (c : KeptCell) → cell_fits c ≡ true → IsCell form_2 (stored_cell2 id c)
cell_is_cell id c fits = (ap (stored_cell2 id) (sym (cell_again id c)), ap cell_fits (cell_again id c) ∙ fits)

-- if no row has the place of the cell
stay_all : (rows : List Row) (found : List Row) (id : ℤ) (c : KeptCell) → cell_fits c ≡ true → AreCells form_2 rows
    → AreConflicts (Some by_both) whole_schema.indexes cell2_table rows (stored_cell2 id c) found → found ≡ []
    → Stay rows rows c
stay_all rows found id c fits are conflict none = record {
  are = are;
  apart = all_from (λ s. same_place (cell_place c) (place form_2 s) ≡ false) rows (λ s h.
      let new = cell_is_cell id c fits in
      let is = all_has (IsCell form_2) rows s are.each h in
      let differs : agree plain by_both s by_both (stored_cell2 id c) ≡ false = none_true _ (λ same.
      subst (λ xs. Has xs (rowid s ∷ [])) none
      (conflict.complete s h (conflict_is (stored_cell2 id c) s ∙ same))) in
      apart_symm (cell_place c) (place form_2 s)
      ∙ (ap (λ x. same_place (place form_2 s) (cell_place x)) (sym (cell_again id c))
      ∙ (sym (agree2_is s (stored_cell2 id c) is new) ∙ differs)));
  found = λ q other. refl;
}

same_cell : (c0 c : KeptCell) → cell_place c0 ≡ cell_place c → record c0 { touched = c.touched; row = c.row } ≡ c
unfolding head_of tail_of
same_cell c0 c same = λ i. record { kind = (kinds i); name = (names i); touched = c.touched; row = c.row }
  where
    kinds : c0.kind ≡ c.kind
    kinds = ap head_of same

    names : c0.name ≡ c.name
    names = ap tail_of same

module _ (limit : Option ℕ) (keys : Keys) (c : KeptCell) (fits : cell_fits c ≡ true) (db : Trees)
    (are : AreCells form_2 (db 5)) (apart : Apart form_2 (db 5)) where
  abbrev task : Task
  task = record { limit = limit; keys = keys; schema = whole_schema; table = cell2_table; params = cell_row c }

  -- what is put, and alongside which rows
  record Put (next : Trees) : Type 0 where
    pub entries : next 0 ≡ db 0
    pub form : KeepsForm db next
    pub id : ℤ
    pub rest : List Row
    pub stay : Stay (db 5) rest c
    pub cells : next 5 ≡ put_row (stored_cell2 id c) rest
    pub fresh : is_taken rest (stored_cell2 id c) ≡ false

  put_by : (next : Trees) (gone : List ℤ) (news : List Row) (id : ℤ) → news ≡ stored_cell2 id c ∷ []
      → Applies whole_schema keys db (record { table = cell2_table; gone = gone; news = news }) next
      → Stay (db 5) (without_all (db 5) gone) c → Put next
  put_by next gone news id is applies stay =
      let made = edit_puts db next gone news keys id c is applies in
      record {
        entries = made.2;
        form = made.3;
        id = id;
        rest = without_all (db 5) gone;
        stay = stay;
        cells = made.0;
        fresh =
            made.1;
      }

  -- a new row
  put_new : (id : ℤ) (found : List Row) (w : Written)
      → AreConflicts (Some by_both) whole_schema.indexes cell2_table (db 5) (stored_cell2 id c) found
      → found ≡ []
      → rows.Puts task (stored_cell2 id c) db (Ok w) → Put w.trees
  put_new id found w conflict none h =
      let it = went h in
      let applies = one_step whole_schema keys db it.0
      (edit_of db cell2_table [] Given 0 (stored_cell2 id c ∷ [])) refl it.1 in
      let trees : it.0 ≡ w.trees = ap (λ (x : Written). x.trees) (sym (same_value it.2)) in
      put_by w.trees [] _ id (ap (λ r. r ∷ []) (cell_cast (Int id) id c (cast_int id)))
      (subst (Applies whole_schema keys db (edit_of db cell2_table [] Given 0 (stored_cell2 id c ∷ [])))
      trees applies)
      (stay_all (db 5) found id c fits are conflict none)

  abbrev given : ℤ → Row → Row
  given id there = cell_row c ++ rowid there ∷ rows.shown cell2_table (stored_cell2 id c)

  abbrev put_passes : ℤ → Row → Row → Bool
  put_passes id there = passes 5 put_query.filter put_query.project put_query.order no_limit (given id there)

  and_true : (b : Bool) → (b && true) ≡ b
  and_true true = refl
  and_true false = refl

  -- the one row that the update is for
  matched : (id : ℤ) (there r : Row) → Has (db 5) r → IsCell form_2 r → there ≡ rowid r ∷ []
      → filter (put_passes id there) (db 5) ≡ r ∷ []
  matched id there r has is there_is =
      let known : rowid there ≡ Int (id_in (column r 0)) = ap rowid there_is ∙ ap rowid is.0 in
      let each = all_weaker (IsCell form_2) (λ x. put_passes id there x ≡ has_rowid (id_in (column r 0)) x) (λ x cell.
      and_true _ ∙ (ap (λ v. equal Binary (column x 0) v) known ∙ same_id x (id_in (column r 0)) cell)) (db 5)
      are.each in
      filter_same (put_passes id there) (has_rowid (id_in (column r 0))) (db 5) each
      ∙ one_with (db 5) r (id_in (column r 0)) are.rise has (ap rowid is.0)

  over_cast : (r : Row) → IsCell form_2 r → place form_2 r ≡ cell_place c
      → cast_row cell2_table (column r 0 ∷ column r 1 ∷ column r 2 ∷ column r 3 ∷ Int (pos c.touched) ∷ or_null Blob c.row
      ∷ []) ≡ stored_cell2 (id_in (column r 0)) c
  over_cast r is same =
      subst (λ (x : Row). cast_row cell2_table
      (column x 0 ∷ column x 1 ∷ column x 2 ∷ column x 3 ∷ Int (pos c.touched) ∷ or_null Blob c.row ∷ [])
      ≡ stored_cell2 (id_in (column r 0)) c) (sym is.0)
      (cell_cast (Int (id_in (column r 0))) (id_in (column r 0))
      (record (cell2_of r) { touched = c.touched; row = c.row }) (cast_int _)
      ∙ ap (stored_cell2 (id_in (column r 0))) (same_cell (cell2_of r) c same))

  -- in place of a row
  put_over : (id : ℤ) (there : Row) (more found : List Row) (w : Written)
      → AreConflicts (Some by_both) whole_schema.indexes cell2_table (db 5) (stored_cell2 id c) found
      → found ≡ there ∷ more
      → rows.Updates task (plain_query put_query) (given id there) db (Ok w) → Put w.trees
  put_over id there more found w conflict some h =
      let sound = conflict.sound there (subst (λ xs. Has xs there) (sym some) (inl refl)) in
      let r = sound.0 in
      let is = all_has (IsCell form_2) (db 5) r are.each sound.1 in
      let rid = id_in (column r 0) in
      let agrees : agree plain by_both r by_both (stored_cell2 id c)
      ≡ true = sym (conflict_is (stored_cell2 id c) r) ∙ sound.2 in
      let tie : same_place (place form_2 r) (cell_place c) ≡ true =
      ap (λ x. same_place (place form_2 r) (cell_place x)) (sym (cell_again id c))
      ∙ (sym (agree2_is r (stored_cell2 id c) is (cell_is_cell id c fits)) ∙ agrees) in
      let same = tied (place form_2 r) (cell_place c) tie in
      let it = went h in
      let one = matched id there r sound.1 is sound.3 in
      let a : IsAnswer put_query (overlay db []) (given id there) it.0 = it.1.answer Null in
      let show = shown 5 put_query.filter put_query.project put_query.order no_limit (given id there) in
      let answer = answer_is 5 put_query.filter put_query.project put_query.order no_limit (given id there) db
      it.0 a (show r ∷ []) (tt, tt)
      (subst (λ xs. IsPermutation (show r ∷ []) (map show xs)) (sym one) (IsPermutation-refl _))
      IsPermutation-trans in
      let edited = went it.2 in
      let applies = one_step whole_schema keys db edited.0 (edit_of db cell2_table (ids_of it.0) Given 1 it.0)
      refl edited.1 in
      let applied = subst (λ xs. Applies whole_schema keys db (edit_of db cell2_table (ids_of xs) Given 1 xs)
      edited.0) answer applies in
      let trees : edited.0 ≡ w.trees = ap (λ (x : Written). x.trees) (sym (same_value edited.2)) in
      put_by w.trees (rid ∷ []) _ rid (ap (λ x. x ∷ []) (over_cast r is same))
      (subst (Applies whole_schema keys db _) trees applied)
      (stay_without (db 5) r rid c are apart sound.1 (ap rowid is.0) same)

  -- either way
  put_tried : (id : ℤ) (w : Written) → rows.Tries task Abort (put_clause ∷ []) (stored_cell2 id c) db (Ok w)
      → Put w.trees
  put_tried id w (inl never) = absurd (let e = never.1 in cc)
  put_tried id w (inr (None, judged, (found, conflict, h))) = go found refl h
    where
      go : (f : List Row) → found ≡ f
          → rows.Meets task (rows.Upserts task Abort (stored_cell2 id c) db []) (stored_cell2 id c) db
          put_clause f (Ok w) → Put w.trees
      go [] e (other, clash, cleared) = put_new id found w conflict e (clears other cleared)
        where
          clears : (xs : List Row) → rows.Clears task Abort (stored_cell2 id c) db xs (Ok w)
              → rows.Puts task (stored_cell2 id c) db (Ok w)
          clears [] k = k
          clears (x ∷ xs) k = k
      go (there ∷ more) e h = put_over id there more found w conflict e h
  put_tried id w (inr (Some why, judged, h)) = absurd (let e = h in cc)

pub puts : (old new : State) (c : KeptCell) (count : ℕ) → old.now.schema ≡ whole_schema → cell_fits c ≡ true
    → AreCells form_2 (old.now.trees 5) → Apart form_2 (old.now.trees 5)
    → Executes put_text (cell_row c) old new (Ok count) → Puts old.now new.now c
puts old new c count has fits are apart h =
    let params = cell_row c in
    let db = old.now.trees in
    let clauses = put_clause ∷ [] in
    let command = InsertOr 3 Abort (Values put_terms 6) clauses in
    let w = runs_as put_text params old new whole_schema has command put_is put_plain count h in
    let text = statement_of put_text (understood whole_schema put_text) in
    let limit = old.step_limit in
    let keys = (mode_of old).keys in
    let t = task limit keys c fits db are apart in
    let done = went (subst (λ s. Does limit (mode_of old) params (record old.now { schema = s }) text None
    command (Ok (w.tally, new.now))) has w.changed) in
    let now = ap (λ (p : Tally × Database). p.1) (same_value (went (went done.2).2).2) in
    let source = went done.1 in
    let tried = went (went source.2).2 in
    let counted = went tried.2 in
    let each = subst (λ xs. rows.TriesEach t Abort clauses xs (rows.count_of (went source.2).0)
    (rows.nothing db) (Ok tried.0)) source.1.1 tried.1 in
    let one = went each in
    let id = at_least Chosen (next_rowid (db 5)) in
    let new_row = ap (with_rowid Chosen (db 5)) (new_cast c) in
    let put = put_tried limit keys c fits db are apart id one.0
    (subst (λ r. rows.Tries t Abort clauses r db (Ok one.0)) new_row one.1) in
    let left : tried.0.0.trees ≡ one.0.trees = ap (λ (p : Written × ℤ). p.0.trees) (same_value one.2) in
    let last : done.0.trees ≡ counted.0 = ap (λ (x : Written). x.trees) (same_value counted.2) in
    let count : counted.0 ≡ tried.0.0.trees = same_value counted.1 in
    let trees : new.now.trees ≡ one.0.trees = ap (λ (d : Database). d.trees) now ∙ (last ∙ (count ∙ left)) in
    record {
      schema = ap (λ (d : Database). d.schema) now;
      sound = w.sound;
      entries = ap (λ (x : Trees). x 0) trees ∙ put.entries;
      form = (
        ap (λ (x : Trees). x 1) trees ∙ put.form.0,
        ap (λ (x : Trees). x 4) trees ∙ put.form.1,
      );
      id = put.id;
      rest = put.rest;
      stay = put.stay;
      cells = ap (λ (x : Trees). x 5) trees ∙ put.cells;
      fresh = put.fresh;
    }
