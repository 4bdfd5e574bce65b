-- Pages of the cells of form 1: the answer of reading one, and what removing its rows makes of a store.
use Rattle.std.proofs.Common.{◌≡◌, inl, inr, ℕ, ℤ, Bool, true, false, not, cond, ◌&&◌, List, [], ◌∷◌, ◌++◌, map, filter, take, option_map, None, Some, Ok, Err, Result, OnOk, IfOk, Less, IsTrue, IsPermutation, refl, sym, ap, subst, ◌∙◌, arith, true≢false, is_le}
use Rattle.std.specs.Ordering.{ordering_reverse}
use Rattle.std.specs.List.{AllByRecursion, list_all}
use Rattle.std.proofs.lemmas.List.Sorted.{IsPermutation-refl, IsPermutation-sym, IsPermutation-trans}
use Rattle.sqlite_value.specs.declared.value.Value.TheVariants.{Int, Null}
use Rattle.sqlite_value.specs.declared.keys.Collation.TheVariants.{Binary}
use Rattle.sqlite_value.specs.Order.{Row, column, value_cmp}
use Rattle.sqlite_value.proofs.OrderLemmas.{then-Equal, value_cmp_total}
use Rattle.std.specs.Cmp.{tied_itself}
use Rattle.sqlite_trees.specs.Tree.{IsAscending, IsTable, Trees, has_rowid, rowid, without_rowid}
use Rattle.sqlite_trees.proofs.ListLemmas.{all-append, all-map, all-permutation, all_from_map, all_of, ascending-map, ascending_weaker, filter_all}
use Rattle.sqlite_sql.specs.declared.ops.BinaryOp.TheVariants.{Compare}
use Rattle.sqlite_sql.specs.declared.ops.CompareOp.TheVariants.{Le}
use Rattle.sqlite_sql.specs.Ops.{binary, is_true}
use Rattle.sqlite_sql.specs.Query.{IsAnswer, Output, output_cmp}
use Rattle.sqlite_sql.specs.Program.{overlay}
use Rattle.sqlite_schema.specs.declared.command.Command.TheVariants.{Delete}
use Rattle.sqlite_rules.specs.declared.error.Rowids.TheVariants.{Given}
use Rattle.sqlite_rules.specs.Calls.{ids_of}
use Rattle.sqlite_rules.specs.Edit.{edit_of, id_in, without_all}
use Rattle.sqlite_rules.specs.Lists.{Has}
use Rattle.sqlite_rules.proofs.ListLemmas.{all_has}
use Rattle.sqlite.specs.declared.error.Error.{Error}
use Rattle.sqlite.specs.Does.{Does, Tally}
use Rattle.sqlite.specs.Effect.{Database, IsDatabase}
use Rattle.sqlite.specs.Rows.{Written}
use Rattle.sqlite.specs.State.{State, Executes, ExecutesInside, Shown, mode_of}
use Rattle.sqlite.specs.Listing.{understood}
use Rattle.sqlite.proofs.Callers.{one_step, reads_as, runs_as, statement_of}
use Rattle.store_statements.specs.Commands.{clear_query, no_limit, page_query, plain_query}
use Rattle.store_statements.specs.Schemas.{cell_table, whole_schema}
use Rattle.store_statements.specs.Texts.{clear_text, page_text}
use Rattle.store_statements.proofs.Meanings.{clear_is, clear_plain, page_is, page_plain}
use Rattle.store_tables.specs.Calls.{Clears, ReadsPage, last_id}
use Rattle.store_tables.specs.Stored.{form_1, form_2}
use Rattle.store_tables.specs.Told.{told_as}
use Rattle.store_tables.proofs.CallLemmas.{plain_under, ran_inside}
use Rattle.store_tables.proofs.InsideLemmas.{shown_inside}
use Rattle.store_tables.proofs.CellWriting.{after_id, has_its_id}
use Rattle.store_tables.proofs.NumberLemmas.{before_last, front_of, last_of, snoc}
use Rattle.store_tables.proofs.QueryLemmas.{answer_is, kept_is, passes, shown}
use Rattle.store_tables.proofs.RowLemmas.{AreCells, IsCell, are_first}
use Rattle.store_tables.proofs.SameLemmas.{both_of, left_of, right_of}
use Rattle.store_tables.proofs.StateLemmas.{shown_unchanged}
use Rattle.store_tables.proofs.ValueLemmas.{told_truth}
use Rattle.store_tables.proofs.WriteLemmas.{same_value, went}

-- ---- reading

abbrev page_passes : Row → Bool
page_passes = passes 1 [] page_query.project page_query.order page_query.limit []

abbrev page_shown : Row → Output
page_shown = shown 1 [] page_query.project page_query.order page_query.limit []

-- a row is read as it is stored
shows_is : (r : Row) → IsCell form_1 r → (page_shown r).1 ≡ r
shows_is r is = subst (λ x. (page_shown x).1 ≡ x) (sym is.0) refl

all_shown : (rows : List Row) → AllByRecursion (IsCell form_1) rows
    → map (λ (o : Output). o.1) (map page_shown rows) ≡ rows
all_shown [] each = refl
all_shown (r ∷ rows) each = λ i. shows_is r each.0 i ∷ all_shown rows each.1 i

page_answer : (db : Trees) (rows : List Row) → AreCells form_1 (db 1)
    → IsAnswer page_query (overlay db []) [] rows → rows ≡ take 100 (db 1)
page_answer db rows are a =
    let all = map page_shown (db 1) in
    let up = ascending-map (λ x y. output_cmp page_query x y ≡ Less) page_shown _
    (ascending_weaker (λ x y. value_cmp (rowid x) (rowid y) ≡ Less)
    (λ x y. output_cmp page_query (page_shown x) (page_shown y) ≡ Less) (λ x y below. then-Equal _ ∙ below)
    (db 1) are.rise) in
    let whole : filter page_passes (db 1)
    ≡ db 1 = filter_all page_passes (db 1) (all_of (λ x. page_passes x ≡ true) (λ x. refl) (db 1)) in
    let same = subst (λ xs. IsPermutation all (map page_shown xs)) (sym whole) (IsPermutation-refl _) in
    answer_is 1 [] page_query.project page_query.order page_query.limit [] db rows a all up same
    IsPermutation-trans
    ∙ ap (take 100) (all_shown (db 1) are.each)

pub reads_page : (old new : State) (rows : List Row) → IsTrue old.in_transaction
    → Shown page_text [] old new rows → ReadsPage old new rows
reads_page old new rows inside h = record {
  inside = shown_inside page_text [] old new rows inside h;
  now = λ whole.
      let same = shown_unchanged page_text [] old new rows (plain_under _ page_text whole page_plain) h in
      same.0.now_is;
  page = λ whole first.
      let a = reads_as page_text [] old new whole_schema whole _ page_is.0 page_plain page_is.1 rows h in
      page_answer old.now.trees rows (are_first _ first) (a.answer Null);
}

pub page_by : {X : Type 0} (old new : State) (show : X → List Row) (r : Result X Error)
    → IsTrue old.in_transaction → IfOk r (λ rows. Shown page_text [] old new (show rows))
    → IfOk r (λ rows. ReadsPage old new (show rows))
page_by old new show (Ok rows) inside h = reads_page old new (show rows) inside h
page_by old new show (Err e) inside h = tt

-- ---- removal

abbrev clears_row : ℤ → Row → Bool
clears_row last = passes 1 clear_query.filter clear_query.project clear_query.order no_limit (Int last ∷ [])

abbrev cleared : ℤ → Row → Output
cleared last = shown 1 clear_query.filter clear_query.project clear_query.order no_limit (Int last ∷ [])

and_true : (b : Bool) → (b && true) ≡ b
and_true true = refl
and_true false = refl

clears_is : (last : ℤ) (r : Row) (id : ℤ) → rowid r ≡ Int id
    → clears_row last r ≡ is_le (value_cmp (rowid r) (Int last))
unfolding binary
clears_is last r id is = and_true _
    ∙ subst (λ v. is_true (binary (Compare Le Binary) v (Int last)) ≡ is_le (value_cmp v (Int last))) (sym is)
    (told_truth _)

id_of : (r : Row) → IsCell form_1 r → rowid r ≡ Int (id_in (column r 0))
id_of r is = ap rowid is.0

filter_front : (p : Row → Bool) (xs ys : List Row) → AllByRecursion (λ x. p x ≡ true) xs
    → AllByRecursion (λ y. p y ≡ false) ys → filter p (xs ++ ys) ≡ xs
filter_front p [] [] all none = refl
filter_front p [] (y ∷ ys) all none = rw none.0 (filter_front p [] ys all none.1)
filter_front p (x ∷ xs) ys all none = rw all.0 (ap (λ zs. x ∷ zs) (filter_front p xs ys all.1 none))

filter_rest : (p : Row → Bool) (xs ys : List Row) → AllByRecursion (λ x. p x ≡ false) xs
    → AllByRecursion (λ y. p y ≡ true) ys → filter p (xs ++ ys) ≡ ys
filter_rest p [] ys none all = filter_all p ys all
filter_rest p (x ∷ xs) ys none all = rw none.0 (filter_rest p xs ys none.1 all)

-- no id of these is the row's
abbrev stays : List ℤ → Row → Bool
stays gone r = list_all (λ id. not (has_rowid id r)) gone

filter_both : (p q : Row → Bool) (rows : List Row)
    → filter q (filter p rows) ≡ filter (λ r. p r && q r) rows
filter_both p q [] = refl
filter_both p q (r ∷ rows) = go (p r) (filter_both p q rows)
  where
    go : (b : Bool) → filter q (filter p rows) ≡ filter (λ r. p r && q r) rows
        → filter q (cond b (r ∷ filter p rows) (filter p rows))
        ≡ cond (b && q r) (r ∷ filter (λ r. p r && q r) rows) (filter (λ r. p r && q r) rows)
    go true more = ap (λ xs. cond (q r) (r ∷ xs) xs) more
    go false more = more

without_is : (rows : List Row) (gone : List ℤ) → without_all rows gone ≡ filter (stays gone) rows
without_is rows [] = sym (filter_all (stays []) rows (all_of (λ x. stays [] x ≡ true) (λ x. refl) rows))
without_is rows (id ∷ gone) =
    without_is (without_rowid id rows) gone ∙ filter_both (λ x. not (has_rowid id x)) (stays gone) rows

not_back : (b : Bool) → not b ≡ true → b ≡ false
not_back true h = absurd (cc)
not_back false h = refl

-- what a test of the ids of an answer says of its rows
stays_all : (r : Row) (ordered : List Output)
    → stays (ids_of (map (λ (o : Output). o.1) ordered)) r ≡ true
    → AllByRecursion (λ (o : Output). has_rowid (id_in (rowid o.1)) r ≡ false) ordered
stays_all r [] h = tt
stays_all r (o ∷ ordered) h = (not_back _ (left_of _ _ h), stays_all r ordered (right_of _ _ h))

all_stay : (r : Row) (ordered : List Output)
    → AllByRecursion (λ (o : Output). has_rowid (id_in (rowid o.1)) r ≡ false) ordered
    → stays (ids_of (map (λ (o : Output). o.1) ordered)) r ≡ true
all_stay r [] h = refl
all_stay r (o ∷ ordered) h = both_of _ _ (ap not h.0) (all_stay r ordered h.1)

module _ (last : ℤ) (page rest : List Row) (ordered : List Output)
    (same : IsPermutation (map (cleared last) page) ordered)
    (each : AllByRecursion (IsCell form_1) page) where
  abbrev gone : List ℤ
  gone = ids_of (map (λ (o : Output). o.1) ordered)

  -- a row of the page is removed
  taken : (r : Row) → Has page r → IsCell form_1 r → stays gone r ≡ false
  taken r has is = go (stays gone r) refl
    where
      go : (b : Bool) → stays gone r ≡ b → stays gone r ≡ false
      go true e =
          let all = all_from_map (λ (o : Output). has_rowid (id_in (rowid o.1)) r ≡ false) (cleared last) page
          (all-permutation (λ (o : Output). has_rowid (id_in (rowid o.1)) r ≡ false) ordered
          (map (cleared last) page) (IsPermutation-sym _ _ same) (stays_all r ordered e)) in
          absurd (true≢false (sym (has_its_id r (id_in (rowid r)) (id_of r is))
          ∙ all_has (λ x. has_rowid (id_in (rowid x)) r ≡ false) page r all has))
      go false e = e

  all_taken : (rows : List Row) → ((x : Row) → Has rows x → Has page x) → AllByRecursion (IsCell form_1) rows
      → AllByRecursion (λ x. stays gone x ≡ false) rows
  all_taken [] within is = tt
  all_taken (r ∷ rows) within is =
      (taken r (within r (inl refl)) is.0, all_taken rows (λ x h. within x (inr h)) is.1)

  -- and a row after the page stays
  left : (r : Row) → AllByRecursion (λ x. value_cmp (rowid x) (rowid r) ≡ Less) page → stays gone r ≡ true
  left r below = all_stay r ordered
      (all-permutation (λ (o : Output). has_rowid (id_in (rowid o.1)) r ≡ false) (map (cleared last) page)
      ordered same (all-map (λ (o : Output). has_rowid (id_in (rowid o.1)) r ≡ false) (cleared last) page
      (others page each below)))
    where
      others : (rows : List Row) → AllByRecursion (IsCell form_1) rows
          → AllByRecursion (λ x. value_cmp (rowid x) (rowid r) ≡ Less) rows
          → AllByRecursion (λ x. has_rowid (id_in (rowid x)) r ≡ false) rows
      others [] is low = tt
      others (x ∷ rows) is low =
          (after_id x r (id_in (rowid x)) (id_of x is.0) low.0, others rows is.1 low.1)

  all_left : (rows : List Row)
      → AllByRecursion (λ r. AllByRecursion (λ x. value_cmp (rowid x) (rowid r) ≡ Less) page) rows
      → AllByRecursion (λ x. stays gone x ≡ true) rows
  all_left [] below = tt
  all_left (r ∷ rows) below = (left r below.0, all_left rows below.1)

  without_page : AllByRecursion (λ r. AllByRecursion (λ x. value_cmp (rowid x) (rowid r) ≡ Less) page) rest
      → without_all (page ++ rest) gone ≡ rest
  without_page below =
      without_is (page ++ rest) gone
      ∙ filter_rest (stays gone) page rest (all_taken page (λ x h. h) each) (all_left rest below)

-- ---- which rows those up to an id are

across : {X : Type 0} (R : X → X → Type 0) (xs ys : List X) → IsAscending R (xs ++ ys)
    → AllByRecursion (λ y. AllByRecursion (λ x. R x y) xs) ys
across {X = X} R xs [] up = tt
across {X = X} R [] (y ∷ ys) up = (tt, across R [] ys up.1)
across {X = X} R (x ∷ xs) ys up = join ys (front xs ys up.0) (across R xs ys up.1)
  where
    front : (xs ys : List X) → AllByRecursion (R x) (xs ++ ys) → AllByRecursion (R x) ys
    front [] ys all = all
    front (z ∷ xs) ys all = front xs ys all.1

    join : (ys : List X) → AllByRecursion (R x) ys → AllByRecursion (λ y. AllByRecursion (λ x. R x y) xs) ys
        → AllByRecursion (λ y. AllByRecursion (λ x. R x y) (x ∷ xs)) ys
    join [] one all = tt
    join (y ∷ ys) one all = ((one.0, all.0), join ys one.1 all.1)

up_to : (page : List Row) (last : ℤ) → last_id page ≡ Some last
    → (front : List Row) × (x : Row) × (page ≡ front ++ x ∷ []) × (id_in (column x 0) ≡ last)
up_to page last is = elim (snoc page) [
  | inl none ↦ absurd (let e = ap last_id (sym none) ∙ is in cc)
  | inr it ↦ (
    it.front,
    it.last,
    it.is,
    known it.last
        (sym (ap (option_map (λ r. id_in (column r 0))) (last_of it.front it.last)) ∙ ap last_id (sym it.is) ∙ is),
  )
]
  where
    known : (x : Row) → Some (id_in (column x 0)) ≡ Some last → id_in (column x 0) ≡ last
    known x e = cc

module _ (last : ℤ) (front rest : List Row) (x : Row) (is : rowid x ≡ Int last) where
  front_passes : (rows : List Row) → AllByRecursion (IsCell form_1) rows
      → AllByRecursion (λ y. value_cmp (rowid y) (rowid x) ≡ Less) rows
      → AllByRecursion (λ y. clears_row last y ≡ true) rows
  front_passes [] each low = tt
  front_passes (y ∷ rows) each low = (
    clears_is last y (id_in (column y 0)) (id_of y each.0)
        ∙ ap is_le (subst (λ v. value_cmp (rowid y) v ≡ Less) is low.0),
    front_passes rows each.1 low.1,
  )

  last_passes : clears_row last x ≡ true
  last_passes = clears_is last x last is
      ∙ ap is_le (ap (λ v. value_cmp v (Int last)) is ∙ tied_itself value_cmp_total (Int last))

  rest_stays : (rows : List Row) → AllByRecursion (IsCell form_1) rows
      → AllByRecursion (λ z. value_cmp (rowid x) (rowid z) ≡ Less) rows
      → AllByRecursion (λ z. clears_row last z ≡ false) rows
  rest_stays [] each low = tt
  rest_stays (z ∷ rows) each low = (
    clears_is last z (id_in (column z 0)) (id_of z each.0)
        ∙ ap is_le (value_cmp_total.antisymm (rowid z) (Int last)
        ∙ ap ordering_reverse (subst (λ v. value_cmp v (rowid z) ≡ Less) is low.0)),
    rest_stays rows each.1 low.1,
  )

pub all_front : {X : Type 0} (P : X → Type 0) (xs ys : List X) → AllByRecursion P (xs ++ ys)
    → AllByRecursion P xs × AllByRecursion P ys
all_front P [] ys all = (tt, all)
all_front P (x ∷ xs) ys all = let it = all_front P xs ys all.1 in ((all.0, it.0), it.1)

-- if a page comes first, the rows removed up to the page's last id are the page
page_passed : (last : ℤ) (page rest : List Row) → AreCells form_1 (page ++ rest) → last_id page ≡ Some last
    → filter (clears_row last) (page ++ rest) ≡ page
page_passed last page rest are is =
    let it = up_to page last is in
    let each = all_front (IsCell form_1) page rest are.each in
    let cells = front_of (IsCell form_1) it.0 it.1 (subst (AllByRecursion (IsCell form_1)) it.2 each.0) in
    let id : rowid it.1 ≡ Int last = id_of it.1 cells.1 ∙ ap Int it.3 in
    let cut = across (λ a b. value_cmp (rowid a) (rowid b) ≡ Less) page rest are.rise in
    let below = before_last (λ a b. value_cmp (rowid a) (rowid b) ≡ Less) it.0 it.1
    (subst IsTable it.2 (rise_front page rest are.rise)) in
    filter_front (clears_row last) page rest
    (subst (AllByRecursion (λ y. clears_row last y ≡ true)) (sym it.2)
    (all-append (λ y. clears_row last y ≡ true) it.0 (it.1 ∷ [])
    (front_passes last it.0 rest it.1 id it.0 cells.0 below) (last_passes last it.0 rest it.1 id, tt)))
    (rest_stays last it.0 rest it.1 id rest each.1
    (at_last it.0 it.1 rest (subst
    (λ xs. AllByRecursion (λ y. AllByRecursion (λ x. value_cmp (rowid x) (rowid y) ≡ Less) xs) rest) it.2 cut)))
  where
    rise_front : (xs ys : List Row) → IsTable (xs ++ ys) → IsTable xs
    rise_front [] ys up = tt
    rise_front (x ∷ xs) ys up =
        ((all_front (λ s. value_cmp (rowid x) (rowid s) ≡ Less) xs ys up.0).0, rise_front xs ys up.1)

    at_last : (front : List Row) (x : Row) (rows : List Row)
        → AllByRecursion (λ y. AllByRecursion (λ x. value_cmp (rowid x) (rowid y) ≡ Less) (front ++ x ∷ []))
        rows → AllByRecursion (λ y. value_cmp (rowid x) (rowid y) ≡ Less) rows
    at_last front x [] all = tt
    at_last front x (y ∷ rows) all =
        ((front_of (λ x. value_cmp (rowid x) (rowid y) ≡ Less) front x all.0).1, at_last front x rows all.1)

record Cleared (last : ℤ) (old new : Database) : Type 0 where
  pub schema : new.schema ≡ whole_schema
  pub sound : IsDatabase new
  pub entries : new.trees 0 ≡ old.trees 0
  pub form : new.trees 4 ≡ old.trees 4
  pub cells2 : new.trees 5 ≡ old.trees 5
  pub ordered : List Output
  pub same : IsPermutation (map (cleared last) (filter (clears_row last) (old.trees 1))) ordered
  pub cells : new.trees 1 ≡ without_all (old.trees 1) (ids_of (map (λ (o : Output). o.1) ordered))

clears : (old new : State) (last : ℤ) (count : ℕ) → old.now.schema ≡ whole_schema
    → Executes clear_text (Int last ∷ []) old new (Ok count) → Cleared last old.now new.now
clears old new last count has h =
    let params = Int last ∷ [] in
    let db = old.now.trees in
    let command = Delete 1 (plain_query clear_query) in
    let w = runs_as clear_text params old new whole_schema has command clear_is clear_plain count h in
    let text = statement_of clear_text (understood whole_schema clear_text) in
    let done = went (subst (λ s. Does old.step_limit (mode_of old) params (record old.now { schema = s }) text
    None command (Ok (w.tally, new.now))) has w.changed) in
    let now = ap (λ (p : Tally × Database). p.1) (same_value (went (went done.2).2).2) in
    let queried = went done.1 in
    let a : IsAnswer clear_query (overlay db []) params queried.0 = queried.1.answer Null in
    let edited = went queried.2 in
    let edit = edit_of db cell_table (ids_of queried.0) Given 0 [] in
    let applies = one_step whole_schema _ db edited.0 edit refl edited.1 in
    let trees : done.0.trees ≡ edited.0 = ap (λ (it : Written). it.trees) (same_value edited.2) in
    let all : new.now.trees ≡ edited.0 = ap (λ (d : Database). d.trees) now ∙ trees in
    record {
      schema = ap (λ (d : Database). d.schema) now;
      sound = w.sound;
      entries = ap (λ (t : Trees). t 0) all ∙ applies.tables.0 (λ same. omega (arith, same));
      form = ap (λ (t : Trees). t 4) all ∙ applies.tables.1.1.0 (λ same. omega (arith, same));
      cells2 = ap (λ (t : Trees). t 5) all ∙ applies.tables.1.1.1.0 (λ same. omega (arith, same));
      ordered = a.ordered;
      same = subst (λ k. IsPermutation k a.ordered)
          (kept_is 1 clear_query.filter clear_query.project clear_query.order no_limit params db queried.0 a)
          a.same;
      cells = ap (λ (t : Trees). t 1) all ∙ (applies.rows ∙ ap (λ rows. without_all (db 1) (ids_of rows)) a.shown);
    }

pub clears_by : (last : ℤ) (old new : State) (r : Result ℕ Error)
    → ExecutesInside 0 clear_text (Int last ∷ []) old new r → OnOk r (Clears last old new)
clears_by last old new (Err e) h = tt
clears_by last old new (Ok count) h = record {
  inside = ran_inside clear_text (Int last ∷ []) old new count h;
  left = λ page rest whole first rows is.
      let it = clears old new last count whole h.0 in
      let are = are_first (page ++ rest) first in
      let passed = page_passed last page rest are is in
      let same : IsPermutation (map (cleared last) page) it.ordered =
      subst (λ xs. IsPermutation (map (cleared last) xs) it.ordered)
      (ap (filter (clears_row last)) rows ∙ passed) it.same in (
        it.cells
            ∙ (ap (λ xs. without_all xs (ids_of (map (λ (o : Output). o.1) it.ordered))) rows
            ∙ without_page last page rest it.ordered same (all_front (IsCell form_1) page rest are.each).0
            (across (λ a b. value_cmp (rowid a) (rowid b) ≡ Less) page rest are.rise)),
        it.form,
      );
  holds = λ t holds.
      let it = clears old new last count holds.whole h.0 in
      record {
        whole = it.schema;
        sound = it.sound;
        told = (λ i. told_as form_2 (it.entries i) (it.cells2 i)) ∙ holds.told;
      };
}
