-- The calls of a keeper over a connection.
use Rattle.std.proofs.Common.{◌≡◌, ◌⊎◌, inl, inr, ◌-◌, ◌++◌, ℕ, ℤ, pos, false, List, [], ◌∷◌, length, map, slice_get, ap₂, Option, Some, None, Ok, Err, Result, OnOk, OnErr, IsTrue, true, refl, sym, ap, subst, ◌∙◌, arith}
use Rattle.sqlite_trees.specs.Tree.{Trees}
use Rattle.sqlite.specs.Effect.{Database, IsDatabase}
use Rattle.sqlite.specs.State.{State, HasCleanDisk, IsLive, Survives}
use Rattle.sqlite.proofs.StateLemmas.{survives_then, survives_weaker}
use Rattle.sqlite.proofs.Callers.{survives_begin}
use Rattle.sqlite.specs.Held.{Held, state}
use Rattle.sqlite_trees.specs.declared.store.Store.{Ghosts}
use Rattle.sqlite_value.specs.declared.value.Value.{Value}
use Rattle.sqlite_value.specs.declared.value.Value.TheVariants.{Int, Blob}
use Rattle.sqlite_value.specs.Order.{Row, bytes, column}
use Rattle.lei_values.specs.KeptTables.{KeptTables, entry_number, last_number}
use Rattle.lei_values.specs.declared.entry.KeptEntry.{KeptEntry}
use Rattle.lei_values.specs.declared.cell.KeptCell.{KeptCell}
use Rattle.store_statements.specs.Rows.{cell_row, entry_row}
use Rattle.store_statements.specs.Schemas.{whole_schema}
use Rattle.store_tables.specs.Calls.{IsMade, IsReadyStore, IsSteady, IsUndone, IsWholeStore, Makes, Moves, ReadsForm, last_rows, number_row}
use Rattle.store_tables.specs.Stored.{second_row}
use Rattle.store_tables.specs.Told.{told_in_trees}
use Rattle.store_tables.proofs.CrashLemmas.{tells_told, told_tells_first}
use Rattle.store_tables.proofs.NameLemmas.{joined_again}
use Rattle.store_tables.proofs.TransactionLemmas.{made_steady}
use Rattle.keeper_sqlite.specs.Transactions.{HasForm, HasMade, HasMoved, IsMoved}
use Rattle.keeper_sqlite.specs.declared.over.Form.{Form}

went : {E : Type 0} (old new : State) (r : Result (Unit {0}) E) → OnOk r (HasMade old new)
    → OnErr r (IsUndone old new)
    → IsUndone old new ⊎ (IsTrue old.is_open
    × ((t : KeptTables) → told_in_trees old.now.schema old.now.trees ≡ Some t
    → told_in_trees new.now.schema new.now.trees ≡ Some t))
went old new (Ok x) made undone = inr (made.was_open, λ t was. made.told ∙ was)
went old new (Err e) made undone = inl undone

pub make_steady : {E : Type 0} (old new : State) (r : Result (Unit {0}) E)
    → (IsTrue old.is_open → old.now ≡ old.committed) → new.in_transaction ≡ false
    → (HasCleanDisk new → OnOk r (HasMade old new)) → (HasCleanDisk new → OnErr r (IsUndone old new))
    → Survives old new (IsMade old) → IsSteady old new
make_steady old new r settled mode made undone survives =
    made_steady old new (λ _. settled) (λ _. mode) (λ clean. went old new r (made clean) (undone clean))
    survives

moved : {E : Type 0} (old new : State) (r : Result (Unit {0}) E) → OnOk r (HasMoved old new)
    → OnErr r (IsUndone old new)
    → IsUndone old new ⊎ (IsTrue old.is_open
    × ((t : KeptTables) → told_in_trees old.now.schema old.now.trees ≡ Some t
    → told_in_trees new.now.schema new.now.trees ≡ Some t))
moved old new (Ok x) made undone = inr (made.was_open, made.told)
moved old new (Err e) made undone = inl undone

pub move_steady : {E : Type 0} (old new : State) (r : Result (Unit {0}) E)
    → (HasCleanDisk old → HasForm old Form.First) → new.in_transaction ≡ false
    → (HasCleanDisk new → IsWholeStore old → old.now.trees 4 ≡ [] → OnOk r (HasMoved old new))
    → (HasCleanDisk new → OnErr r (IsUndone old new))
    → Survives old new (IsMoved old) → IsSteady old new
move_steady old new r first mode made undone survives =
    made_steady old new (λ clean. (first (earlier clean)).whole.settled) (λ _. mode)
    (λ clean. let it = first (earlier clean) in
    moved old new r (made clean it.whole (it.first refl)) (undone clean))
    (survives_weaker old new (IsMoved old) (IsMade old)
    (λ clean db may. let it = first (earlier clean) in may it.whole (it.first refl)) survives)
  where
    earlier : HasCleanDisk new → HasCleanDisk old
    earlier clean = omega (arith, survives.clean, clean)

-- what a transaction that made the tables commits
pub is_made : (s : State) (now : Database) (db : Trees) → IsTrue s.is_open → IsDatabase now
    → told_in_trees now.schema now.trees ≡ told_in_trees s.now.schema s.now.trees → db ≡ now.trees → IsMade s db
is_made s now db live sound told is = subst (IsMade s) (sym is)
    (live, λ t was. (now.schema, sound, told ∙ was))

-- and one that moved the cells
pub is_moved : (s mid : State) (db : Trees) → Moves s mid → db ≡ mid.now.trees → IsMoved s db
is_moved s mid db moves is whole form = subst (IsMade s) (sym is) (
  moves.inside.was_open,
  λ t was. let tells = moves.told t (told_tells_first s.now.schema s.now.trees t whole.schema
      (whole.sound moves.inside.was_open) form was) in
      (mid.now.schema, tells.holds.sound, tells_told mid.now.schema mid.now.trees t tells),
)

pub has_moved : (s mid new : State) → Moves s mid → new.now ≡ mid.now → IsWholeStore s → s.now.trees 4 ≡ []
    → HasMoved s new
has_moved s mid new moves is whole form = record {
  was_open = moves.inside.was_open;
  told = λ t was. let tells = moves.told t (told_tells_first s.now.schema s.now.trees t whole.schema
      (whole.sound moves.inside.was_open) form was) in
      ap (λ (d : Database). told_in_trees d.schema d.trees) is ∙ tells_told mid.now.schema mid.now.trees t tells;
}

pub moved_after : {S : Type 0} (g : Ghosts S) (old tx : Held S) (mid new : State)
    → tx ≡ record old { in_transaction = true } → Moves (state g tx) mid → new.now ≡ mid.now
    → IsWholeStore (state g old) → (state g old).now.trees 4 ≡ [] → HasMoved (state g old) new
moved_after g old tx mid new begun moves is whole form =
    let it = subst (λ h. Moves (state g h) mid) begun moves in
    has_moved (state g old) mid new
    (record {
      inside = record {
        was_open = it.inside.was_open;
        is_open = it.inside.is_open;
        committed = it.inside.committed;
        mode = it.inside.mode;
      };
      told = it.told;
    }) is whole form

pub made_survives : {S : Type 0} (g : Ghosts S) (old tx : Held S) (mid new : State)
    → tx ≡ record old { in_transaction = true } → Survives (state g tx) mid (λ _. ⊥)
    → Survives mid new (λ db. db ≡ mid.now.trees)
    → (HasCleanDisk mid → Makes whole_schema (state g tx) mid × IsDatabase mid.now)
    → Survives (state g old) new (IsMade (state g old))
made_survives g old tx mid new begun one two made =
    survives_then (state g old) mid new (λ _. ⊥) (λ db. db ≡ mid.now.trees) (IsMade (state g old))
    (λ _ db none. absurd none) (λ clean db is.
    let it = subst (λ h. Makes whole_schema (state g h) mid × IsDatabase mid.now) begun
    (made (omega (arith, two.clean, clean))) in
    is_made (state g old) mid.now db it.0.inside.was_open it.1 it.0.told is)
    (survives_begin g old mid (λ _. ⊥) (subst (λ h. Survives (state g h) mid (λ _. ⊥)) begun one)) two

pub moved_survives : {S : Type 0} (g : Ghosts S) (old tx : Held S) (mid new : State)
    → tx ≡ record old { in_transaction = true } → Survives (state g tx) mid (λ _. ⊥)
    → Survives mid new (λ db. db ≡ mid.now.trees)
    → (HasCleanDisk mid → Moves (state g tx) mid)
    → Survives (state g old) new (IsMoved (state g old))
moved_survives g old tx mid new begun one two moves =
    survives_then (state g old) mid new (λ _. ⊥) (λ db. db ≡ mid.now.trees) (IsMoved (state g old))
    (λ _ db none. absurd none) (λ clean db is.
    let it = subst (λ h. Moves (state g h) mid) begun (moves (omega (arith, two.clean, clean))) in
    is_moved (state g old) mid db
    (record {
      inside = record {
        was_open = it.inside.was_open;
        is_open = it.inside.is_open;
        committed = it.inside.committed;
        mode = it.inside.mode;
      };
      told = it.told;
    }) is)
    (survives_begin g old mid (λ _. ⊥) (subst (λ h. Survives (state g h) mid (λ _. ⊥)) begun one)) two

pub is_whole : (s : State) → s.now.schema ≡ whole_schema → (IsTrue s.is_open → s.now ≡ s.committed)
    → IsLive s → IsWholeStore s
is_whole s schema settled live = record { schema = schema; settled = settled; sound = λ h. (live h).0 }

-- what reading the form says of a store with all four tables
pub has_form : (old new : State) (rows : List Row) (form : Form) → IsWholeStore old → ReadsForm old new rows
    → (form ≡ Form.First → rows ≡ []) → (form ≡ Form.Second → rows ≡ second_row ∷ [])
    → HasForm new form
has_form old new rows form whole reads first second = record {
  whole = record {
    schema = ap (λ (d : Database). d.schema) reads.now ∙ whole.schema;
    settled = λ live. reads.now ∙ (whole.settled reads.was_open ∙ sym reads.committed);
    sound = λ live. subst IsDatabase (sym reads.now) (whole.sound reads.was_open);
  };
  first = λ is. reads.none (first is);
  second = λ is. reads.second (second is);
}

pub form_ready : (s : State) (form : Form) → HasForm s form → form ≡ Form.Second → IsReadyStore s
form_ready s form has is = record { whole = has.whole; second = has.second is }

-- ---- what is read

number_in : Value → ℕ
number_in (Int (pos n)) = n
number_in _ = 0

number_same : (m n : ℕ) → ◌≡◌ {A = Row} (Int (pos m) ∷ []) (Int (pos n) ∷ []) → m ≡ n
unfolding number_in
number_same m n e = ap (λ (row : Row). number_in (column row 0)) e

-- the last number, by its rows
pub number_is : (n : ℕ) (row : Row) (rows : List Row) (t : KeptTables) → row ≡ Int (pos n) ∷ []
    → slice_get rows 0 ≡ Some row → rows ≡ last_rows t → n ≡ last_number t
number_is n row rows t is first all = go (slice_get t.entries (length t.entries - 1))
    (sym first ∙ ap (λ xs. slice_get xs 0) all)
  where
    go : (o : Option KeptEntry) → Some row ≡ slice_get (number_row o) 0 → n ≡ entry_number o
    go None e = absurd (cc)
    go (Some entry) e = let same : row
        ≡ Int (pos entry.seq) ∷ [] = cc in number_same n entry.seq (sym is ∙ same)

pub none_is : (rows : List Row) (t : KeptTables) → slice_get rows 0 ≡ None → rows ≡ last_rows t
    → 0 ≡ last_number t
none_is rows t first all = go (slice_get t.entries (length t.entries - 1))
    (sym first ∙ ap (λ xs. slice_get xs 0) all)
  where
    go : (o : Option KeptEntry) → None ≡ slice_get (number_row o) 0 → 0 ≡ entry_number o
    go None e = refl
    go (Some entry) e = absurd (cc)

signed_in : Value → ℤ
signed_in (Int n) = n
signed_in _ = pos 0

blob_in : Value → Option (List ℕ)
blob_in (Blob b) = Some b
blob_in _ = None

entry_in : Row → KeptEntry
entry_in row = record {
  seq = number_in (column row 0);
  kind = number_in (column row 1);
  office = bytes (column row 2);
  number = number_in (column row 3);
  moment = signed_in (column row 4);
  rules = number_in (column row 5);
  body = bytes (column row 6);
  answer = bytes (column row 7);
}

cell_in : Row → KeptCell
cell_in row = record {
  kind = number_in (column row 0);
  name = bytes (column row 1) ++ bytes (column row 2);
  touched = number_in (column row 3);
  row = blob_in (column row 4);
}

entries_back : (list : List KeptEntry) → map entry_in (map entry_row list) ≡ list
unfolding entry_in number_in signed_in
entries_back [] = refl
entries_back (e ∷ list) = ap (λ xs. e ∷ xs) (entries_back list)

blob_back : (c : KeptCell) (o : Option (List ℕ))
    → cell_in (cell_row (record c { row = o })) ≡ record c { row = o }
unfolding cell_in number_in blob_in
blob_back c None = λ i. record c { name = joined_again c.name i; row = None }
blob_back c (Some b) = λ i. record c { name = joined_again c.name i; row = Some b }

cells_back : (list : List KeptCell) → map cell_in (map cell_row list) ≡ list
cells_back [] = refl
cells_back (c ∷ list) = ap₂ ◌∷◌ (blob_back c c.row) (cells_back list)

-- entries and cells are determined by their rows
pub same_entries : (rows : List Row) (list other : List KeptEntry) → rows ≡ map entry_row list
    → rows ≡ map entry_row other → list ≡ other
same_entries rows list other p q = sym (entries_back list)
    ∙ (ap (map entry_in) (sym p ∙ q) ∙ entries_back other)

pub same_cells : (rows : List Row) (list other : List KeptCell) → rows ≡ map cell_row list
    → rows ≡ map cell_row other → list ≡ other
same_cells rows list other p q = sym (cells_back list) ∙ (ap (map cell_in) (sym p ∙ q) ∙ cells_back other)
