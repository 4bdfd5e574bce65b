-- Notes of writes: the effect of one more note, and what is left after the last one was put back.
use Rattle.std.specs.Prelude.{◌≡◌, ℕ, suc, ◌+◌, ◌-◌, ◌<◌, ◌≤◌, true, List, [], ◌∷◌, ◌++◌, drop, get_or, length, map, take, Option, Some, None, IfSome, IsSome, is_some, option_and_then, option_map}
use Rattle.std.specs.FinMap.{get, insert}
use Rattle.std.specs.List.{AllByRecursion}
use Rattle.std.proofs.Common.{arith, refl, sym, ap, subst, ◌∙◌, add-one}
use Rattle.std.proofs.Math.Seq.{drop-cons}
use Rattle.std.proofs.lemmas.List.{take_more}
use Rattle.lei_records.specs.declared.item.Item.{Item}
use Rattle.lei_records.specs.declared.view.RowKey.{RowKey}
use Rattle.lei_records.specs.Cells.{lei_in}
use Rattle.lei_records.specs.Tables.{Table, put_write, record_key, relation_key_in}
use Rattle.register_table.specs.declared.slots.Slot.{Slot}
use Rattle.register_table.specs.declared.parts.Note.{Note}
use Rattle.register_table.specs.declared.parts.Parts.{Parts}
use Rattle.register_table.specs.Cells.{IsItemOf, IsOwnCell, cell_in}
use Rattle.register_table.specs.Held.{CanBeKept, Cell, Held, cell_key, row_in, rows}
use Rattle.register_table.specs.Indexes.{Marks, noted_end, noted_holder}
use Rattle.register_table.specs.Parts.{ArePartsOfTable, AreUndoable, CanBeUndone, IsMarked, MarksStay, NotesCell, all_marks, lei_marks, note_cell}
use Rattle.register_table.specs.Undos.{AreOwn, IsOwn, Notes, StaysKept, WriteList, cell_with, cells_before, put_back, touch, touch_all}
use Rattle.register_table.proofs.RowsLemmas.{cell_again, cell_there, record_at, relation_at, rows-touch}

-- ---- one more note, and one fewer

-- the last note is put back first
pub cells_before-push : (notes : Notes) (note : RowKey × Option Cell) (held : Held) → cells_before (notes ++ note ∷ []) held ≡ cells_before notes (put_back held note)
cells_before-push [] note held = refl
cells_before-push (first ∷ notes) note held = ap (λ h. put_back h first) (cells_before-push notes note held)

pub all_marks-push : (notes : List Note) (note : Note) → map note_cell (notes ++ note ∷ []) ≡ map note_cell notes ++ note_cell note ∷ []
all_marks-push [] note = refl
all_marks-push (first ∷ notes) note = ap (λ ns. note_cell first ∷ ns) (all_marks-push notes note)

all-push : {X : Type 0} (P : X → Type 0) (xs : List X) (x : X) → AllByRecursion P xs → P x → AllByRecursion P (xs ++ x ∷ [])
all-push P [] x all last = (last, tt)
all-push P (y ∷ xs) x all last = (all.0, all-push P xs x all.1 last)

all-front : {X : Type 0} (P : X → Type 0) (xs : List X) (x : X) → AllByRecursion P (xs ++ x ∷ []) → AllByRecursion P xs × P x
all-front P [] x all = (tt, all.0)
all-front P (y ∷ xs) x all = let rest = all-front P xs x all.1 in ((all.0, rest.0), rest.1)

all-weaker : {X : Type 0} (P Q : X → Type 0) → ((x : X) → P x → Q x) → (xs : List X) → AllByRecursion P xs → AllByRecursion Q xs
all-weaker P Q weaker [] all = tt
all-weaker P Q weaker (x ∷ xs) all = (weaker x all.0, all-weaker P Q weaker xs all.1)

-- the last note can be put back, and then those before it
pub undoable-push : (notes : Notes) (note : RowKey × Option Cell) (held before : Held) → put_back held note ≡ before → IsSome (get held (cell_key note.0)) → CanBeKept (rows before)
    → AreUndoable notes before → AreUndoable (notes ++ note ∷ []) held
undoable-push [] note held before back here kept undoable = ((here, subst (λ h. CanBeKept (rows h)) (sym back) kept), tt)
undoable-push (first ∷ notes) note held before back here kept undoable =
    let same : cells_before (notes ++ note ∷ []) held ≡ cells_before notes before = cells_before-push notes note held ∙ ap (cells_before notes) back in (
      subst (λ h. IsSome (get h (cell_key first.0)) × CanBeKept (rows (put_back h first))) (sym same) undoable.0,
      undoable-push notes note held before back here kept undoable.1,
    )

pub record Last (notes : Notes) (note : RowKey × Option Cell) (held : Held) : Type 0 where
  pub here : IsSome (get held (cell_key note.0))
  pub kept : CanBeKept (rows (put_back held note))
  pub others : AreUndoable notes (put_back held note)

pub undoable-last : (notes : Notes) (note : RowKey × Option Cell) (held : Held) → AreUndoable (notes ++ note ∷ []) held → Last notes note held
undoable-last [] note held undoable = record { here = undoable.0.0; kept = undoable.0.1; others = tt }
undoable-last (first ∷ notes) note held undoable =
    let rest = undoable-last notes note held undoable.1 in
    record {
      here = rest.here;
      kept = rest.kept;
      others = (subst (λ h. IsSome (get h (cell_key first.0)) × CanBeKept (rows (put_back h first))) (cells_before-push notes note held) undoable.0, rest.others);
    }

-- ---- what was marked stays marked

marked-still : (item : Option Item) (before after : Marks) → MarksStay before after → IsMarked before item → IsMarked after item
marked-still None before after stays marked = tt
marked-still (Some (Item.Record row)) before after stays marked = λ a i held. stays.by_key a i (marked a i held)
marked-still (Some (Item.Relation row)) before after stays marked = λ s kind active. stays.by_start s kind (marked s kind active)
marked-still (Some (Item.Exception item)) before after stays marked = tt

slot-still : (slot : Option Slot) (before after : Marks) → MarksStay before after → IfSome slot (λ s. IsMarked before s.item) → IfSome slot (λ s. IsMarked after s.item)
slot-still None before after stays marked = tt
slot-still (Some slot) before after stays marked = marked-still slot.item before after stays marked

pub each-still : (notes : List Note) (before after : Marks) → MarksStay before after → AllByRecursion (NotesCell before) notes → AllByRecursion (NotesCell after) notes
each-still notes before after stays each =
    all-weaker (NotesCell before) (NotesCell after) (λ note is. record { own = is.own; marked = slot-still note.slot before after stays is.marked }) notes each

pub can-still : (notes : List Note) (before after : Marks) (old new : Held) → MarksStay before after → new ≡ old → CanBeUndone before notes old → CanBeUndone after notes new
can-still notes before after old new stays same can = record {
  each = each-still notes before after stays can.each;
  kept = subst (AreUndoable (map note_cell notes)) (sym same) can.kept;
}

pub stays-same : (marks : Marks) → MarksStay marks marks
stays-same marks = record { by_key = λ a i is. is; by_start = λ s kind is. is }

pub stays-more : (first second third : Marks) → MarksStay first second → MarksStay second third → MarksStay first third
stays-more first second third begin more =
    record { by_key = λ a i is. more.by_key a i (begin.by_key a i is); by_start = λ s kind is. more.by_start s kind (begin.by_start s kind is) }

one_there : {X : Type 0} (o : Option (Option X)) → is_some (option_and_then (λ x. x) o) ≡ true → is_some o ≡ true
one_there None is = is
one_there (Some x) is = refl

-- if a key has an LEI, the index has the key
pub lei_marks-noted : (parts : Parts) → MarksStay (lei_marks parts) (all_marks parts)
lei_marks-noted parts = record {
  by_key = λ a i. one_there (noted_holder parts.holders a i);
  by_start = λ s kind. one_there (noted_end parts.ends s kind);
}

-- so notes whose keys all have an LEI can be put back
pub can_undo : (notes : List Note) (parts : Parts) → CanBeUndone (lei_marks parts) notes parts.cells → CanBeUndone (all_marks parts) notes parts.cells
can_undo notes parts can = can-still notes (lei_marks parts) (all_marks parts) parts.cells parts.cells (lei_marks-noted parts) refl can

pub if_weaker : {X : Type 0} (P Q : X → Type 0) (o : Option X) → ((x : X) → P x → Q x) → IfSome o P → IfSome o Q
if_weaker P Q None weaker is = tt
if_weaker P Q (Some x) weaker is = weaker x is

-- ---- what is held was noted

some_is : {X : Type 0} (o : Option X) (x : X) → o ≡ Some x → IsSome o
some_is o x is = ap is_some is

module _ (parts : Parts) (are : ArePartsOfTable parts) (key : RowKey) where
  held_noted : (entry : ℕ) (item : Option Item) → IsItemOf key item → get parts.cells (cell_key key) ≡ Some (cell_with entry item) → IsMarked (lei_marks parts) item
  held_noted entry None own at = tt
  held_noted entry (Some (Item.Record row)) own at = λ a i held.
      let there : get (rows parts.cells).records (record_key (lei_in row)) ≡ Some row =
      record_at parts.cells (record_key (lei_in row)) ∙ (ap (λ k. row_in (get parts.cells k)) (sym own) ∙ ap row_in at) in
      some_is _ _ (are.indexes.by_key a i (record_key (lei_in row)) row there held)
  held_noted entry (Some (Item.Relation row)) own at = λ s kind active.
      let there : get (rows parts.cells).relations (relation_key_in row) ≡ Some row =
      relation_at parts.cells (relation_key_in row) ∙ (ap (λ k. row_in (get parts.cells k)) (sym own) ∙ ap row_in at) in
      some_is _ _ (are.indexes.by_start s kind (relation_key_in row) row there active)
  held_noted entry (Some (Item.Exception item)) own at = tt

  out_noted : (out : Option Slot) → IfSome out (IsOwnCell key) → option_map cell_in out ≡ get parts.cells (cell_key key) → IfSome out (λ s. IsMarked (lei_marks parts) s.item)
  out_noted None own is = tt
  out_noted (Some slot) own is = held_noted slot.entry slot.item own (sym is)

-- ---- after a cell was put

module _ (old new : Parts) (notes all : List Note) (note : Note) (cell : Cell)
    (are : ArePartsOfTable old) (can : CanBeUndone (lei_marks old) notes old.cells) (stays : MarksStay (lei_marks old) (lei_marks new))
    (put : new.cells ≡ insert old.cells (cell_key note.key) cell)
    (own : IfSome note.slot (IsOwnCell note.key)) (out : option_map cell_in note.slot ≡ get old.cells (cell_key note.key)) (pushed : all ≡ notes ++ note ∷ []) where
  back : put_back new.cells (note_cell note) ≡ old.cells
  back = ap (λ h. put_back h (note_cell note)) put ∙ cell_again old.cells (cell_key note.key) (Some cell) (option_map cell_in note.slot) (sym out)

  listed : map note_cell all ≡ map note_cell notes ++ note_cell note ∷ []
  listed = ap (map note_cell) pushed ∙ all_marks-push notes note

  pub back-pushed : cells_before (map note_cell all) new.cells ≡ cells_before (map note_cell notes) old.cells
  back-pushed = ap (λ ns. cells_before ns new.cells) listed ∙ (cells_before-push (map note_cell notes) (note_cell note) new.cells ∙ ap (cells_before (map note_cell notes)) back)

  here : IsSome (get new.cells (cell_key note.key))
  here = ap is_some (ap (λ h. get h (cell_key note.key)) put ∙ cell_there old.cells (cell_key note.key) cell)

  pub can-pushed : CanBeUndone (lei_marks new) all new.cells
  can-pushed = record {
    each = subst (AllByRecursion (NotesCell (lei_marks new))) (sym pushed)
        (all-push (NotesCell (lei_marks new)) notes note (each-still notes (lei_marks old) (lei_marks new) stays can.each)
        (record { own = own; marked = slot-still note.slot (lei_marks old) (lei_marks new) stays (out_noted old are note.key note.slot own out) }));
    kept = subst (λ ns. AreUndoable ns new.cells) (sym listed) (undoable-push (map note_cell notes) (note_cell note) new.cells old.cells back here are.kept can.kept);
  }

-- ---- before a note is put back

module _ (parts : Parts) (notes all : List Note) (note : Note) (can : CanBeUndone (all_marks parts) all parts.cells) (popped : all ≡ notes ++ note ∷ []) where
  listed_all : map note_cell all ≡ map note_cell notes ++ note_cell note ∷ []
  listed_all = ap (map note_cell) popped ∙ all_marks-push notes note

  parted : AllByRecursion (NotesCell (all_marks parts)) notes × NotesCell (all_marks parts) note
  parted = all-front (NotesCell (all_marks parts)) notes note (subst (AllByRecursion (NotesCell (all_marks parts))) popped can.each)

  pub of_note : NotesCell (all_marks parts) note
  of_note = parted.1

  pub last_note : Last (map note_cell notes) (note_cell note) parts.cells
  last_note = undoable-last (map note_cell notes) (note_cell note) parts.cells (subst (λ ns. AreUndoable ns parts.cells) listed_all can.kept)

  pub can-popped : (new : Parts) → MarksStay (all_marks parts) (all_marks new) → new.cells ≡ put_back parts.cells (note_cell note) → CanBeUndone (all_marks new) notes new.cells
  can-popped new stays put = record {
    each = each-still notes (all_marks parts) (all_marks new) stays parted.0;
    kept = subst (AreUndoable (map note_cell notes)) (sym put) last_note.others;
  }

  pub undone-popped : (new : Parts) → new.cells ≡ put_back parts.cells (note_cell note) → cells_before (map note_cell notes) new.cells ≡ cells_before (map note_cell all) parts.cells
  undone-popped new put =
      ap (cells_before (map note_cell notes)) put ∙ (sym (cells_before-push (map note_cell notes) (note_cell note) parts.cells) ∙ ap (λ ns. cells_before ns parts.cells) (sym listed_all))

-- the last of the notes that are left
pub last_left : (notes : List Note) (left : ℕ) (note : Note) → 0 < left → left ≤ length notes → take left notes ≡ take (left - 1) notes ++ get_or notes (left - 1) note ∷ []
last_left notes left note some inside =
    let one : left ≡ (left - 1) + 1 = omega (arith, some) in
    ap (λ n. take n notes) one ∙ take_more notes (left - 1) note (omega (arith, some, inside))

-- ---- a loop over writes

pub next_write : (writes : WriteList) (n : ℕ) (write : RowKey × Option Item) → n < length writes → write ≡ get_or writes n write → drop n writes ≡ write ∷ drop (n + 1) writes
next_write writes n write within is =
    drop-cons writes n write within ∙ ((λ i. sym is i ∷ drop (suc n) writes) ∙ ap (λ k. write ∷ drop k writes) (sym (add-one n)))

pub all_put : (entry : ℕ) (rest : WriteList) (write : RowKey × Option Item) (more : WriteList) (held new : Held) → rest ≡ write ∷ more → new ≡ touch entry held write
    → touch_all entry more new ≡ touch_all entry rest held
all_put entry rest write more held new is put = ap (touch_all entry more) put ∙ ap (λ writes. touch_all entry writes held) (sym is)

pub first_own : (rest : WriteList) (write : RowKey × Option Item) (more : WriteList) → rest ≡ write ∷ more → AreOwn rest → IsOwn write
first_own rest write more is own = (subst AreOwn is own).0

pub stays_kept : (entry : ℕ) (rest : WriteList) (write : RowKey × Option Item) (more : WriteList) (held new : Held) → rest ≡ write ∷ more → AreOwn rest → new ≡ touch entry held write
    → StaysKept rest (rows held) → StaysKept more (rows new)
stays_kept entry rest write more held new is own put kept =
    subst (StaysKept more) (sym (ap rows put ∙ rows-touch entry held write (first_own rest write more is own)))
    (subst (λ writes. StaysKept writes (rows held)) is kept).1

pub others_own : (rest : WriteList) (write : RowKey × Option Item) (more : WriteList) → rest ≡ write ∷ more → AreOwn rest → AreOwn more
others_own rest write more is own = (subst AreOwn is own).1

pub first_kept : (rest : WriteList) (write : RowKey × Option Item) (more : WriteList) (table : Table) → rest ≡ write ∷ more → StaysKept rest table → CanBeKept (put_write table write)
first_kept rest write more table is kept = (subst (λ writes. StaysKept writes table) is kept).0

-- the item of a write is under its own key
own_slot : (key : RowKey) (item : Option Item) → IsOwn (key, item) → IsItemOf key item
own_slot key None own = tt
own_slot key (Some item) own = ap cell_key own.0

pub slot_own : (write : RowKey × Option Item) (slot : Slot) → slot.item ≡ write.1 → IsOwn write → IsOwnCell write.0 slot
slot_own write slot same own = subst (IsItemOf write.0) (sym same) (own_slot write.0 write.1 own)

pub slot_cell : (entry : ℕ) (write : RowKey × Option Item) (slot : Slot) → slot.item ≡ write.1 → slot.entry ≡ entry → cell_in slot ≡ cell_with entry write.1
slot_cell entry write slot same number = λ i. cell_with (number i) (same i)

pub slot_kept : (entry : ℕ) (write : RowKey × Option Item) (slot : Slot) (held : Held) → slot.item ≡ write.1 → slot.entry ≡ entry → IsOwn write
    → CanBeKept (put_write (rows held) write) → CanBeKept (rows (insert held (cell_key write.0) (cell_in slot)))
slot_kept entry write slot held same number own kept =
    subst CanBeKept (sym (ap (λ cell. rows (insert held (cell_key write.0) cell)) (slot_cell entry write slot same number) ∙ rows-touch entry held write own)) kept
