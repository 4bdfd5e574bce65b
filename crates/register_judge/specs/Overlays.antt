-- Cells with accepted items put over them.
use Rattle.std.specs.Prelude.{ℕ, Bool, false, not, ◌&&◌, Option, Some, None, if◌then◌else◌, is_some, option_and_then, ⊤}
use Rattle.std.specs.BTreeMap.{BTreeMap, get_by}
use Rattle.std.specs.Borrow.{Bor}
use Rattle.std.specs.Cmp.Lexicographic.{slice_cmp}
use Rattle.std.specs.Option.{option_copied}
use Rattle.std.specs.Ordering.{nat_cmp, ordering_then}
use Rattle.std.specs.Str.{bytes_eq}
use Rattle.lei_code.specs.Texts.{Lei, Text}
use Rattle.lei_shapes.specs.declared.lists.ExceptionCategory.{ExceptionCategory}
use Rattle.lei_shapes.specs.declared.lists.RelationType.{RelationType}
use Rattle.lei_shapes.specs.Lists.{exception_category_text, relation_type_text}
use Rattle.lei_records.specs.declared.item.Item.{Item}
use Rattle.lei_records.specs.declared.view.RecCell.{RecCell}
use Rattle.lei_records.specs.declared.view.RelCell.{RelCell}
use Rattle.lei_records.specs.declared.view.RowKey.{RowKey}
use Rattle.lei_records.specs.declared.view.Seen.{Seen}
use Rattle.lei_records.specs.Cells.{Cells, lei_in, rec_cell, holds}
use Rattle.lei_records.specs.Exceptions.{exception_category_in, is_same_category, subject_in}
use Rattle.lei_records.specs.Relations.{end_in, is_active, rel_cell}
use Rattle.lei_records.specs.Rows.{Row}
use Rattle.lei_records.specs.Tables.{seen_fact}
use Rattle.authority_rules.specs.Taken.{unless_own}
use Rattle.relation_rules.specs.Checks.{is_from}
use Rattle.short_texts.specs.Packed.{at_pair}
use Rattle.register_judge.specs.declared.overlay.Overlay.{Overlay}
use Rattle.register_judge.specs.declared.takers.Takers.{Takers}

-- ---- the cells after one write

-- The cells after a record is put. Its own cell has the record, and a key that it holds has its LEI. A key that it held
-- before and no longer holds has no holder.
abbrev pub put_record : Cells → Row → Cells
put_record cells row = record cells {
  record_cell = λ lei. if bytes_eq lei (lei_in row) then Seen.Held (rec_cell row) else cells.record_cell lei;
  holder = λ authority id.
      if holds authority id row then Seen.Held (lei_in row) else unless_own (lei_in row)
      (cells.holder authority id);
}

-- The relationship has this start, this type and this end.
abbrev pub is_between : Lei → RelationType → Lei → Row → Bool
is_between start kind end row = is_from start kind row && bytes_eq (end_in row) end

-- The end of the active relationship of its start and type, after the relationship is put: its own end if it is active.
-- If it isn't, the end is the one that was held, unless that is its own.
abbrev pub with_active : Row → Seen Lei → Seen Lei
with_active row held = if is_active row then Seen.Held (end_in row) else unless_own (end_in row) held

-- The cells after a relationship is put. Its own cell has the relationship. If it is active, the cell of its start and
-- type has its end. If it isn't, an active relationship that it replaces is no longer in that cell.
abbrev pub put_relation : Cells → Row → Cells
put_relation cells row = record cells {
  relation = λ start kind end.
      if is_between start kind end row then Seen.Held (rel_cell row) else cells.relation start kind end;
  active = λ start kind.
      if is_from start kind row then with_active row (cells.active start kind) else cells.active start kind;
}

-- The cells after the exception of this LEI and category is put or withdrawn: its own cell says whether it is held.
abbrev pub put_exception : Cells → Lei → ExceptionCategory → Bool → Cells
put_exception cells lei category stands = record cells {
  exception = λ own other.
      if bytes_eq lei own && is_same_category category other then seen_fact stands else
      cells.exception own other;
}

-- The cells after a write. A record and a relationship are never withdrawn.
abbrev pub put_in_view : Cells → RowKey × Option Item → Cells
put_in_view cells (key, Some (Item.Record row)) = put_record cells row
put_in_view cells (key, Some (Item.Relation row)) = put_relation cells row
put_in_view cells (key, Some (Item.Exception item)) =
    put_exception cells (subject_in item.0) (exception_category_in item.0) (not item.1)
put_in_view cells (RowKey.Exc lei category, None) = put_exception cells lei category false
put_in_view cells (key, None) = cells

-- ---- the records by two maps: the accepted record of an LEI, and the record that took a key last

-- Accepted records by their LEIs.
abbrev pub Records : Type 0
Records = BTreeMap Lei (Bor Row)

-- The accepted record of an LEI.
abbrev pub record_at : Records → Lei → Option Row
record_at records lei = option_copied (get_by (slice_cmp nat_cmp lei) records)

-- The LEI of a record, by the numbers of the two short texts of its key.
abbrev pub ShortTakers : Type 0
ShortTakers = BTreeMap (ℕ × ℕ) Lei

-- The LEI of the record that took a key last, if the key has two short texts with these numbers.
abbrev pub short_taker_at : ShortTakers → ℕ × ℕ → Option Lei
short_taker_at short numbers =
    get_by (λ k. ordering_then (nat_cmp numbers.0 k.0) (nat_cmp numbers.1 k.1)) short

-- The LEI of a record, by the id under one authority.
abbrev pub Ids : Type 0
Ids = BTreeMap (Bor Text) Lei

-- The ids under each authority, for keys that have a text of more than 15 bytes.
abbrev pub LongTakers : Type 0
LongTakers = BTreeMap (Bor Text) Ids

-- The LEI under an id.
abbrev pub id_at : Ids → Text → Option Lei
id_at ids id = get_by (λ k. slice_cmp nat_cmp id k.now) ids

-- The ids under an authority.
abbrev pub ids_at : LongTakers → Text → Option Ids
ids_at long authority = get_by (λ k. slice_cmp nat_cmp authority k.now) long

-- The LEI of the record that took a key last, if the key has a text of more than 15 bytes.
abbrev pub long_taker_at : LongTakers → Text → Text → Option Lei
long_taker_at long authority id = option_and_then (λ ids. id_at ids id) (ids_at long authority)

-- The LEI of the record that took an authority key last.
abbrev pub taker_at : Takers → Text → Text → Option Lei
taker_at takers = at_pair (short_taker_at takers.short) (long_taker_at takers.long)

-- If a record was put, it answers for its LEI.
abbrev pub record_over : Option Row → Seen RecCell → Seen RecCell
record_over None below = below
record_over (Some row) below = Seen.Held (rec_cell row)

-- A record of the LEI was put.
abbrev pub has_record : Records → Lei → Bool
has_record records lei = is_some (record_at records lei)

-- There is a row, and it holds this authority key.
abbrev pub row_holds : Text → Text → Option Row → Bool
row_holds authority id None = false
row_holds authority id (Some row) = holds authority id row

-- A holder below whose record was replaced no longer holds its key.
abbrev pub unless_replaced : Records → Seen Lei → Seen Lei
unless_replaced records (Seen.Held lei) = if has_record records lei then Seen.Empty else Seen.Held lei
unless_replaced records Seen.Empty = Seen.Empty
unless_replaced records Seen.Missing = Seen.Missing

-- The holder of a key is the record that took it last, if this still holds it. If none took it, the holder below still
-- has it, unless its record was replaced.
abbrev pub with_taker : Records → Text → Text → Option Lei → Seen Lei → Seen Lei
with_taker records authority id None below = unless_replaced records below
with_taker records authority id (Some lei) below =
    if row_holds authority id (record_at records lei) then Seen.Held lei else Seen.Empty

-- ---- the relationships by two maps: the accepted relationship of a key, and the end of the one that was active last

-- Accepted relationships by start, text of the type, and end.
abbrev pub Relations : Type 0
Relations = BTreeMap (Lei × Bor Text × Lei) (Bor Row)

-- The accepted relationship of a start, a type and an end.
abbrev pub relation_at : Relations → Lei → RelationType → Lei → Option Row
relation_at relations start kind end = option_copied (get_by (λ key.
    ordering_then (ordering_then (slice_cmp nat_cmp start key.0)
    (slice_cmp nat_cmp (relation_type_text kind) key.1.now))
    (slice_cmp nat_cmp end key.2)) relations)

-- What a map that is keyed by an LEI and a text has for these.
abbrev pub pair_at : {X : Type 0} → BTreeMap (Lei × Bor Text) X → Lei → Text → Option X
pair_at pairs lei text =
    get_by (λ key. ordering_then (slice_cmp nat_cmp lei key.0) (slice_cmp nat_cmp text key.1.now)) pairs

-- The end of a relationship, by start and text of the type.
abbrev pub ActiveEnds : Type 0
ActiveEnds = BTreeMap (Lei × Bor Text) Lei

-- The end of the relationship of a start and a type that was last put as an active one.
abbrev pub end_at : ActiveEnds → Lei → RelationType → Option Lei
end_at ends start kind = pair_at ends start (relation_type_text kind)

-- If a relationship was put, it answers for its key.
abbrev pub relation_over : Option Row → Seen RelCell → Seen RelCell
relation_over None below = below
relation_over (Some row) below = Seen.Held (rel_cell row)

-- There is a row, and it is that of an active relationship.
abbrev pub is_active_row : Option Row → Bool
is_active_row None = false
is_active_row (Some row) = is_active row

-- The active relationship below, unless it was replaced. This is for a start and a type for which no relationship was
-- put as an active one.
abbrev pub unless_relation_put : Relations → Lei → RelationType → Seen Lei → Seen Lei
unless_relation_put relations start kind (Seen.Held end) =
    if is_some (relation_at relations start kind end) then Seen.Empty else Seen.Held end
unless_relation_put relations start kind Seen.Empty = Seen.Empty
unless_relation_put relations start kind Seen.Missing = Seen.Missing

-- The active relationship is the one that was last put as such, if its key still has an active one. If none was put as
-- such, it is the one below, unless this was replaced.
abbrev pub end_over : Relations → Lei → RelationType → Option Lei → Seen Lei → Seen Lei
end_over relations start kind None below = unless_relation_put relations start kind below
end_over relations start kind (Some end) below =
    if is_active_row (relation_at relations start kind end) then Seen.Held end else Seen.Empty

-- ---- the exceptions by a map

-- Whether the exception is held, by LEI and text of the category.
abbrev pub ExceptionsPut : Type 0
ExceptionsPut = BTreeMap (Lei × Bor Text) Bool

-- Whether the exception of an LEI and a category is held, if it was put or withdrawn.
abbrev pub exception_put_at : ExceptionsPut → Lei → ExceptionCategory → Option Bool
exception_put_at standing lei category = pair_at standing lei (exception_category_text category)

-- If an exception was put or withdrawn, this answers for its key.
abbrev pub exception_over : Option Bool → Seen ⊤ → Seen ⊤
exception_over None below = below
exception_over (Some stands) below = seen_fact stands

-- ---- all of them

-- The cells below, with the contents of the maps put over them.
abbrev pub with_overlay : Cells → Records → Takers → Relations → ActiveEnds → ExceptionsPut → Cells
with_overlay below records takers relations ends standing = record {
  record_cell = λ lei. record_over (record_at records lei) (below.record_cell lei);
  holder = λ authority id. with_taker records authority id (taker_at takers authority id)
      (below.holder authority id);
  relation = λ start kind end. relation_over (relation_at relations start kind end)
      (below.relation start kind end);
  active = λ start kind. end_over relations start kind (end_at ends start kind) (below.active start kind);
  exception = λ lei category. exception_over (exception_put_at standing lei category) (below.exception lei category);
}

-- The cells of a view with accepted items over it.
abbrev pub overlay_view : {V : Type 0} → (V → Cells) → Overlay V → Cells
overlay_view cells overlay =
    with_overlay (cells overlay.view.now) overlay.records overlay.takers overlay.relations overlay.ends
    overlay.standing
