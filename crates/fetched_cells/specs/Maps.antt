-- What the maps of a fetched view answer, and what the view answers after one more cell was put in.
use Rattle.std.specs.Prelude.{◌&&◌, Option, Some, None, if◌then◌else◌, option_and_then, ⊤}
use Rattle.std.specs.BTreeMap.{BTreeMap, get_by, get_by_text}
use Rattle.std.specs.Borrow.{Bor}
use Rattle.std.specs.Cmp.Lexicographic.{slice_cmp}
use Rattle.std.specs.declared.string.String.{String}
use Rattle.std.specs.Ordering.{nat_cmp, ordering_then}
use Rattle.std.specs.Str.{bytes_eq}
use Rattle.lei_code.specs.Texts.{Lei, Text}
use Rattle.lei_shapes.specs.declared.lists.ExceptionCategory.{ExceptionCategory}
use Rattle.lei_shapes.specs.declared.lists.RelationType.{RelationType}
use Rattle.lei_shapes.specs.Lists.{exception_category_text, relation_type_text}
use Rattle.lei_records.specs.declared.view.RecCell.{RecCell}
use Rattle.lei_records.specs.declared.view.RelCell.{RelCell}
use Rattle.lei_records.specs.declared.view.Seen.{Seen}
use Rattle.lei_records.specs.Cells.{Cells}
use Rattle.lei_records.specs.Exceptions.{is_same_category}
use Rattle.lei_records.specs.Relations.{is_same_type}
use Rattle.fetched_cells.specs.declared.fetched.Fetched.{Fetched}

-- ---- what a map has

-- The answer for what a lookup found. A cell that was never put in is missing.
abbrev pub or_missing : {X : Type 0} → Option (Seen X) → Seen X
or_missing None = Seen.Missing
or_missing (Some found) = found

-- What a map with LEIs as keys has for this LEI.
abbrev pub code_at : {X : Type 0} → BTreeMap Lei (Seen X) → Lei → Seen X
code_at codes lei = or_missing (get_by (slice_cmp nat_cmp lei) codes)

-- What a map with an LEI and a text in each key has for these.
abbrev pub seen_pair_at : {X : Type 0} → BTreeMap (Lei × Bor Text) (Seen X) → Lei → Text → Seen X
seen_pair_at pairs lei text = or_missing (get_by (λ key.
    ordering_then (slice_cmp nat_cmp lei key.0) (slice_cmp nat_cmp text key.1.now)) pairs)

-- What a map with a start, the text of a type and an end in each key has for these.
abbrev pub between_at : {X : Type 0} → BTreeMap (Lei × Bor Text × Lei) (Seen X) → Lei → Text → Lei → Seen X
between_at relations start text end = or_missing (get_by (λ key.
    ordering_then (ordering_then (slice_cmp nat_cmp start key.0) (slice_cmp nat_cmp text key.1.now))
    (slice_cmp nat_cmp end key.2)) relations)

-- What a map of maps with texts as keys has for two texts, if anything.
abbrev pub value_at_texts : {X Y Z : Type 0} → BTreeMap (String Z) (BTreeMap (String Y) X) → Text → Text → Option X
value_at_texts holders authority id = option_and_then (λ ids. get_by_text ids id) (get_by_text holders authority)

-- ---- all cells

-- What a fetched view answers: for each cell what was put in, and `Missing` for all others.
abbrev pub fetched_view : Fetched → Cells
fetched_view fetched = record {
  record_cell = λ lei. code_at fetched.records lei;
  holder = λ authority id. or_missing (value_at_texts fetched.holders authority id);
  relation = λ start kind end. between_at fetched.relations start (relation_type_text kind) end;
  active = λ start kind. seen_pair_at fetched.ends start (relation_type_text kind);
  exception = λ lei category. seen_pair_at fetched.exceptions lei (exception_category_text category);
}

-- ---- with one more cell

-- The cells with this answer for the record of an LEI.
abbrev pub with_record : Cells → Lei → Seen RecCell → Cells
with_record cells lei found = record cells {
  record_cell = λ own. if bytes_eq lei own then found else cells.record_cell own;
}

-- The cells with this answer for the holder of an authority key.
abbrev pub with_holder : Cells → Text → Text → Seen Lei → Cells
with_holder cells authority id found = record cells {
  holder = λ a i. if bytes_eq authority a && bytes_eq id i then found else cells.holder a i;
}

-- The cells with this answer for a relationship.
abbrev pub with_relation : Cells → Lei → RelationType → Lei → Seen RelCell → Cells
with_relation cells start kind end found = record cells {
  relation = λ s k e. if (bytes_eq start s && is_same_type kind k) && bytes_eq end e then found
      else cells.relation s k e;
}

-- The cells with this answer for the active relationship with a start and a type.
abbrev pub with_active_end : Cells → Lei → RelationType → Seen Lei → Cells
with_active_end cells start kind found = record cells {
  active = λ s k. if bytes_eq start s && is_same_type kind k then found else cells.active s k;
}

-- The cells with this answer for an exception.
abbrev pub with_exception : Cells → Lei → ExceptionCategory → Seen ⊤ → Cells
with_exception cells lei category found = record cells {
  exception = λ own other. if bytes_eq lei own && is_same_category category other then found
      else cells.exception own other;
}
