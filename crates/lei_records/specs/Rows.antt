-- Rows: the texts of a record, a relationship or an exception by place.
use Rattle.std.specs.Prelude.{ℕ, ◌-◌, List, codes, ◌==◌, if◌then◌else◌, slice_index_or}
use Rattle.lei_code.specs.Texts.{Text}

-- A row is the texts of the fields in order of place: 32 for a record, 11 for a relationship and 4 for an exception. An
-- absent field is the empty text, and moments are in printed form.
abbrev pub Row : Type 0
Row = List Text

-- The text at a place, counted from 1; the empty text at any other place.
abbrev pub text_at : Row → ℕ → Text
text_at row place = if place == 0 then codes "" else slice_index_or row (place - 1) (codes "")
