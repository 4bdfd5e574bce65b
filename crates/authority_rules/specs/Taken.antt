-- Whether another live record has an item's authority key, by what a view answers.
use Rattle.std.specs.Prelude.{◌≡◌, true, Option, Some, None, if◌then◌else◌}
use Rattle.std.specs.Str.{bytes_eq}
use Rattle.lei_code.specs.Texts.{Lei, Text}
use Rattle.lei_records.specs.declared.view.Seen.{Seen}
use Rattle.lei_records.specs.Cells.{Cells, lei_in, is_live, akey}
use Rattle.lei_records.specs.Rows.{Row}
use Rattle.lei_records.specs.Tables.{Table, other_holder}

-- Who holds a key, unless it is the record itself: a record doesn't conflict with itself.
abbrev pub unless_own : Lei → Seen Lei → Seen Lei
unless_own own (Seen.Held lei) = if bytes_eq lei own then Seen.Empty else Seen.Held lei
unless_own own Seen.Empty = Seen.Empty
unless_own own Seen.Missing = Seen.Missing

-- What a view answers for an authority key, or nobody if there is no key.
abbrev pub seen_holder : Cells → Option (Text × Text) → Seen Lei
seen_holder cells None = Seen.Empty
seen_holder cells (Some key) = cells.holder key.0 key.1

-- The LEI of another live record that has the row's authority key, by what the view answers.
abbrev pub taken : Cells → Row → Seen Lei
taken cells row = unless_own (lei_in row) (seen_holder cells (akey row))

-- No other live record of the table has the row's authority key, or the row isn't live.
abbrev pub IsFree : Table → Row → Type 0
IsFree table row = is_live row ≡ true → other_holder table row ≡ None
