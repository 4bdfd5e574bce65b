-- What LEIs name, as a list of LEIs with what is known of each.
use Rattle.std.specs.Prelude.{List, [], ◌∷◌, if◌then◌else◌}
use Rattle.std.specs.Str.{bytes_eq}
use Rattle.lei_code.specs.Texts.{Lei}
use Rattle.lei_records.specs.declared.view.Seen.{Seen}

-- What is listed with the first entry for this LEI. What isn't listed isn't known.
abbrev pub named_at : List (Lei × Seen (List Lei)) → Lei → Seen (List Lei)
named_at [] lei = Seen.Missing
named_at (row ∷ rows) lei = if bytes_eq row.0 lei then row.1 else named_at rows lei
