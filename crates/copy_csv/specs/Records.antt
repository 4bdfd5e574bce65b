-- How the crate `csv` writes the lines of a file, and which records its readers find in one.
use Rattle.std.specs.Prelude.{List, true}
use Rattle.csv.specs.Reading.{default_config, records, strip_bom}
use Rattle.csv.specs.Writing.{default_writer, with_flexible, with_style}
use Rattle.csv.specs.declared.writer.QuoteStyle.TheVariants as style
use Rattle.csv.specs.declared.writer.WriterBuilder.{WriterBuilder}
use Rattle.lei_code.specs.Texts.{Text}

-- The crate's defaults, but with every field in quotes, and for lines of any number of fields. Commas are between
-- fields, LF ends a line, and a quote in a field is doubled (RFC 4180, whose lines end in CR LF).
abbrev pub all_quoted : WriterBuilder
all_quoted = with_flexible (with_style default_writer style.Always) true

-- The records that a reader with the crate's default configuration finds in a text. The line of names is the first.
abbrev pub records_read : Text → List (List Text)
records_read text = records default_config (strip_bom text)
