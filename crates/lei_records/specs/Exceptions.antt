-- What the texts of an exception's row read as. Each part of such a row can be read; for another row the definition
-- gives a default value.
use Rattle.std.specs.Prelude.{Bool, Option, unwrap_or, option_and_then}
use Rattle.std.specs.Str.{bytes_eq}
use Rattle.lei_code.specs.Texts.{Lei}
use Rattle.lei_shapes.specs.declared.lists.ExceptionCategory.{ExceptionCategory}
use Rattle.lei_shapes.specs.declared.lists.Reason.{Reason}
use Rattle.lei_shapes.specs.Lists.{exception_category_text, exception_category_of, reason_of}
use Rattle.lei_records.specs.Places.{exception_category_place, reason_place, subject_place}
use Rattle.lei_records.specs.Rows.{Row, text_at}
use Rattle.lei_records.specs.Spelled.{present}

-- The entity that reports no parent.
abbrev pub subject_in : Row → Lei
subject_in row = text_at row subject_place

-- Which parent it doesn't report.
unfoldable pub exception_category_in : Row → ExceptionCategory
exception_category_in row =
    unwrap_or (exception_category_of (text_at row exception_category_place))
    ExceptionCategory.UltimateAccountingConsolidationParent

-- Why it doesn't, if that is given.
abbrev pub reason_in : Row → Option Reason
reason_in row = option_and_then reason_of (present (text_at row reason_place))

-- Two categories of exceptions are the same: they have the same text.
abbrev pub is_same_category : ExceptionCategory → ExceptionCategory → Bool
is_same_category a b = bytes_eq (exception_category_text a) (exception_category_text b)
