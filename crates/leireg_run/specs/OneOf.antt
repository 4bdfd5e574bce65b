-- One of two keepers: it tells what that one tells.
use Rattle.std.specs.Prelude.{Option}
use Rattle.lei_values.specs.KeptTables.{KeptTables}
use Rattle.leireg_run.specs.declared.one_of.OneOf.{OneOf}

-- What is told of the first, or else of the second.
abbrev pub either : {A B X : Type 0} → (A → X) → (B → X) → OneOf A B → X
either first second (OneOf.First one) = first one
either first second (OneOf.Second one) = second one

-- What a crash may leave of the first, or else of the second.
abbrev pub left_of_either : {A B : Type 0} → (A → Option KeptTables → Type 0)
    → (B → Option KeptTables → Type 0)
    → OneOf A B → Option KeptTables → Type 0
left_of_either first second (OneOf.First one) = first one
left_of_either first second (OneOf.Second one) = second one
