-- The messages that say why a text wasn't read.
use Rattle.std.specs.Prelude.{codes}
use Rattle.lei_code.specs.Texts.{Text}
use Rattle.copy_csv.specs.declared.faults.FormFault.{FormFault}
use Rattle.copy_csv.specs.declared.faults.FormFault.TheVariants as faults

-- The message for each reason.
abbrev pub form_fault_words : FormFault → Text
form_fault_words faults.NotRead = codes "the text is of another form"
form_fault_words faults.NoMemory = codes "out of memory"
