-- The words that report to a person why a body wasn't read.
use Rattle.std.specs.Prelude.{codes}
use Rattle.lei_code.specs.Texts.{Text}
use Rattle.register_words.specs.Faults.{malformed_words}
use Rattle.upload_format.specs.declared.fault.UploadFault.{UploadFault}
use Rattle.upload_format.specs.declared.fault.UploadFault.TheVariants as faults

-- the words for a body that wasn't read
abbrev pub upload_fault_words : UploadFault → Text
upload_fault_words (faults.Malformed fault) = malformed_words fault
upload_fault_words faults.NoMemory = codes "out of memory"
