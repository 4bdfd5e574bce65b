-- The faults of a keeper in words.
use Rattle.std.specs.Prelude.{ℕ, List, codes}
use Rattle.lei_keeper.specs.declared.fault.KeepFault.{KeepFault}
use Rattle.lei_keeper.specs.declared.fault.KeepFault.TheVariants.{Failed, NoMemory}

-- why a keeper kept or returned nothing, in words
abbrev pub keep_fault_text : KeepFault → List ℕ
keep_fault_text Failed = codes "the keeper failed"
keep_fault_text NoMemory = codes "out of memory"
