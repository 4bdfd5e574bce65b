use Rattle.lei_code.proofs.Faults.{fault_of-IsFault, IsFault-from_fault_of, fault_of-IsValid, IsValid-from_fault_of, character_fault-at, IsCharacterFault-from_character_fault, character_fault-none, IsWellFormed-from_character_fault}
use Rattle.lei_code.proofs.laws.computed_faults_are_faults.Goals as goal

pub returns-clause-fault : goal.returns-clause-fault
returns-clause-fault c = λ text fault. (IsFault-from_fault_of text fault, fault_of-IsFault text fault)

pub returns-clause-valid : goal.returns-clause-valid
returns-clause-valid c = λ text. (IsValid-from_fault_of text, fault_of-IsValid text)

pub returns-clause-character_fault : goal.returns-clause-character_fault
returns-clause-character_fault c =
    λ text fault. (IsCharacterFault-from_character_fault text fault, character_fault-at text fault)

pub returns-clause-well_formed : goal.returns-clause-well_formed
returns-clause-well_formed c = λ text. (IsWellFormed-from_character_fault text, character_fault-none text)
