use Rattle.std.proofs.Common.{refl}
use Rattle.lei_code.specs.Fault.{first_wrong}
use Rattle.lei_code.specs.Number.{number}
use Rattle.lei_code.proofs.Faults.{first_wrong-tells}
use Rattle.lei_records.specs.SuccessorLists.{filler}
use Rattle.lei_records.proofs.successors.filler.Goals as goal

pub of_valid-requires : goal.of_valid-requires
unfolding first_wrong number
of_valid-requires c = record { len = refl; characters = first_wrong-tells filler; check = refl }
