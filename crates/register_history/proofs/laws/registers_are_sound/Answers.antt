use Rattle.register_history.proofs.Registers.{after-fit}
use Rattle.register_history.proofs.laws.registers_are_sound.Goals as goal

pub returns : goal.returns
returns c = λ office legal. (after-fit office.limits office.history).sound
