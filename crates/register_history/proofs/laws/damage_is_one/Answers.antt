use Rattle.register_history.proofs.OneDamage.{one-damage}
use Rattle.register_history.proofs.laws.damage_is_one.Goals as goal

pub returns : goal.returns
returns c = one-damage
