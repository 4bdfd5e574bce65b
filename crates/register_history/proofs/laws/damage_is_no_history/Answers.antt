use Rattle.register_history.proofs.Excluding.{damage-excludes}
use Rattle.register_history.proofs.laws.damage_is_no_history.Goals as goal

pub returns : goal.returns
returns c = damage-excludes
