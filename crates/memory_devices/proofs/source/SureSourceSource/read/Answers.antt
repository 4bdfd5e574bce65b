use Rattle.std.proofs.Common.{◌+◌, arith, length-drop, length-take}
use Rattle.std.proofs.lemmas.Grind.{common_steps}
use Rattle.std.proofs.lemmas.List.{drop_all}
use Rattle.memory_devices.proofs.source.SureSourceSource.read.Goals as goal

pub returns-clause-bytes : goal.returns-clause-bytes
returns-clause-bytes c =
    let at_end = drop_all (c.self.inside.at + c.fill-size.result) c.self.inside.bytes in
    (omega arith, grind (arith, common_steps, c.fill-size.ensures.front), λ none. at_end (grind (arith, length-drop, length-take)))
