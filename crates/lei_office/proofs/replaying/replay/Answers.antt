use Rattle.std.proofs.Common.{rules, ◌∙◌}
use Rattle.register_history.proofs.AskedFor.{none-asked}
use Rattle.lei_office.proofs.replaying.replay.Goals as goal

pub returns-in_ok-copy_of-in-None : goal.returns-in_ok-copy_of-in-None
returns-in_ok-copy_of-in-None g c =
    let none = none-asked c.args.register.now c.args.stored.now (search rules) in
    (none.0, c.in_ok-copy_of-in-None.ensures ∙ none.1)
