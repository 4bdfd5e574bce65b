use Rattle.std.proofs.Common.{sym, ◌∙◌}
use Rattle.register_state.proofs.Shelved.{copy-none}
use Rattle.register_state.proofs.publishing.copy.Goals as goal

pub returns-in-None : goal.returns-in-None
returns-in-None c = λ trail keeps. copy-none trail c.args.shelf.now.now c.args.sheet c.args.form keeps (c.latest.ensures.none.0 c.in-None.is)

pub latest_copy-requires : goal.latest_copy-requires
latest_copy-requires c = λ none. let bad = sym (c.latest.ensures.none.1 none) ∙ c.in-Some.is in cc
