use Rattle.lei_shapes.proofs.MomentLemmas.{read_moment-text, shown}
use Rattle.lei_shapes.proofs.laws.moments_are_shown_and_read_back.Goals as goal

pub returns-clause-shown : goal.returns-clause-shown
returns-clause-shown c = shown

pub returns-clause-read_back : goal.returns-clause-read_back
returns-clause-read_back c = read_moment-text
