use Rattle.std.proofs.Common.{Option, subst, ◌∙◌}
use Rattle.register_history.proofs.AskedFor.{asked-follows}
use Rattle.register_state.specs.Replaying.{ReplaysRequest}
use Rattle.register_state.specs.declared.decision.Decision.{Decision}
use Rattle.lei_office.proofs.ReplayedEntries.{decided-adds, decided-differs}
use Rattle.lei_office.proofs.replaying.replay_request.Goals as goal

pub returns-in_ok-decision_text-in-Some : goal.returns-in_ok-decision_text-in-Some
returns-in_ok-decision_text-in-Some g c =
    let before = c.args.register.now in
    let after = c.replay.new.self in
    let R : Option Decision → Type 0 = λ o. ReplaysRequest before c.args.request.now c.args.stored.now after o in
    let differs = decided-differs before after c.args.stored.now c.args.request.now c.in-Some.decision c.requires.asked (subst R c.in-Some.is c.in_ok-decision.ensures.replays) in
    (differs.0, c.in_ok-decision_text-in-Some.ensures ∙ differs.1)

pub returns-in-None : goal.returns-in-None
returns-in-None g c =
    let before = c.args.register.now in
    let after = c.replay.new.self in
    let R : Option Decision → Type 0 = λ o. ReplaysRequest before c.args.request.now c.args.stored.now after o in
    decided-adds before after c.args.stored.now c.args.request.now c.requires.asked (subst R c.in-None.is c.in_ok-decision.ensures.replays)

pub replay-requires-clause-follows : goal.replay-requires-clause-follows
replay-requires-clause-follows g c = λ _ _. asked-follows c.args.register.now.history c.args.stored.now c.args.request.now c.requires.asked
