use Rattle.std.proofs.Common.{ap, ◌∙◌}
use Rattle.register_history.specs.Legal.{rules_may_follow}
use Rattle.register_history.specs.Replies.{outcome_at}
use Rattle.register_state.proofs.Growing.{legal-added, terms-follow}
use Rattle.register_state.proofs.Outcomes.{adds_is, next_of}
use Rattle.register_state.proofs.register.Register.replay.Goals as goal

pub decide-requires-clause-follows : goal.decide-requires-clause-follows
decide-requires-clause-follows g c = λ _ _.
    let rules = c.args.stored.now.rules in
    let follows = ap (λ o. rules_may_follow o.history rules) c.self.view_is ∙ c.requires.follows in
    terms-follow c.self.inside.books rules c.args.moment c.terms-terms.result c.terms-terms.ensures.terms follows

pub add_kept-requires-clause-legal : goal.add_kept-requires-clause-legal
add_kept-requires-clause-legal g c =
    let office = c.self.inside.books in
    let at = c.terms-terms.result in
    let found = c.in-Ok-Adds in
    let stamp = c.terms-terms.ensures in
    let follows = ap (λ o. rules_may_follow o.history c.args.stored.now.rules) c.self.view_is ∙ c.requires.follows in
    let next = next_of office c.args.request.now found.field-0 found.entry found.writes found.field-0-is found.ensures.next in
    legal-added office c.args.stored.now.rules c.args.request.now c.args.moment at found.entry next.0 stamp.moment follows stamp.terms stamp.legal
    (adds_is office c.args.request.now (outcome_at office c.args.request.now at) found.field-0 found.entry found.writes found.field-0-is found.ensures.decides)
