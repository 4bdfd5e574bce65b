use Rattle.std.proofs.Common.{ap, sym, ◌∙◌, rules}
use Rattle.turnstile.specs.Meaning.{meaning}
use Rattle.turnstile.proofs.Closing.{IsEnd, closed_list, closed_seen, closed_mine, closed_others, closed_faults, closed_stretches, closed_apart, closed_told, closed_within}
use Rattle.turnstile.proofs.Gathering.{gathered_more, gathered_table, gathered_all}
use Rattle.turnstile.proofs.turnstile.Turnstile.close.Given.{Over}
use Rattle.turnstile.proofs.turnstile.Turnstile.close.Goals as goal

pub take_in-requires-clause-pass : goal.take_in-requires-clause-pass
take_in-requires-clause-pass g c = gathered_table _ _ _ _ _ _ c.requires.passes c.loop-pass.invariant.1 c.in-Some-pop.ensures.items

pub loop-pass-preserved : goal.loop-pass-preserved
loop-pass-preserved g c =
    let inv = c.loop-pass.invariant in
    (c.take_in.ensures.seat ∙ inv.0, gathered_more _ _ _ _ _ _ inv.1 c.in-Some-pop.ensures.items c.take_in.ensures.view c.take_in.ensures.fronts)

the_end : (g : Over) (c : goal.After-free g)
    → IsEnd (meaning g.T.Tally.entries g.T.Tally.faults g.T.Tally.stays g.T.Tally.first g.T.Tally.tells) c.args.self.value c.args.self.passes c.args.passes.items c.take-value.result
the_end g c = gathered_all _ _ _ _ _ _ _ _ _ _ _ _ (sym (ap (λ v. v.value) c.self-2.view_is)) (sym (ap (λ v. v.passes) c.self-2.view_is)) c.loop-pass.invariant.1 (search rules) c.requires.all c.close_with-closed.ensures.values.2 c.take-value.ensures.value

pub returns-clause-list : goal.returns-clause-list
returns-clause-list g c = closed_list _ _ _ _ _ (the_end g c)

pub returns-clause-stays : goal.returns-clause-stays
returns-clause-stays g c = (the_end g c).stays

pub returns-clause-seen : goal.returns-clause-seen
returns-clause-seen g c = closed_seen _ _ _ _ _ (the_end g c)

pub returns-clause-mine : goal.returns-clause-mine
returns-clause-mine g c = closed_mine _ _ _ _ _ (the_end g c)

pub returns-clause-others : goal.returns-clause-others
returns-clause-others g c = closed_others _ _ _ _ _ (the_end g c)

pub returns-clause-faults : goal.returns-clause-faults
returns-clause-faults g c = closed_faults _ _ _ _ _ (the_end g c)

pub returns-clause-stretches : goal.returns-clause-stretches
returns-clause-stretches g c = closed_stretches _ _ _ _ _ (the_end g c)

pub returns-clause-apart : goal.returns-clause-apart
returns-clause-apart g c = closed_apart _ _ _ _ _ (the_end g c)

pub returns-clause-told : goal.returns-clause-told
returns-clause-told g c = closed_told _ _ _ _ _ (the_end g c)

pub returns-clause-within : goal.returns-clause-within
returns-clause-within g c = closed_within _ _ _ _ _ (the_end g c)
