use Rattle.std.proofs.Common.{rules, ap, ◌∙◌, ◌+◌, ◌≤◌, get_or, map}
use Rattle.group_reports.proofs.FarLemmas.{far_twice}
use Rattle.group_reports.proofs.tops.far_up.Goals as goal

pub loop-steps-preserved : goal.loop-steps-preserved
loop-steps-preserved c =
    let before : 1 ≤ c.loop-steps.steps = c.loop-steps.invariant.some in
    let few : c.saturating_add-steps.result ≤ c.loop-steps.steps + c.loop-steps.steps = search rules in
    let some : 1 ≤ c.saturating_add-steps.result = search rules in
    record {
      some = some;
      leads = far_twice c.args.parents.now c.loop-steps.steps c.saturating_add-steps.result c.loop-steps.far.items c.in_ok-far-2.far.items
          c.loop-steps.invariant.leads
          (c.in_ok-far-2.ensures ∙ ap (λ l. map (λ place. get_or l place 0) l) c.as_slice.ensures.value) few;
    }
