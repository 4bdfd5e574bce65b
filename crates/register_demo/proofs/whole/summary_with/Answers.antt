use Rattle.std.proofs.Common.{◌∙◌, ap}
use Rattle.register_demo.specs.Session.{summary_with_counts}
use Rattle.register_demo.proofs.whole.summary_with.Goals as goal

pub returns : goal.returns
returns c =
    (c.in_ok-told.told, c.in_ok-told.was, c.in_ok-text.ensures ∙ ap (λ entries. summary_with_counts entries c.in_ok-told.told) c.in_ok-entries.ensures)
