use Rattle.std.proofs.Common.{◌∙◌, ◌-◌, ap, length, option_map, slice_get}
use Rattle.upload_ledger.specs.History.{last_entry}
use Rattle.register_history.proofs.Histories.{last_found}
use Rattle.lei_office.proofs.office.Office.last_moment.Goals as goal

pub returns : goal.returns
returns g c =
    let office = c.self.inside.register in
    last_found office.limits office.history c.in_ok-entry.entry.now c.moment_of.result c.self.invariant.0
    (c.in_ok-entry.ensures.value ∙ ap (λ l. slice_get l (length l - 1)) c.entries.ensures.value) c.moment_of.ensures
    ∙ ap (λ o. option_map (λ e. e.moment) (last_entry o.office.history)) c.self.view_is
