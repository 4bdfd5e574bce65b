use Rattle.std.proofs.Common.{◌≡◌, ◌-◌, ◌∙◌, ap, sym, rules, option_map, slice_get, Some}
use Rattle.upload_ledger.proofs.PlaceLemmas.{entry_of_number, found-at}
use Rattle.upload_ledger.proofs.index.entry_at.Goals as goal

pub returns : goal.returns
returns c = λ test are.
    let k = c.in_ok-checked_sub.field-0 in
    let less : k ≡ c.args.number - 1 = search rules in
    let place = c.in_ok-place.place.now in
    let at : slice_get c.args.places.now k ≡ Some place =
    sym (found-at c.args.places.now k c.get.result c.get.ensures.lookup) ∙ ap (option_map (λ x. x.now)) c.in_ok-place.was in
    entry_of_number test c.args.entries.now c.args.places.now c.args.number place (option_map (λ e. e.now) c.get-2.result) are (search rules)
    (ap (slice_get c.args.places.now) (sym less) ∙ at) (found-at c.args.entries.now place c.get-2.result c.get-2.ensures.lookup)
