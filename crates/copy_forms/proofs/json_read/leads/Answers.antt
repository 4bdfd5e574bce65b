use Rattle.std.proofs.Common.{◌<◌, ◌≤◌, true, ap, get_or, length, subst, ◌∙◌}
use Rattle.lei_records.specs.Rows.{text_at}
use Rattle.copy_csv.specs.Sheets.{column_names}
use Rattle.copy_forms.specs.Json.{json_places}
use Rattle.copy_forms.specs.JsonTexts.{lead}
use Rattle.copy_forms.proofs.JsonPrinting.{place-within}
use Rattle.copy_forms.proofs.JsonSteps.{map-lead, mapped-all, mapped-more}
use Rattle.copy_forms.proofs.json_read.leads.Goals as goal

pub name_at-requires-clause-first : goal.name_at-requires-clause-first
name_at-requires-clause-first c =
    let table = c.places-place-items.ensures in
    let within : c.loop-place.place-index < length (json_places c.args.sheet) = subst (λ l. c.loop-place.place-index < length l) table c.loop-place-test.true in
    let here = c.from.ensures ∙ ap (λ l. get_or l c.loop-place.place-index 0) table in
    rw here (place-within c.args.sheet c.loop-place.place-index within).0

pub name_at-requires-clause-last : goal.name_at-requires-clause-last
name_at-requires-clause-last c =
    let table = c.places-place-items.ensures in
    let within : c.loop-place.place-index < length (json_places c.args.sheet) = subst (λ l. c.loop-place.place-index < length l) table c.loop-place-test.true in
    let here = c.from.ensures ∙ ap (λ l. get_or l c.loop-place.place-index 0) table in
    rw here (place-within c.args.sheet c.loop-place.place-index within).1

pub loop-place-preserved : goal.loop-place-preserved
loop-place-preserved c =
    let table = c.places-place-items.ensures in
    let within : c.loop-place.place-index < length (json_places c.args.sheet) = subst (λ l. c.loop-place.place-index < length l) table c.loop-place-test.true in
    let here = c.from.ensures ∙ ap (λ l. get_or l c.loop-place.place-index 0) table in
    mapped-more (λ place. lead true (text_at (column_names c.args.sheet) place)) (json_places c.args.sheet) c.loop-place.leads.items _ c.loop-place.place-index c.from.result c.in_ok-lead.field-0
    c.loop-place.invariant within here (c.in_ok-lead.ensures ∙ ap (lead true) c.name_at.ensures) c.in_ok-push.ensures.items

pub returns : goal.returns
returns c =
    let past = subst (λ l. length l ≤ c.loop-place.place-index) c.places-place-items.ensures c.loop-place-test.false in
    mapped-all (λ place. lead true (text_at (column_names c.args.sheet) place)) (json_places c.args.sheet) c.loop-place.leads.items c.loop-place.place-index c.loop-place.invariant past
    ∙ map-lead (text_at (column_names c.args.sheet)) (json_places c.args.sheet)
