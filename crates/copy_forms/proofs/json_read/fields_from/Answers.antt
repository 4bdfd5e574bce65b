use Rattle.std.proofs.Common.{◌≡◌, ◌<◌, ◌≤◌, ◌+◌, [], true, drop, ap, arith, get_or, length, sym, ◌∙◌}
use Rattle.std.proofs.lemmas.List.{drop_all, drop_more, get_or-map, length-map}
use Rattle.std.proofs.lemmas.Result.{err_from_is_err_and}
use Rattle.copy_forms.specs.Json.{json_names}
use Rattle.copy_forms.specs.JsonTexts.{lead}
use Rattle.copy_forms.specs.JsonReading.{fields_from}
use Rattle.copy_forms.proofs.JsonSteps.{fails-through, fields-done, fields-failed, fields-step, with_texts}
use Rattle.copy_forms.proofs.json_read.fields_from.Goals as goal

pub returns-in_err-later : goal.returns-in_err-later
returns-in_err-later c =
    let names = json_names c.args.sheet in
    let long : length c.args.leads.now ≡ length names = ap length c.requires ∙ length-map names (lead true) in
    let within : c.loop-lead.lead-index < length names = omega (arith, long) in
    let name = get_or names c.loop-lead.lead-index [] in
    let item : c.lead-item.result ≡ lead true name =
    c.lead-item.is ∙ ap (λ l. get_or l c.loop-lead.lead-index c.lead-item.result) c.requires ∙ get_or-map (lead true) names c.loop-lead.lead-index [] _ within in
    let own = c.own_lead.ensures name item in
    let here =
    ap (λ l. with_texts c.loop-lead.texts (fields_from l c.loop-lead.later c.loop-lead.rest.now)) (sym (drop_more names c.loop-lead.lead-index [] within))
    ∙ c.loop-lead.invariant in
    let failed = err_from_is_err_and c.from_residual-in_err-later.result c.from_residual-in_err-later.ensures.1 in
    rw (failed.1, failed.2)
    (fails-through c.in_err-later.field-0.0 _ _ (fields-failed (drop (c.loop-lead.lead-index + 1) names) name c.loop-lead.texts c.loop-lead.later _ c.loop-lead.rest.now _ here own)
    c.in_err-later.ensures)

pub loop-lead-preserved : goal.loop-lead-preserved
loop-lead-preserved c =
    let names = json_names c.args.sheet in
    let long : length c.args.leads.now ≡ length names = ap length c.requires ∙ length-map names (lead true) in
    let within : c.loop-lead.lead-index < length names = omega (arith, long) in
    let name = get_or names c.loop-lead.lead-index [] in
    let item : c.lead-item.result ≡ lead true name =
    c.lead-item.is ∙ ap (λ l. get_or l c.loop-lead.lead-index c.lead-item.result) c.requires ∙ get_or-map (lead true) names c.loop-lead.lead-index [] _ within in
    let own = c.own_lead.ensures name item in
    let here =
    ap (λ l. with_texts c.loop-lead.texts (fields_from l c.loop-lead.later c.loop-lead.rest.now)) (sym (drop_more names c.loop-lead.lead-index [] within))
    ∙ c.loop-lead.invariant in
    let put = c.in_ok-later.ensures in
    fields-step (drop (c.loop-lead.lead-index + 1) names) name c.loop-lead.texts c.field_from.new.texts c.loop-lead.later _ c.loop-lead.rest.now
    (record { text = put.0; later = c.in_ok-later.field-0-0; rest = c.in_ok-later.field-0-1.now }) _ here own put.1 put.2

pub returns-in-Some : goal.returns-in-Some
returns-in-Some c =
    let names = json_names c.args.sheet in
    let long : length c.args.leads.now ≡ length names = ap length c.requires ∙ length-map names (lead true) in
    let past : length names ≤ c.loop-lead.lead-index = omega (arith, long) in
    let here =
    ap (λ l. with_texts c.loop-lead.texts (fields_from l c.loop-lead.later c.loop-lead.rest.now)) (sym (drop_all c.loop-lead.lead-index names past))
    ∙ c.loop-lead.invariant in
    fields-done c.loop-lead.texts c.loop-lead.later c.loop-lead.rest.now _ _ here (sym c.in-Some.ensures)

pub returns : goal.returns
returns c =
    let names = json_names c.args.sheet in
    let long : length c.args.leads.now ≡ length names = ap length c.requires ∙ length-map names (lead true) in
    let past : length names ≤ c.loop-lead.lead-index = omega (arith, long) in
    let here =
    ap (λ l. with_texts c.loop-lead.texts (fields_from l c.loop-lead.later c.loop-lead.rest.now)) (sym (drop_all c.loop-lead.lead-index names past))
    ∙ c.loop-lead.invariant in
    fields-done c.loop-lead.texts c.loop-lead.later c.loop-lead.rest.now _ _ here (sym c.in-None.ensures)
