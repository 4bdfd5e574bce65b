use Rattle.std.proofs.Common.{◌<◌, ◌^◌, length, sym, subst, rules}
use Rattle.register_words.specs.declared.sheets.Form.{Form}
use Rattle.delta_apply.specs.Applying.{IsAnswer, UnlessApplyLacksMemory}
use Rattle.delta_apply.proofs.Answering.{answer_leads_on, answers_alone}
use Rattle.delta_apply.proofs.applying.apply.Goals as goal

pub returns-in-Csv-clause-only : goal.returns-in-Csv-clause-only
returns-in-Csv-clause-only c =
    let short : length c.args.copy.now < 2 ^ 64 = search rules in
    let small : length c.args.delta.now < 2 ^ 64 = search rules in
    let F : Form → Type 0 = λ form. UnlessApplyLacksMemory c.apply_in_csv.result (IsAnswer c.args.copy.now c.args.delta.now c.args.sheet form c.apply_in_csv.result) in
    answers_alone c.args.copy.now c.args.delta.now c.args.sheet c.args.form short small c.apply_in_csv.result (subst F (sym c.in-Csv.is) c.apply_in_csv.ensures)

pub returns-in-Csv-clause-leads_on : goal.returns-in-Csv-clause-leads_on
returns-in-Csv-clause-leads_on c =
    let short : length c.args.copy.now < 2 ^ 64 = search rules in
    let small : length c.args.delta.now < 2 ^ 64 = search rules in
    let F : Form → Type 0 = λ form. UnlessApplyLacksMemory c.apply_in_csv.result (IsAnswer c.args.copy.now c.args.delta.now c.args.sheet form c.apply_in_csv.result) in
    answer_leads_on c.args.copy.now c.args.delta.now c.args.sheet c.args.form short small c.apply_in_csv.result (subst F (sym c.in-Csv.is) c.apply_in_csv.ensures)

pub returns-in-Json-clause-only : goal.returns-in-Json-clause-only
returns-in-Json-clause-only c =
    let short : length c.args.copy.now < 2 ^ 64 = search rules in
    let small : length c.args.delta.now < 2 ^ 64 = search rules in
    let F : Form → Type 0 = λ form. UnlessApplyLacksMemory c.apply_in_json.result (IsAnswer c.args.copy.now c.args.delta.now c.args.sheet form c.apply_in_json.result) in
    answers_alone c.args.copy.now c.args.delta.now c.args.sheet c.args.form short small c.apply_in_json.result (subst F (sym c.in-Json.is) c.apply_in_json.ensures)

pub returns-in-Json-clause-leads_on : goal.returns-in-Json-clause-leads_on
returns-in-Json-clause-leads_on c =
    let short : length c.args.copy.now < 2 ^ 64 = search rules in
    let small : length c.args.delta.now < 2 ^ 64 = search rules in
    let F : Form → Type 0 = λ form. UnlessApplyLacksMemory c.apply_in_json.result (IsAnswer c.args.copy.now c.args.delta.now c.args.sheet form c.apply_in_json.result) in
    answer_leads_on c.args.copy.now c.args.delta.now c.args.sheet c.args.form short small c.apply_in_json.result (subst F (sym c.in-Json.is) c.apply_in_json.ensures)
