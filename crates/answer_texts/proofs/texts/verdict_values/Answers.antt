use Rattle.std.proofs.Common.{◌≡◌, ◌++◌, ◌∷◌, [], ◌+◌, take, map, sym, ap, ◌∙◌, rules}
use Rattle.std.proofs.lemmas.List.{take_more, map-append}
use Rattle.serde_json.specs.Data.{string}
use Rattle.serde_json.specs.View.{view}
use Rattle.serde_json.specs.declared.value.Value.{String, the_lemmas}
use Rattle.answer_texts.specs.Answers.{verdict_text}
use Rattle.answer_texts.proofs.Answering.{strings-push}
use Rattle.answer_texts.proofs.texts.verdict_values.Goals as goal

pub loop-verdict-preserved : goal.loop-verdict-preserved
loop-verdict-preserved c =
    let verdicts = c.args.verdicts.now in
    let at = c.loop-verdict.verdict-index in
    let verdict = c.verdict-item.result in
    let taken : take (at + 1) verdicts ≡ take at verdicts ++ verdict ∷ [] = take_more verdicts at verdict c.loop-verdict-test.true ∙ ap (λ v. take at verdicts ++ v ∷ []) (sym c.verdict-item.is) in
    let said : view (String c.in_ok-verdict_text.field-0) ≡ string (verdict_text verdict) = search (rules, the_lemmas) in
    rw (c.in_ok-push.ensures.items, taken, map-append verdict_text (take at verdicts) (verdict ∷ [])) (strings-push c.loop-verdict.values.items _ (map verdict_text (take at verdicts)) (verdict_text verdict) said c.loop-verdict.invariant)
