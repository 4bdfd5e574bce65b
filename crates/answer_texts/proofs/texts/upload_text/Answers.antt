use Rattle.std.proofs.Common.{map, false, ◌||◌, ap, ◌∙◌}
use Rattle.serde_json.specs.Written.{compact_text}
use Rattle.answer_texts.specs.Answers.{upload_text, upload_answer, verdict_text}
use Rattle.answer_texts.proofs.Answering.{no_float_in_strings}
use Rattle.answer_texts.proofs.texts.upload_text.Goals as goal

pub returns : goal.returns
unfolding upload_text
returns c =
    let is = c.in_ok-answer.ensures ∙ ap (λ items. upload_answer c.args.entry c.args.issuer.now items c.args.number) c.in_ok-items.ensures in
    c.from.ensures ∙ c.in_ok-to_vec.ensures.text (rw is (ap (λ b. b || false) (no_float_in_strings (map verdict_text c.args.verdicts.now)))) ∙ ap compact_text is
