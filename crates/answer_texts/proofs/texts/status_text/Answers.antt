use Rattle.std.proofs.Common.{refl, ap, ◌∙◌}
use Rattle.serde_json.specs.Written.{compact_text}
use Rattle.answer_texts.specs.Answers.{status_answer_text}
use Rattle.answer_texts.proofs.texts.status_text.Goals as goal

pub returns : goal.returns
unfolding status_answer_text
returns c =
    let is = c.in_ok-answer.ensures in
    c.from.ensures ∙ c.in_ok-to_vec.ensures.text (rw is refl) ∙ ap compact_text is
