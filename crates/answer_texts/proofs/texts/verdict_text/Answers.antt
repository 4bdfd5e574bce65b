use Rattle.std.proofs.Common.{option_map, string_bytes, sym, ap, ◌∙◌}
use Rattle.lei_records.specs.Checks.{check_text, detail_text, with_named}
use Rattle.answer_texts.specs.Answers.{verdict_text}
use Rattle.answer_texts.proofs.Telling.{told_text}
use Rattle.answer_texts.proofs.texts.verdict_text.Goals as goal

pub returns-in_ok-format-in-Rejected : goal.returns-in_ok-format-in-Rejected
returns-in_ok-format-in-Rejected c =
    let check = c.in-Rejected.check in
    let named = ap (option_map (λ name. with_named name (detail_text check.detail))) c.name.ensures in
    told_text (check_text check) _ (string_bytes c.in_ok-format-in-Rejected.field-0) named c.in_ok-format-in-Rejected.ensures.ok
    ∙ ap verdict_text (sym c.in-Rejected.is)
