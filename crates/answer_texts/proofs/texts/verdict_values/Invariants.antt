use Rattle.std.proofs.Common.{◌≡◌, map, take}
use Rattle.serde_json.specs.View.{items_view}
use Rattle.answer_texts.specs.Answers.{strings, verdict_text}
use Rattle.answer_texts.proofs.texts.verdict_values.Given as goal

abbrev pub invariant-loop-verdict : goal.invariant-loop-verdict
invariant-loop-verdict l = items_view l.values.items ≡ strings (map verdict_text (take l.verdict-index l.verdicts))
