use Rattle.answer_texts.proofs.Telling.{all_told}
use Rattle.answer_texts.proofs.laws.verdicts_are_told.Goals as goal

pub returns : goal.returns
returns c = all_told
