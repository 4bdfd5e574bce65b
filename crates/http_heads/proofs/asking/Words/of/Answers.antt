use Rattle.http_heads.proofs.RouteTexts.{words_are_texts}
use Rattle.http_heads.proofs.asking.Words.of.Goals as goal

pub invariant_of-result : goal.invariant_of-result
invariant_of-result c = words_are_texts _ _ _ _ c.requires.text c.requires.path
