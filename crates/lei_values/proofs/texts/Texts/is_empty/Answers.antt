use Rattle.std.proofs.Common.{rules}
use Rattle.lei_values.proofs.PieceLemmas.{length_pieces}
use Rattle.lei_values.proofs.texts.Texts.is_empty.Goals as goal

pub returns : goal.returns
returns c = search (rules, length_pieces)
