use Rattle.std.proofs.Common.{rules}
use Rattle.lei_values.proofs.PieceLemmas.{length_pieces}
use Rattle.lei_values.proofs.texts.Texts.text.Goals as goal

pub piece_at-requires-clause-index : goal.piece_at-requires-clause-index
piece_at-requires-clause-index c = search (rules, length_pieces)
