use Rattle.lei_records.proofs.FieldTextLemmas.{has_end}
use Rattle.lei_records.proofs.field_texts.FieldTexts.text.Goals as goal

pub piece_at-requires-clause-index : goal.piece_at-requires-clause-index
piece_at-requires-clause-index c = has_end c.self.inside.count c.self.inside.ends _ _ _ c.args.index c.self.view_is c.ends_of.ensures c.requires
