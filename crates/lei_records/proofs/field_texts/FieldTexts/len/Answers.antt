use Rattle.std.proofs.Common.{sym}
use Rattle.lei_records.proofs.FieldTextLemmas.{length_seen}
use Rattle.lei_records.proofs.field_texts.FieldTexts.len.Goals as goal

pub returns : goal.returns
returns c = sym (length_seen c.self.inside.count c.self.inside.ends _ _ c.self.invariant.0 c.self.view_is)
