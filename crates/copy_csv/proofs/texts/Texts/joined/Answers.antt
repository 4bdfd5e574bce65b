use Rattle.std.proofs.Common.{ap, ◌∙◌}
use Rattle.std.specs.List.{concat}
use Rattle.copy_csv.proofs.CutLemmas.{joined-cut}
use Rattle.copy_csv.proofs.texts.Texts.joined.Goals as goal

pub returns : goal.returns
returns c = c.as_slice.ensures.value ∙ joined-cut c.self.inside.bytes.items c.self.inside.ends c.self.invariant ∙ ap concat c.self.view_is
