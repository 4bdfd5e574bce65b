use Rattle.std.proofs.Common.{◌==◌, length, sym, ap, ◌∙◌}
use Rattle.std.proofs.lemmas.List.{length-map}
use Rattle.copy_csv.specs.Cuts.{part, spans}
use Rattle.copy_csv.proofs.CutLemmas.{length-spans}
use Rattle.copy_csv.proofs.texts.Texts.is_empty.Goals as goal

pub returns : goal.returns
returns c = c.is_empty.ensures
    ∙ ap (λ n. n == 0) (sym (length-spans 0 c.self.inside.ends) ∙ sym (length-map (spans 0 c.self.inside.ends) (part c.self.inside.bytes.items))
    ∙ ap length c.self.view_is)
