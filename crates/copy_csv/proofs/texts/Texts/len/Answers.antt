use Rattle.std.proofs.Common.{ℕ, List, length, sym, ap, subst, ◌∙◌}
use Rattle.std.specs.Prelude.{IsTrue}
use Rattle.std.specs.List.{list_all}
use Rattle.std.specs.Str.{is_utf8}
use Rattle.std.proofs.lemmas.List.{length-map}
use Rattle.copy_csv.specs.Cuts.{part, spans}
use Rattle.copy_csv.proofs.CutLemmas.{length-spans, parts_at_ends-utf8_of}
use Rattle.copy_csv.proofs.texts.Texts.len.Goals as goal

pub returns-clause-value : goal.returns-clause-value
returns-clause-value c = c.len.ensures
    ∙ sym (length-spans 0 c.self.inside.ends) ∙ sym (length-map (spans 0 c.self.inside.ends) (part c.self.inside.bytes.items)) ∙ ap length c.self.view_is

pub returns-clause-utf8 : goal.returns-clause-utf8
returns-clause-utf8 c = let F : List (List ℕ) → Type 0 = λ l. IsTrue (list_all is_utf8 l) in
    subst F c.self.view_is (parts_at_ends-utf8_of c.self.inside.bytes.items c.self.inside.ends c.self.invariant)
