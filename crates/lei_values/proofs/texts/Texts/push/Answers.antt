use Rattle.std.proofs.Common.{rules, ◌∙◌, ◌++◌, ◌∷◌, [], ap}
use Rattle.std.specs.Prelude.{string_bytes}
use Rattle.lei_values.proofs.PieceLemmas.{ends_grow, pieces_grow}
use Rattle.lei_values.proofs.texts.Texts.push.Goals as goal

pub invariant_of-self-2 : goal.invariant_of-self-2
invariant_of-self-2 c = ends_grow _ _ _ _ _ c.utf8.text c.self.invariant (search rules) (search rules)

pub returns-clause-ok : goal.returns-clause-ok
returns-clause-ok c =
    pieces_grow _ _ c.args.text.now c.push_reserved.new.self.items (string_bytes c.push_str.new.self) c.self.invariant
    (search rules) (search rules)
    ∙ ap (λ l. l ++ c.args.text.now ∷ []) c.self.view_is
