use Rattle.std.proofs.Common.{◌&&◌, ◌==◌, ◌∙◌, ap, sym}
use Rattle.std.specs.Prelude.{string_bytes}
use Rattle.std.specs.Cmp.Lexicographic.{pointwise}
use Rattle.lei_values.proofs.PieceLemmas.{texts_compare}
use Rattle.lei_values.proofs.texts.TextsPartialEq.eq.Goals as goal

pub returns-then-eq : goal.returns-then-eq
returns-then-eq c =
    let bytes = pointwise ◌==◌ (string_bytes c.self.inside.text) (string_bytes c.other.inside.text) in
    c.eq-then-eq.ensures
    ∙ sym (texts_compare _ _ _ _ _ _ c.self.invariant c.other.invariant c.self.view_is c.other.view_is
    ∙ ap (λ b. b && bytes) (sym c.if-eq.ensures))

pub returns-else-eq : goal.returns-else-eq
returns-else-eq c =
    let bytes = pointwise ◌==◌ (string_bytes c.self.inside.text) (string_bytes c.other.inside.text) in
    c.if-eq.false
    ∙ sym (texts_compare _ _ _ _ _ _ c.self.invariant c.other.invariant c.self.view_is c.other.view_is
    ∙ ap (λ b. b && bytes) (sym c.if-eq.ensures))
