use Rattle.std.proofs.Common.{◌&&◌, ◌==◌, ◌∙◌, ap, sym}
use Rattle.std.specs.Prelude.{string_bytes}
use Rattle.std.specs.Cmp.Lexicographic.{pointwise}
use Rattle.lei_records.proofs.FieldTextLemmas.{seen_compare}
use Rattle.lei_records.proofs.field_texts.FieldTextsPartialEq.eq.Goals as goal

pub returns-then-eq : goal.returns-then-eq
returns-then-eq c =
    let bytes = pointwise ◌==◌ (string_bytes c.self.inside.text) (string_bytes c.other.inside.text) in
    c.eq-then-eq.ensures
    ∙ sym (seen_compare c.self.inside.count c.other.inside.count c.self.inside.ends c.other.inside.ends _ _ c.ends_of.result.now c.ends_of-2.result.now _ _
    c.self.invariant.1 c.other.invariant.1 c.self.view_is c.other.view_is c.ends_of.ensures c.ends_of-2.ensures
    ∙ ap (λ b. b && bytes) (sym c.if-eq.ensures))

pub returns-else-eq : goal.returns-else-eq
returns-else-eq c =
    let bytes = pointwise ◌==◌ (string_bytes c.self.inside.text) (string_bytes c.other.inside.text) in
    c.if-eq.false
    ∙ sym (seen_compare c.self.inside.count c.other.inside.count c.self.inside.ends c.other.inside.ends _ _ c.ends_of.result.now c.ends_of-2.result.now _ _
    c.self.invariant.1 c.other.invariant.1 c.self.view_is c.other.view_is c.ends_of.ensures c.ends_of-2.ensures
    ∙ ap (λ b. b && bytes) (sym c.if-eq.ensures))
