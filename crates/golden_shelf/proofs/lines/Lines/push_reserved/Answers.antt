use Rattle.std.proofs.Common.{[], ◌∷◌, ap, length, arith, ◌∙◌, ◌++◌}
use Rattle.golden_shelf.specs.Beside.{lines_in}
use Rattle.golden_shelf.specs.Keys.{key_texts}
use Rattle.golden_shelf.proofs.LineParts.{length_lines, push_lines}
use Rattle.golden_shelf.proofs.lines.Lines.push_reserved.Goals as goal

pub push_reserved-requires : goal.push_reserved-requires
push_reserved-requires c =
    let i = c.self.invariant in
    let l = length_lines _ _ i.0 in
    let v = ap (λ s. length s.lines) c.self.view_is in
    let q = ap (λ s. s.room) c.self.view_is in
    let r = c.requires in
    omega (arith, i.0, i.1, i.2, l, v, q, r)

pub push_reserved-requires-2 : goal.push_reserved-requires-2
push_reserved-requires-2 c =
    let i = c.self.invariant in
    let l = length_lines _ _ i.0 in
    let v = ap (λ s. length s.lines) c.self.view_is in
    let q = ap (λ s. s.room) c.self.view_is in
    let r = c.requires in
    omega (arith, i.0, i.1, i.2, l, v, q, r)

pub returns-clause-lines : goal.returns-clause-lines
returns-clause-lines c =
    ap (λ l. lines_in l c.push_reserved-2.new.self.items) c.push_reserved.ensures.items
    ∙ ap (λ l. lines_in (c.self.inside.keys.items ++ c.args.key ∷ []) l) c.push_reserved-2.ensures.items
    ∙ push_lines c.self.inside.keys.items c.self.inside.texts.items c.args.key c.args.texts c.self.invariant.0
    ∙ ap (λ s. s.lines ++ (key_texts c.args.key, c.args.texts) ∷ []) c.self.view_is
