use Rattle.std.proofs.Common.{ap, arith, length, ◌∙◌}
use Rattle.std.specs.List.{slice_set}
use Rattle.golden_shelf.specs.Beside.{lines_in}
use Rattle.golden_shelf.specs.Places.{line_texts_at, with_texts_at}
use Rattle.golden_shelf.proofs.LineParts.{length_lines}
use Rattle.golden_shelf.proofs.PlaceLemmas.{exchanged, found_texts}
use Rattle.golden_shelf.proofs.lines.Lines.exchange.Goals as goal

pub index_mut-requires : goal.index_mut-requires
index_mut-requires c =
    let i = c.self.invariant in
    let l = length_lines _ _ i.0 in
    let v = ap (λ s. length s.lines) c.self.view_is in
    let r = c.requires in
    omega (arith, l, v, r)

pub returns-clause-lines : goal.returns-clause-lines
returns-clause-lines c =
    ap (λ t. lines_in c.self.inside.keys.items (slice_set c.self.inside.texts.items c.args.index t)) c.swap.ensures.x_after
    ∙ exchanged c.self.inside.keys.items c.self.inside.texts.items c.args.index c.args.texts.now c.self.invariant.0
    ∙ ap (λ s. with_texts_at s.lines c.args.index c.args.texts.now) c.self.view_is

pub returns-clause-texts : goal.returns-clause-texts
returns-clause-texts c =
    let i = c.self.invariant in
    let l = length_lines _ _ i.0 in
    let v = ap (λ s. length s.lines) c.self.view_is in
    let r = c.requires in
    found_texts c.self.inside.keys.items c.self.inside.texts.items c.args.index c.swap.new.y _ i.0 (omega (arith, l, v, r))
    (c.swap.ensures.y_after ∙ c.index_mut.ensures.value)
    ∙ ap (λ s. line_texts_at s.lines c.args.index) c.self.view_is
