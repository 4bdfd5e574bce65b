use Rattle.std.proofs.Common.{ap, sym, subst}
use Rattle.golden_shelf.specs.Sides.{AreSide, notes_of}
use Rattle.golden_shelf.proofs.SideLemmas.{back_side}
use Rattle.golden_shelf.proofs.side.Side.take_back.Goals as goal

pub invariant_of-self : goal.invariant_of-self
invariant_of-self c =
    subst (λ l. AreSide c.weave.new.rows c.weave.new.rest (notes_of l)) (sym c.clear.ensures.items)
    (back_side c.self.inside.rows c.self.inside.rest c.weave.new.rows c.weave.new.rest (notes_of c.self.inside.notes.items)
    c.as_mut_slice.result.now (ap notes_of c.as_mut_slice.ensures.value) c.weave.ensures.rows c.weave.ensures.rest c.weave.ensures.few
    c.weave.ensures.rows_room c.weave.ensures.rest_room c.self.invariant)
