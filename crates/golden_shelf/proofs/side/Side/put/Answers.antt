use Rattle.std.proofs.Common.{ap, sym, length, arith, ◌∙◌}
use Rattle.golden_shelf.proofs.SideLemmas.{put_changed, put_side}
use Rattle.golden_shelf.proofs.side.Side.put.Goals as goal

pub invariant_of-self : goal.invariant_of-self
invariant_of-self c =
    let v = c.as_mut_slice.ensures.value in
    let h = ap length v in
    let k = c.as_mut_slice.ensures.len in
    let e = c.requires.room in
    let l = ap (λ s. length s.lines) c.self.view_is in
    let q = ap (λ s. s.room) c.self.view_is in
    put_side c.self.inside.rows c.self.inside.rest c.weave.new.rows c.weave.new.rest c.as_mut_slice.result.now c.weave.new.notes
    c.args.changes.items c.args.changes.len v (sym k ∙ h) c.weave.ensures.rows c.weave.ensures.rest c.weave.ensures.notes
    c.weave.ensures.len c.weave.ensures.few c.weave.ensures.rows_room c.weave.ensures.rest_room c.self.invariant.rooms c.self.invariant.sorted
    c.requires.rising (omega (arith, e, l, q))

pub returns : goal.returns
returns c =
    let v = c.as_mut_slice.ensures.value in
    let h = ap length v in
    let k = c.as_mut_slice.ensures.len in
    put_changed c.args.self.now c.self.inside.rows c.weave.new.rows c.as_mut_slice.result.now c.weave.new.notes
    c.args.changes.items c.args.changes.len _ (ap (λ s. s.lines) c.self.view_is) v (sym k ∙ h) c.weave.ensures.rows c.weave.ensures.notes
    c.weave.ensures.len c.self.invariant.sorted
