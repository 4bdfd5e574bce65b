use Rattle.std.proofs.Common.{ap, length, arith, ◌∙◌, ◌<◌}
use Rattle.std.specs.List.{slice_index_or}
use Rattle.std.proofs.lemmas.List.{length-set}
use Rattle.golden_shelf.specs.Sides.{note_change, notes_of}
use Rattle.golden_shelf.proofs.WeaveSteps.{length_notes, left_step, next_left, take_step, took, walk_step, walked}
use Rattle.golden_shelf.proofs.weaving.weave_all.Goals as goal

pub loop-index-preserved : goal.loop-index-preserved
loop-index-preserved c =
    let i = c.loop-index.invariant in
    let all = notes_of c.args.notes.now in
    let n = length_notes c.args.notes.now in
    let t = c.loop-index-test.true in
    let x = slice_index_or c.loop-index.notes c.loop-index.index c.index-notes-index.result in
    let is = ap (λ d. slice_index_or c.loop-index.notes c.loop-index.index d) c.index-notes-index.is in
    let within : c.loop-index.index < length all = omega (arith, n, t, i.len) in
    let lt : c.loop-index.index < length c.loop-index.notes = omega (arith, t, i.len) in
    let next = next_left c.loop-index.notes all c.loop-index.index x lt is i.left within in
    let few = i.few in
    let len = c.weave_one.ensures.len in
    let set = length-set c.loop-index.notes c.loop-index.index c.weave_one.new.note in
    record {
      walk = walk_step c.args.rows.now.lines c.loop-index.rows.lines c.loop-index.rest.lines c.weave_one.new.rows.lines c.weave_one.new.rest.lines all _ _ (note_change x) i.walk next
          c.weave_one.ensures.rows c.weave_one.ensures.rest;
      takes = take_step c.args.rows.now.lines c.loop-index.rest.lines c.weave_one.new.rest.lines c.loop-index.notes all _ _ c.loop-index.index x c.weave_one.new.note lt
          i.takes next c.weave_one.ensures.rest c.weave_one.ensures.key c.weave_one.ensures.texts;
      left = left_step c.loop-index.notes all c.loop-index.index x c.weave_one.new.note lt is i.left within;
      len = set ∙ i.len;
      inside = omega (arith, t, i.len);
      few = omega (arith, few, len);
      rows_room = c.weave_one.ensures.rows_room ∙ i.rows_room;
      rest_room = c.weave_one.ensures.rest_room ∙ i.rest_room;
    }

pub returns-clause-rows : goal.returns-clause-rows
returns-clause-rows c =
    let i = c.loop-index.invariant in
    let n = length_notes c.args.notes.now in
    let t = c.loop-index-test.false in
    walked c.args.rows.now.lines c.loop-index.rows.lines c.loop-index.rest.lines _ (notes_of c.args.notes.now) c.loop-index.index
    (omega (arith, n, t, i.len)) i.walk c.raise_all.ensures.rows c.requires.sorted c.requires.rising

pub returns-clause-notes : goal.returns-clause-notes
returns-clause-notes c =
    let i = c.loop-index.invariant in
    let n = length_notes c.args.notes.now in
    let t = c.loop-index-test.false in
    took c.args.rows.now.lines c.loop-index.rest.lines c.loop-index.notes (notes_of c.args.notes.now) c.loop-index.index
    (omega (arith, n, t, i.len)) (omega (arith, t, i.len)) i.takes c.requires.sorted c.requires.rising
