use Rattle.std.proofs.Common.{◌<◌, ap, arith, length, subst, sym, ◌∙◌}
use Rattle.std.specs.List.{slice_index_or}
use Rattle.std.proofs.lemmas.List.{length-set}
use Rattle.golden_shelf.specs.Lines.{AreSorted}
use Rattle.golden_shelf.specs.Sides.{note_change, notes_of}
use Rattle.golden_shelf.proofs.ExchangeSteps.{first_there, lines_done, lines_step, notes_done, notes_step, still_rising, still_there}
use Rattle.golden_shelf.proofs.WeaveSteps.{left_step, length_notes, next_left}
use Rattle.golden_shelf.proofs.Woven.{sorted_with_line}
use Rattle.golden_shelf.proofs.replacing.replace_all.Goals as goal

pub replace-requires-clause-there : goal.replace-requires-clause-there
replace-requires-clause-there c =
    let i = c.loop-index.invariant in
    let all = notes_of c.args.notes.now in
    let n = length_notes c.args.notes.now in
    let t = c.loop-index-test.true in
    let x = slice_index_or c.loop-index.notes c.loop-index.index c.index-notes-index.result in
    let is = ap (λ d. slice_index_or c.loop-index.notes c.loop-index.index d) c.index-notes-index.is in
    let within : c.loop-index.index < length all = omega (arith, n, t, i.len) in
    let lt : c.loop-index.index < length c.loop-index.notes = omega (arith, t, i.len) in
    first_there c.loop-index.rows.lines _ _ (note_change x) (next_left c.loop-index.notes all c.loop-index.index x lt is i.left within) i.there

pub loop-index-preserved : goal.loop-index-preserved
loop-index-preserved c =
    let i = c.loop-index.invariant in
    let all = notes_of c.args.notes.now in
    let n = length_notes c.args.notes.now in
    let t = c.loop-index-test.true in
    let x = slice_index_or c.loop-index.notes c.loop-index.index c.index-notes-index.result in
    let is = ap (λ d. slice_index_or c.loop-index.notes c.loop-index.index d) c.index-notes-index.is in
    let within : c.loop-index.index < length all = omega (arith, n, t, i.len) in
    let lt : c.loop-index.index < length c.loop-index.notes = omega (arith, t, i.len) in
    let next = next_left c.loop-index.notes all c.loop-index.index x lt is i.left within in
    let set = length-set c.loop-index.notes c.loop-index.index c.replace.new.note in
    record {
      walk = lines_step c.args.rows.now.lines c.loop-index.rows.lines c.replace.new.rows.lines all _ _ (note_change x) next c.replace.ensures.rows i.walk;
      takes = notes_step c.args.rows.now.lines c.loop-index.rows.lines c.replace.new.rows.lines c.loop-index.notes all _ _ c.loop-index.index x c.replace.new.note lt
          i.takes next i.rising c.replace.ensures.rows c.replace.ensures.key c.replace.ensures.texts;
      there = still_there c.loop-index.rows.lines c.replace.new.rows.lines _ _ (note_change x) next i.rising c.replace.ensures.rows i.there;
      rising = still_rising _ _ (note_change x) next i.rising;
      sorted = subst AreSorted (sym c.replace.ensures.rows) (sorted_with_line c.loop-index.rows.lines (note_change x) i.sorted);
      left = left_step c.loop-index.notes all c.loop-index.index x c.replace.new.note lt is i.left within;
      len = set ∙ i.len;
      inside = omega (arith, t, i.len);
      count = c.replace.ensures.count ∙ i.count;
      room = c.replace.ensures.room ∙ i.room;
    }

pub returns-clause-rows : goal.returns-clause-rows
returns-clause-rows c =
    let i = c.loop-index.invariant in
    let n = length_notes c.args.notes.now in
    let t = c.loop-index-test.false in
    lines_done c.args.rows.now.lines c.loop-index.rows.lines (notes_of c.args.notes.now) c.loop-index.index (omega (arith, n, t, i.len)) i.walk

pub returns-clause-notes : goal.returns-clause-notes
returns-clause-notes c =
    let i = c.loop-index.invariant in
    let n = length_notes c.args.notes.now in
    let t = c.loop-index-test.false in
    notes_done c.args.rows.now.lines c.loop-index.rows.lines c.loop-index.notes (notes_of c.args.notes.now) c.loop-index.index
    (omega (arith, n, t, i.len)) (omega (arith, t, i.len)) i.takes
