use Rattle.std.proofs.Common.{◌≤◌, ◌∙◌, ap, arith, drop, length, rules}
use Rattle.std.specs.FinMap.Entries.{is_sorted}
use Rattle.std.specs.Vec.Iter.{into_iter_items}
use Rattle.std.proofs.lemmas.List.{length-drop}
use Rattle.lei_records.specs.Rows.{text_at}
use Rattle.register_words.specs.declared.sheets.Sheet.{Sheet}
use Rattle.copy_csv.specs.Rows.{IsChangeOf}
use Rattle.copy_csv.specs.Sheets.{SheetRow}
use Rattle.name_search.specs.Keys.{text_cmp}
use Rattle.name_search.specs.Puts.{put_name}
use Rattle.name_search.proofs.PlaceLemmas.{sorted_drop}
use Rattle.name_search.proofs.Walked.{rest_put, room_after, walk_ends, walk_greater, walk_same}
use Rattle.name_search.proofs.merging.merge.Goals as goal

pub loop-change-preserved : goal.loop-change-preserved
loop-change-preserved c =
    let is_change : IsChangeOf Sheet.Lei c.change-item.result = search rules in
    let few : length c.take_first.new.rows.items ≤ length c.move_rows.new.rows.items = omega (arith, ap length c.take_first.ensures.rows, length-drop 1 c.move_rows.new.rows.items) in
    record {
      walked = walk_same c.args.rows.items c.args.changes.now c.loop-change.rows.items c.loop-change.change-index c.loop-change.out.items c.change-item.result c.of.result
          c.place_of-lesser.result.0 c.loop-change.invariant.walked c.loop-change-test.true c.change-item.is is_change
          (c.of.ensures ∙ c.text_of.ensures.value ∙ ap (λ (row : SheetRow). text_at row.texts 1) c.row.ensures) c.place_of-lesser.ensures.within c.place_of-lesser.ensures.lesser
          c.move_rows.new.out.items c.move_rows.new.rows.items c.take_first.new.rows.items c.put_change.new.out.items (c.place_of-lesser.ensures.there c.if-not-is_there.false)
          (c.place_of-lesser.ensures.same c.if-not-is_there.false) c.move_rows.ensures.out c.move_rows.ensures.rows c.take_first.ensures.rows c.put_change.ensures.out;
      sorted = ap (is_sorted text_cmp) (c.take_first.ensures.rows ∙ ap (drop 1) c.move_rows.ensures.rows)
          ∙ sorted_drop 1 (drop c.place_of-lesser.result.0 c.loop-change.rows.items) (sorted_drop c.place_of-lesser.result.0 c.loop-change.rows.items c.loop-change.invariant.sorted);
      puts = rest_put c.args.changes.now c.loop-change.change-index c.change-item.result (into_iter_items c.loop-change.puts) (into_iter_items c.put_change.new.puts)
          c.loop-change-test.true c.change-item.is c.loop-change.invariant.puts c.put_change.ensures.puts;
      gone = omega (arith, c.take_first.ensures.gone);
      room_for_gone = omega (arith, c.take_first.ensures.capacity);
      room = omega (
        arith,
        c.put_change.ensures.capacity,
        c.move_rows.ensures.capacity,
        room_after c.loop-change.out.items c.move_rows.new.out.items c.put_change.new.out.items c.loop-change.rows.items c.move_rows.new.rows.items c.take_first.new.rows.items
            (into_iter_items c.loop-change.puts) (put_name c.change-item.result) (into_iter_items c.put_change.new.puts) c.place_of-lesser.result.0 _ c.place_of-lesser.ensures.within
            c.move_rows.ensures.out c.move_rows.ensures.rows few c.put_change.ensures.out c.put_change.ensures.puts c.loop-change.invariant.room,
      );
    }

pub loop-change-preserved-then-not-is_there : goal.loop-change-preserved-then-not-is_there
loop-change-preserved-then-not-is_there c =
    let is_change : IsChangeOf Sheet.Lei c.change-item.result = search rules in
    record {
      walked = walk_greater c.args.rows.items c.args.changes.now c.loop-change.rows.items c.loop-change.change-index c.loop-change.out.items c.change-item.result c.of.result
          c.place_of-lesser.result.0 c.loop-change.invariant.walked c.loop-change-test.true c.change-item.is is_change
          (c.of.ensures ∙ c.text_of.ensures.value ∙ ap (λ (row : SheetRow). text_at row.texts 1) c.row.ensures) c.place_of-lesser.ensures.within c.place_of-lesser.ensures.lesser
          c.move_rows.new.out.items c.move_rows.new.rows.items c.put_change.new.out.items (c.place_of-lesser.ensures.greater c.if-not-is_there.true)
          c.move_rows.ensures.out c.move_rows.ensures.rows c.put_change.ensures.out;
      sorted = ap (is_sorted text_cmp) c.move_rows.ensures.rows ∙ sorted_drop c.place_of-lesser.result.0 c.loop-change.rows.items c.loop-change.invariant.sorted;
      puts = rest_put c.args.changes.now c.loop-change.change-index c.change-item.result (into_iter_items c.loop-change.puts) (into_iter_items c.put_change.new.puts)
          c.loop-change-test.true c.change-item.is c.loop-change.invariant.puts c.put_change.ensures.puts;
      gone = omega arith;
      room_for_gone = c.loop-change.invariant.room_for_gone;
      room = omega (
        arith,
        c.put_change.ensures.capacity,
        c.move_rows.ensures.capacity,
        room_after c.loop-change.out.items c.move_rows.new.out.items c.put_change.new.out.items c.loop-change.rows.items c.move_rows.new.rows.items c.move_rows.new.rows.items
            (into_iter_items c.loop-change.puts) (put_name c.change-item.result) (into_iter_items c.put_change.new.puts) c.place_of-lesser.result.0 _ c.place_of-lesser.ensures.within
            c.move_rows.ensures.out c.move_rows.ensures.rows (omega arith) c.put_change.ensures.out c.put_change.ensures.puts c.loop-change.invariant.room,
      );
    }

pub returns : goal.returns
returns c =
    walk_ends c.args.rows.items c.args.changes.now c.loop-change.rows.items c.loop-change.change-index c.len-left.result c.loop-change.out.items c.move_rows-2.new.out.items
    c.requires.changes c.loop-change.invariant.walked (omega arith) (omega (arith, c.len-left.ensures)) c.move_rows-2.ensures.out
