use Rattle.std.proofs.Common.{arith, ◌∙◌}
use Rattle.name_search.proofs.Walked.{move_more}
use Rattle.name_search.proofs.merging.move_rows.Goals as goal

pub loop-preserved : goal.loop-preserved
loop-preserved c =
    let moved = move_more c.args.out.now.items c.loop.out.items c.push_reserved.new.self.items c.args.rows.now.items c.loop.rows.items c.pop_front.new.self.items c.loop.counter
    c.in-Some.row (omega arith) c.loop.invariant.out c.loop.invariant.rows c.in-Some.ensures.items c.push_reserved.ensures.items in
    record {
      out = moved.0;
      rows = moved.1;
      capacity = c.push_reserved.ensures.capacity ∙ c.loop.invariant.capacity;
    }
