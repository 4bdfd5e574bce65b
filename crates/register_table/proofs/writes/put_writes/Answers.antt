use Rattle.std.proofs.Common.{◌+◌, ◌≤◌, drop, sym, ◌∙◌, arith, length, subst}
use Rattle.register_table.proofs.NoteLemmas.{all_put, next_write, others_own, stays-more, stays_kept}
use Rattle.register_table.proofs.writes.put_writes.Goals as goal

pub loop-write-preserved : goal.loop-write-preserved
loop-write-preserved c =
    let writes = c.args.writes.now in
    let rest = drop c.loop-write.write-index writes in
    let more = drop (c.loop-write.write-index + 1) writes in
    let write = c.write-item.result in
    let is = next_write writes c.loop-write.write-index write c.loop-write-test.true c.write-item.is in
    let held = c.loop-write.parts.cells in
    let inv = c.loop-write.invariant in
    let cells = c.in_ok-put_write.ensures.cells in
    record {
      put = all_put c.args.entry rest write more held c.put_write.new.parts.cells is cells ∙ inv.put;
      own = others_own rest write more is inv.own;
      kept = stays_kept c.args.entry rest write more held c.put_write.new.parts.cells is inv.own cells inv.kept;
      parts = c.put_write.ensures.parts;
      back = c.put_write.ensures.back ∙ inv.back;
      undoable = c.put_write.ensures.undoable;
      noted = stays-more _ _ _ inv.noted c.put_write.ensures.noted;
      room = subst (λ n. length writes ≤ n) (sym c.put_write.ensures.capacity) inv.room;
      len = omega (arith, inv.len, c.put_write.ensures.len);
    }
