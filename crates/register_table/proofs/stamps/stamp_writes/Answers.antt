use Rattle.std.proofs.Common.{◌-◌, ◌≤◌, arith, get_or, length, subst, sym, ◌∙◌}
use Rattle.std.specs.List.{All}
use Rattle.std.proofs.lemmas.List.Elements.{All-push}
use Rattle.std.proofs.lemmas.List.Sorted.{IsNonDecreasingBy-push}
use Rattle.register_table.specs.declared.stamps.Stamp.{Stamp}
use Rattle.register_table.specs.Held.{cell_key}
use Rattle.register_table.specs.Stamps.{AreStamped, HasStamp, StampsDontFall}
use Rattle.register_table.proofs.StampLemmas.{each_more, stamped_all, stamped_more}
use Rattle.register_table.proofs.stamps.stamp_writes.Goals as goal

pub loop-write-preserved : goal.loop-write-preserved
loop-write-preserved c =
    let entry = c.args.entry in
    let stamps = c.loop-write.stamps.items in
    let stamp : Stamp = record { entry = entry; key = c.write-item.result.0 } in
    let pushed = sym c.push_reserved.ensures.items in
    let inv = c.loop-write.invariant in
    record {
      order = subst StampsDontFall pushed (IsNonDecreasingBy-push (λ s. s.entry) stamps stamp inv.order (λ d some. inv.most (length stamps - 1) d (omega (arith, some))));
      most = subst (All (λ (s : Stamp). s.entry ≤ entry)) pushed (All-push (λ (s : Stamp). s.entry ≤ entry) stamps stamp inv.most (omega arith));
      kept = λ held later stamped. subst (λ l. AreStamped l held) pushed (stamped_more stamps stamp held (inv.kept held later stamped));
      each = λ k d less. subst (λ l. HasStamp l entry (cell_key (get_or c.args.writes.now k d).0)) pushed
          (each_more c.args.writes.now stamps entry c.loop-write.write-index c.write-item.result c.loop-write-test.true c.write-item.is inv.each k d less);
      len = omega (arith, inv.len, c.push_reserved.ensures.len);
      capacity = c.push_reserved.ensures.capacity ∙ inv.capacity;
    }

pub returns-clause-after : goal.returns-clause-after
returns-clause-after c held later stamped =
    let inv = c.loop-write.invariant in
    stamped_all c.loop-write.stamps.items c.args.entry c.args.writes.now held (inv.kept held later stamped)
    (λ k d less. inv.each k d (omega (arith, less, c.loop-write-test.false)))
