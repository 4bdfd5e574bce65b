use Rattle.std.specs.List.{All}
use Rattle.std.proofs.Common.{◌<◌, ltb, rules, subst, sym, ◌∙◌}
use Rattle.std.proofs.lemmas.List.Sorted.{IsPartitionPoint-from_clause, IsPartitionedBy-ltb}
use Rattle.register_table.specs.declared.stamps.Stamp.{Stamp}
use Rattle.register_table.specs.Stamps.{AreStamped, StampsDontFall}
use Rattle.register_table.proofs.StampLemmas.{lower, stamped_below}
use Rattle.register_table.proofs.stamps.drop_from.Goals as goal

pub returns-clause-below : goal.returns-clause-below
returns-clause-below c =
    let entry = c.args.entry in
    let slice = c.as_slice.result.now in
    let parted = IsPartitionedBy-ltb (λ s. s.entry) slice entry (subst StampsDontFall (sym c.as_slice.ensures.value) c.requires.order) in
    let point = IsPartitionPoint-from_clause (λ s. ltb s.entry entry) slice _ c.partition_point-below.ensures.partitioned parted (λ a r q k. search rules) in
    subst (All (λ (s : Stamp). s.entry < entry)) (sym (c.truncate.ensures.items ∙ search rules)) (lower slice entry c.partition_point-below.result c.partition_point-below.ensures.bound point)

pub returns-clause-kept : goal.returns-clause-kept
returns-clause-kept c held later stamped =
    let entry = c.args.entry in
    let slice = c.as_slice.result.now in
    let parted = IsPartitionedBy-ltb (λ s. s.entry) slice entry (subst StampsDontFall (sym c.as_slice.ensures.value) c.requires.order) in
    let point = IsPartitionPoint-from_clause (λ s. ltb s.entry entry) slice _ c.partition_point-below.ensures.partitioned parted (λ a r q k. search rules) in
    subst (λ stamps. AreStamped stamps held) (sym (c.truncate.ensures.items ∙ search rules))
    (stamped_below slice entry c.partition_point-below.result c.partition_point-below.ensures.bound point held later (subst (λ stamps. AreStamped stamps held) (sym c.as_slice.ensures.value) stamped))
