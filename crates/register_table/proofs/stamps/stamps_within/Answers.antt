use Rattle.std.proofs.Common.{leb, rules, take}
use Rattle.std.proofs.lemmas.List.Sorted.{IsNonDecreasingBy-take, IsPartitionPoint-from_clause, IsPartitionedBy-leb}
use Rattle.register_table.proofs.StampLemmas.{ranged, whole}
use Rattle.register_table.proofs.stamps.stamps_within.Goals as goal

pub returns : goal.returns
returns c =
    let low = IsPartitionedBy-leb (λ s. s.entry) _ c.args.after (IsNonDecreasingBy-take (λ s. s.entry) c.partition_point.result c.args.stamps.now c.requires.order) in
    let high = IsPartitionedBy-leb (λ s. s.entry) _ c.args.upto c.requires.order in
    let ends = IsPartitionPoint-from_clause (λ s. leb s.entry c.args.upto) c.args.stamps.now c.partition_point.result c.partition_point.ensures.partitioned high (λ a r q k. search rules) in
    let begins = IsPartitionPoint-from_clause (λ s. leb s.entry c.args.after) (take c.partition_point.result c.args.stamps.now) c.partition_point-2.result
    c.partition_point-2.ensures.partitioned low (λ a r q k. search rules) in
    record {
      whole = whole c.args.stamps.now c.args.after c.args.upto c.partition_point-2.result c.partition_point.result c.partition_point.ensures.bound ends begins;
      range = ranged c.args.stamps.now c.args.after c.args.upto c.partition_point-2.result c.partition_point.result c.partition_point.ensures.bound ends begins;
    }
