use Rattle.std.proofs.Common.{◌+◌, ◌-◌, ◌/◌, ap, arith, ◌∙◌, sym}
use Rattle.std.specs.Cmp.Lexicographic.{slice_cmp}
use Rattle.std.specs.Ordering.{nat_cmp}
use Rattle.name_search.proofs.PlaceLemmas.{above_from, above_upto, below_here, below_to, is_here}
use Rattle.name_search.proofs.places.place_between.Goals as goal

pub loop-low-preserved-in-Less : goal.loop-low-preserved-in-Less
loop-low-preserved-in-Less c = record {
  within = omega arith;
  ordered = omega arith;
  below = c.loop-low.invariant.below;
  above = above_from c.args.rows.now.items c.args.key.now (c.loop-low.low + (c.loop-low.high - c.loop-low.low) / 2) c.index-row.result.now c.requires.sorted (omega arith) c.index-row.ensures
      (ap (slice_cmp nat_cmp c.args.key.now) (sym c.key.ensures) ∙ sym c.compare.ensures ∙ c.in-Less.is);
}

pub loop-low-preserved : goal.loop-low-preserved
loop-low-preserved c = record {
  within = c.loop-low.invariant.within;
  ordered = omega arith;
  below = below_to c.args.rows.now.items c.args.key.now (c.loop-low.low + (c.loop-low.high - c.loop-low.low) / 2) c.index-row.result.now c.requires.sorted (omega arith) c.index-row.ensures
      (ap (slice_cmp nat_cmp c.args.key.now) (sym c.key.ensures) ∙ sym c.compare.ensures ∙ c.in-Greater.is);
  above = c.loop-low.invariant.above;
}

pub returns-in-Equal-clause-lesser : goal.returns-in-Equal-clause-lesser
returns-in-Equal-clause-lesser c =
    below_here c.args.rows.now.items c.args.key.now (c.loop-low.low + (c.loop-low.high - c.loop-low.low) / 2) c.index-row.result.now c.requires.sorted (omega arith) c.index-row.ensures
    (ap (slice_cmp nat_cmp c.args.key.now) (sym c.key.ensures) ∙ sym c.compare.ensures ∙ c.in-Equal.is)

pub returns-in-Equal-clause-same : goal.returns-in-Equal-clause-same
returns-in-Equal-clause-same c = λ is.
    is_here c.args.rows.now.items c.args.key.now (c.loop-low.low + (c.loop-low.high - c.loop-low.low) / 2) c.index-row.result.now (omega arith) c.index-row.ensures
    (ap (slice_cmp nat_cmp c.args.key.now) (sym c.key.ensures) ∙ sym c.compare.ensures ∙ c.in-Equal.is)

pub returns-clause-greater : goal.returns-clause-greater
returns-clause-greater c = λ is. above_upto c.args.rows.now.items c.args.key.now c.loop-low.high c.loop-low.low c.loop-low.invariant.above c.loop-low-test.false
