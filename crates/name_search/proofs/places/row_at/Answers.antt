use Rattle.std.proofs.Common.{◌+◌, ◌-◌, ◌/◌, ap, arith, ◌∙◌, sym}
use Rattle.std.specs.Cmp.Lexicographic.{slice_cmp}
use Rattle.std.specs.Ordering.{nat_cmp}
use Rattle.name_search.proofs.PlaceLemmas.{above_from, below_to, found_is, none_is}
use Rattle.name_search.proofs.places.row_at.Goals as goal

pub loop-low-preserved-in-Less : goal.loop-low-preserved-in-Less
loop-low-preserved-in-Less c = record {
  within = omega arith;
  ordered = omega arith;
  below = c.loop-low.invariant.below;
  above = above_from c.args.rows.now c.args.key.now (c.loop-low.low + (c.loop-low.high - c.loop-low.low) / 2) c.index-rows-middle.result c.requires (omega arith) c.index-rows-middle.is
      (ap (slice_cmp nat_cmp c.args.key.now) (sym c.key.ensures) ∙ sym c.compare.ensures ∙ c.in-Less.is);
}

pub returns-in-Equal : goal.returns-in-Equal
returns-in-Equal c =
    found_is c.args.rows.now c.args.key.now (c.loop-low.low + (c.loop-low.high - c.loop-low.low) / 2) c.index-rows-middle.result c.requires (omega arith) c.index-rows-middle.is
    (ap (slice_cmp nat_cmp c.args.key.now) (sym c.key.ensures) ∙ sym c.compare.ensures ∙ c.in-Equal.is)

pub loop-low-preserved : goal.loop-low-preserved
loop-low-preserved c = record {
  within = c.loop-low.invariant.within;
  ordered = omega arith;
  below = below_to c.args.rows.now c.args.key.now (c.loop-low.low + (c.loop-low.high - c.loop-low.low) / 2) c.index-rows-middle.result c.requires (omega arith) c.index-rows-middle.is
      (ap (slice_cmp nat_cmp c.args.key.now) (sym c.key.ensures) ∙ sym c.compare.ensures ∙ c.in-Greater.is);
  above = c.loop-low.invariant.above;
}

pub returns : goal.returns
returns c =
    none_is c.args.rows.now c.args.key.now c.loop-low.low c.loop-low.high c.loop-low.invariant.below c.loop-low.invariant.above c.loop-low-test.false
