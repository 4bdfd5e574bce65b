use Rattle.std.proofs.Common.{◌+◌, ap, arith, ◌∙◌, sym}
use Rattle.std.specs.Cmp.Lexicographic.{slice_cmp}
use Rattle.std.specs.Ordering.{nat_cmp}
use Rattle.name_search.proofs.PlaceLemmas.{above_end, above_from, above_here, below_to}
use Rattle.name_search.proofs.places.bounds.Goals as goal

pub loop-low-preserved : goal.loop-low-preserved
loop-low-preserved c = record {
  within = omega arith;
  below = below_to c.args.rows.now.items c.args.key.now (c.loop-low.low + c.loop-low.low) c.index-row.result.now c.requires (omega arith) c.index-row.ensures
      (ap (slice_cmp nat_cmp c.args.key.now) (sym c.key.ensures) ∙ sym c.compare.ensures ∙ c.in-Greater.is);
}

pub returns-in-Less-clause-greater : goal.returns-in-Less-clause-greater
returns-in-Less-clause-greater c =
    above_from c.args.rows.now.items c.args.key.now (c.loop-low.low + c.loop-low.low) c.index-row.result.now c.requires (omega arith) c.index-row.ensures
    (ap (slice_cmp nat_cmp c.args.key.now) (sym c.key.ensures) ∙ sym c.compare.ensures ∙ c.in-Less.is)

pub returns-in-Equal-clause-greater : goal.returns-in-Equal-clause-greater
returns-in-Equal-clause-greater c =
    above_here c.args.rows.now.items c.args.key.now (c.loop-low.low + c.loop-low.low) c.index-row.result.now c.requires (omega arith) c.index-row.ensures
    (ap (slice_cmp nat_cmp c.args.key.now) (sym c.key.ensures) ∙ sym c.compare.ensures ∙ c.in-Equal.is)

pub returns-clause-greater : goal.returns-clause-greater
returns-clause-greater c = above_end c.args.rows.now.items c.args.key.now _ (omega arith)
