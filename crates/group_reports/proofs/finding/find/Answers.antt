use Rattle.std.proofs.Common.{◌+◌, ◌-◌, ◌/◌, ap, arith, sym, ◌∙◌}
use Rattle.std.specs.Cmp.Lexicographic.{slice_cmp}
use Rattle.std.specs.Ordering.{nat_cmp}
use Rattle.group_reports.proofs.PlaceLemmas.{found_at, less_to, more_from, not_there, text_is}
use Rattle.group_reports.proofs.finding.find.Goals as goal

pub loop-low-preserved-in-Less : goal.loop-low-preserved-in-Less
loop-low-preserved-in-Less c =
    let middle = c.loop-low.low + (c.loop-low.high - c.loop-low.low) / 2 in
    record {
      within = omega arith;
      ordered = omega arith;
      less = c.loop-low.invariant.less;
      more = more_from c.args.leis.now c.requires c.args.lei.now middle
          (sym (ap (slice_cmp nat_cmp c.args.lei.now) (c.text_bytes.ensures.value ∙ text_is c.args.leis.now middle))
          ∙ (sym (ap (λ x. slice_cmp nat_cmp x c.text_bytes.result.now) c.as_bytes.ensures.value) ∙ (sym c.cmp.ensures ∙ c.in-Less.is)));
    }

pub returns-in-Equal : goal.returns-in-Equal
returns-in-Equal c =
    let middle = c.loop-low.low + (c.loop-low.high - c.loop-low.low) / 2 in
    found_at c.args.leis.now c.requires c.args.lei.now middle (omega arith)
    (sym (ap (slice_cmp nat_cmp c.args.lei.now) (c.text_bytes.ensures.value ∙ text_is c.args.leis.now middle))
    ∙ (sym (ap (λ x. slice_cmp nat_cmp x c.text_bytes.result.now) c.as_bytes.ensures.value) ∙ (sym c.cmp.ensures ∙ c.in-Equal.is)))

pub loop-low-preserved : goal.loop-low-preserved
loop-low-preserved c =
    let middle = c.loop-low.low + (c.loop-low.high - c.loop-low.low) / 2 in
    record {
      within = c.loop-low.invariant.within;
      ordered = omega arith;
      less = less_to c.args.leis.now c.requires c.args.lei.now middle (omega arith)
          (sym (ap (slice_cmp nat_cmp c.args.lei.now) (c.text_bytes.ensures.value ∙ text_is c.args.leis.now middle))
          ∙ (sym (ap (λ x. slice_cmp nat_cmp x c.text_bytes.result.now) c.as_bytes.ensures.value) ∙ (sym c.cmp.ensures ∙ c.in-Greater.is)));
      more = c.loop-low.invariant.more;
    }

pub returns : goal.returns
returns c =
    not_there c.args.leis.now c.requires c.args.lei.now c.loop-low.low c.loop-low.high (omega arith) c.loop-low.invariant.less
    c.loop-low.invariant.more
