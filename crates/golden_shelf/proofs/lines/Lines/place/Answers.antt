use Rattle.std.proofs.Common.{◌-◌, ◌+◌, ◌/◌, ap, arith, length, sym, ◌∙◌}
use Rattle.std.specs.FinMap.Entries.{below_all}
use Rattle.std.proofs.lemmas.List.{drop_all}
use Rattle.lei_records.specs.Tables.{key_cmp}
use Rattle.golden_shelf.specs.Keys.{key_texts}
use Rattle.golden_shelf.proofs.PlaceLemmas.{above_from, below_until, nowhere, place_count, place_key, same_at}
use Rattle.golden_shelf.proofs.lines.Lines.place.Goals as goal

pub loop-low-init : goal.loop-low-init
loop-low-init c =
    let n = place_count c.args.self.now.lines _ c.as_slice-keys.result.now _ (ap (λ s. s.lines) c.self.view_is) c.as_slice-keys.ensures.value c.self.invariant.0 in
    record {
      below = tt;
      above = ap (below_all key_cmp (key_texts c.args.key.now)) (drop_all (length c.as_slice-keys.result.now) c.args.self.now.lines (omega (arith, n)));
      ordered = omega arith;
      within = omega arith;
    }

pub loop-low-preserved-in-Less : goal.loop-low-preserved-in-Less
loop-low-preserved-in-Less c =
    let i = c.loop-low.invariant in
    let t = c.loop-low-test.true in
    let o = i.ordered in
    let w = i.within in
    let m = c.loop-low.low + (c.loop-low.high - c.loop-low.low) / 2 in
    let at = place_key c.args.self.now.lines _ c.as_slice-keys.result.now _ m c.index-keys-middle.result (ap (λ s. s.lines) c.self.view_is)
    c.as_slice-keys.ensures.value c.self.invariant.0 (omega (arith, t, w)) c.index-keys-middle.is in
    record {
      below = i.below;
      above = above_from (key_texts c.args.key.now) (key_texts c.index-keys-middle.result) c.args.self.now.lines m c.requires at (sym c.compare.ensures ∙ c.in-Less.is);
      ordered = omega (arith, t);
      within = omega (arith, t, w);
    }

pub returns-in-Equal : goal.returns-in-Equal
returns-in-Equal c =
    let i = c.loop-low.invariant in
    let t = c.loop-low-test.true in
    let w = i.within in
    let m = c.loop-low.low + (c.loop-low.high - c.loop-low.low) / 2 in
    let n = place_count c.args.self.now.lines _ c.as_slice-keys.result.now _ (ap (λ s. s.lines) c.self.view_is) c.as_slice-keys.ensures.value c.self.invariant.0 in
    let at = place_key c.args.self.now.lines _ c.as_slice-keys.result.now _ m c.index-keys-middle.result (ap (λ s. s.lines) c.self.view_is)
    c.as_slice-keys.ensures.value c.self.invariant.0 (omega (arith, t, w)) c.index-keys-middle.is in
    (omega (arith, t, w, n), same_at (key_texts c.args.key.now) (key_texts c.index-keys-middle.result) c.args.self.now.lines m at (sym c.compare.ensures ∙ c.in-Equal.is))

pub loop-low-preserved : goal.loop-low-preserved
loop-low-preserved c =
    let i = c.loop-low.invariant in
    let t = c.loop-low-test.true in
    let w = i.within in
    let m = c.loop-low.low + (c.loop-low.high - c.loop-low.low) / 2 in
    let at = place_key c.args.self.now.lines _ c.as_slice-keys.result.now _ m c.index-keys-middle.result (ap (λ s. s.lines) c.self.view_is)
    c.as_slice-keys.ensures.value c.self.invariant.0 (omega (arith, t, w)) c.index-keys-middle.is in
    record {
      below = below_until (key_texts c.args.key.now) (key_texts c.index-keys-middle.result) c.args.self.now.lines m c.requires at (sym c.compare.ensures ∙ c.in-Greater.is);
      above = i.above;
      ordered = omega (arith, t);
      within = w;
    }

pub returns : goal.returns
returns c =
    let i = c.loop-low.invariant in
    let t = c.loop-low-test.false in
    let o = i.ordered in
    nowhere (key_texts c.args.key.now) c.args.self.now.lines c.loop-low.low c.loop-low.high (omega (arith, t)) (omega (arith, o)) i.below i.above
