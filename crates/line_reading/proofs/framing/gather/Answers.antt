use Rattle.std.proofs.Common.{List, ℕ, take, sym, subst, arith}
use Rattle.line_reading.specs.Lines.{HasNoEnd}
use Rattle.line_reading.proofs.LineLemmas.{HasNoEnd-nil}
use Rattle.line_reading.proofs.Lined.{gathers_next, gathers_nothing, next_within}
use Rattle.line_reading.proofs.framing.gather.Goals as goal

pub loop-end-init : goal.loop-end-init
loop-end-init c = record {
  within = omega arith;
  nothing = λ _. c.requires.none;
  seen = c.requires.within;
  unseen = λ none. none;
  gathers = λ _. gathers_nothing c.args.held.now c.args.refusals.now c.requires.none;
}

pub loop-end-preserved : goal.loop-end-preserved
loop-end-preserved c =
    let rest = c.split_at.result.1.now in
    let back = c.split_at.ensures.back in
    let N : List ℕ → Type 0 = λ xs. HasNoEnd (take c.loop-end.seen xs) in
    record {
      within = next_within c.args.held.now rest c.loop-end.used c.in-Some.end back c.loop-end.invariant.within
          c.in-Some.ensures.within;
      nothing = λ none. absurd (omega (arith, none));
      seen = omega arith;
      unseen = λ _. HasNoEnd-nil;
      gathers = λ none. gathers_next c.args.held.now rest c.loop-end.refusals _ c.loop-end.used c.in-Some.end
          c.line_of.result.now back (c.loop-end.invariant.gathers none)
          (c.in-Some.ensures.found (subst N (sym back) (c.loop-end.invariant.unseen none))) c.line_of.ensures
          (c.takes_line.ensures.takes c.if-not-takes_line.false);
    }
