use Rattle.std.proofs.Common.{◌∙◌, ℕ, ◌+◌, ◌<◌, ◌++◌, List, refl, sym, subst, arith}
use Rattle.request_loop.proofs.Ending.{answers_on, begins, ends_answering, ends_at_limit, ends_last, ends_refusing, ends_unread, goes_of, holds_more, reads_on, refuses_on, smaller_more, smaller_used, takes_frame}
use Rattle.request_loop.proofs.serving.serve_on.Goals as goal
use Rattle.request_loop.specs.Frames.{ReadsMore, ReadsRefused, ReadsWhole}
use Rattle.request_loop.specs.Serving.{Serves, progress}
use Rattle.request_loop.specs.declared.frames.Ended.{Ended}

pub loop-count-init : goal.loop-count-init
loop-count-init g c = record {
  midway = begins g.A.Answers.step g.F.Framing.rules c.args.intake.most (g.F.Framing.holds c.args.framing.now) _
      (g.L.Wire.left c.args.link.now) c.new-buffer.result _ c.requires.some c.requires.holds c.requires.none_waits
      c.new-buffer.ensures;
  read_kept = refl;
  write_kept = refl;
  wire = g.met.L.Wire.lends_same_none c.args.link.now;
}

-- ---- what is held

pub front-requires-clause-held : goal.front-requires-clause-held
front-requires-clause-held g c =
    let at = c.loop-count.invariant.midway in
    let H : List ℕ → Type 0 = λ held. g.F.Framing.holds c.loop-count.framing held at.since in
    (at.since, subst H (sym c.bytes.ensures) at.holds)

pub front-requires-clause-none_waits : goal.front-requires-clause-none_waits
front-requires-clause-none_waits g c = c.loop-count.invariant.midway.waits

pub last-frame-requires : goal.last-frame-requires
last-frame-requires g c =
    let rules = g.F.Framing.rules in
    let holding = g.F.Framing.holds in
    let at = c.loop-count.invariant.midway in
    let R : List ℕ → Type 0 = λ held. (bytes : List ℕ) → holding c.loop-count.framing held bytes
    → ReadsMore rules (holding c.front.new.self) bytes held (g.F.Framing.waiting c.front.new.self) c.in-More.count in
    let reads = subst R c.bytes.ensures c.in-More.ensures at.since at.holds in
    let H : List ℕ → Type 0 = λ held. holding c.front.new.self held (at.since ++ c.in-Ok.ensures.ok.0) in
    let held = holds_more g.A.Answers.step rules c.args.intake.most (holding c.loop-count.framing) (holding c.front.new.self)
    _ _ _ _ _ _ _ _ _ _ _ _ _ _ at reads c.use_up.ensures c.in-Ok.ensures.ok in
    (at.since ++ c.in-Ok.ensures.ok.0, subst H (sym c.bytes-then-count-eq0.ensures) held)

-- ---- more has to be read

pub returns-in-Err-clause-serves : goal.returns-in-Err-clause-serves
returns-in-Err-clause-serves g c =
    let rules = g.F.Framing.rules in
    let holding = g.F.Framing.holds in
    let at = c.loop-count.invariant.midway in
    let R : List ℕ → Type 0 = λ held. (bytes : List ℕ) → holding c.loop-count.framing held bytes
    → ReadsMore rules (holding c.front.new.self) bytes held (g.F.Framing.waiting c.front.new.self) c.in-More.count in
    let reads = subst R c.bytes.ensures c.in-More.ensures at.since at.holds in
    let S : Ended g.row.F-End.Denot → Type 0 = λ ended. Serves g.A.Answers.step rules c.args.intake.most
    (progress c.args.who.now (g.C.Clock.given c.args.clock.now) (g.L.Wire.written c.args.link.now))
    (g.L.Wire.left c.args.link.now)
    (progress c.loop-count.who (g.C.Clock.given c.loop-count.clock) (g.L.Wire.written c.read_from.new.link))
    (g.L.Wire.left c.read_from.new.link) ended in
    subst S (sym c.ended_unread.ensures)
    (ends_unread g.A.Answers.step rules c.args.intake.most (holding c.loop-count.framing) (holding c.front.new.self) _ _ _ _
    _ _ _ _ _ _ (g.L.Wire.written c.read_from.new.link) c.in-Err.fault at reads c.in-Err.ensures.unread
    c.in-Err.ensures.written)

pub returns-then-count-eq0-clause-serves : goal.returns-then-count-eq0-clause-serves
returns-then-count-eq0-clause-serves g c =
    let step = g.A.Answers.step in
    let rules = g.F.Framing.rules in
    let holding = g.F.Framing.holds in
    let at = c.loop-count.invariant.midway in
    let R : List ℕ → Type 0 = λ held. (bytes : List ℕ) → holding c.loop-count.framing held bytes
    → ReadsMore rules (holding c.front.new.self) bytes held (g.F.Framing.waiting c.front.new.self) c.in-More.count in
    let reads = subst R c.bytes.ensures c.in-More.ensures at.since at.holds in
    let H : List ℕ → Type 0 = λ held. holding c.front.new.self held (at.since ++ c.in-Ok.ensures.ok.0) in
    let held = holds_more step rules c.args.intake.most (holding c.loop-count.framing) (holding c.front.new.self) _ _ _ _ _ _ _
    _ _ _ _ _ _ _ at reads c.use_up.ensures c.in-Ok.ensures.ok in
    let ends = c.last-frame.ensures (at.since ++ c.in-Ok.ensures.ok.0) (subst H (sym c.bytes-then-count-eq0.ensures) held) in
    ends_last step rules c.args.intake.most (holding c.loop-count.framing) (holding c.front.new.self) _ _ _ _ _ _ _ _ _ _ _ _ _
    _ _ _ (g.L.Wire.written c.read_from.new.link) c.last-frame.result c.answer_last.result g.met.F.Framing.whole_on at reads
    c.in-Ok.ensures.ok c.in-Ok.ensures.written c.if-count-eq0.true ends c.answer_last.ensures.answered
    c.answer_last.ensures.left

pub returns-then-taken-intake-clause-serves : goal.returns-then-taken-intake-clause-serves
returns-then-taken-intake-clause-serves g c =
    let rules = g.F.Framing.rules in
    let holding = g.F.Framing.holds in
    let at = c.loop-count.invariant.midway in
    let R : List ℕ → Type 0 = λ held. (bytes : List ℕ) → holding c.loop-count.framing held bytes
    → ReadsMore rules (holding c.front.new.self) bytes held (g.F.Framing.waiting c.front.new.self) c.in-More.count in
    let reads = subst R c.bytes.ensures c.in-More.ensures at.since at.holds in
    let some : 0 < c.in-Ok.count = omega (arith, c.if-count-eq0.false) in
    ends_at_limit g.A.Answers.step rules c.args.intake.most (holding c.loop-count.framing) (holding c.front.new.self) _ _ _ _ _
    _ _ _ _ _ _ _ _ _ (g.L.Wire.written c.read_from.new.link) at reads c.in-Ok.ensures.ok c.in-Ok.ensures.written some
    c.in-Ok.ensures.block c.if-taken-intake.true

pub loop-count-preserved-else-taken-intake : goal.loop-count-preserved-else-taken-intake
loop-count-preserved-else-taken-intake g c =
    let rules = g.F.Framing.rules in
    let holding = g.F.Framing.holds in
    let at = c.loop-count.invariant.midway in
    let R : List ℕ → Type 0 = λ held. (bytes : List ℕ) → holding c.loop-count.framing held bytes
    → ReadsMore rules (holding c.front.new.self) bytes held (g.F.Framing.waiting c.front.new.self) c.in-More.count in
    let reads = subst R c.bytes.ensures c.in-More.ensures at.since at.holds in
    let few = c.in-Ok.ensures.ok.2 in
    let below : c.loop-count.taken + c.in-Ok.count < c.args.intake.most =
    omega (arith, few, at.below, c.if-taken-intake.false) in
    record {
      midway = reads_on g.A.Answers.step rules c.args.intake.most (holding c.loop-count.framing) (holding c.front.new.self) _
          _ _ _ _ _ _ _ _ _ _ _ _ _ (g.L.Wire.written c.read_from.new.link) g.met.F.Framing.whole_on at reads
          c.use_up.ensures c.in-Ok.ensures.ok c.in-Ok.ensures.written below;
      read_kept = c.in-Ok.ensures.kept (λ is. cc) ∙ c.loop-count.invariant.read_kept;
      write_kept = c.in-Ok.ensures.write_count ∙ c.loop-count.invariant.write_kept;
      wire = g.met.L.Wire.lends_same_join _ _ _ c.loop-count.invariant.wire c.in-Ok.ensures.wire;
    }

pub loop-count-smaller-else-taken-intake : goal.loop-count-smaller-else-taken-intake
loop-count-smaller-else-taken-intake g c =
    let rules = g.F.Framing.rules in
    let holding = g.F.Framing.holds in
    let at = c.loop-count.invariant.midway in
    let R : List ℕ → Type 0 = λ held. (bytes : List ℕ) → holding c.loop-count.framing held bytes
    → ReadsMore rules (holding c.front.new.self) bytes held (g.F.Framing.waiting c.front.new.self) c.in-More.count in
    let reads = subst R c.bytes.ensures c.in-More.ensures at.since at.holds in
    let few = c.in-Ok.ensures.ok.2 in
    let some : 0 < c.in-Ok.count = omega (arith, c.if-count-eq0.false) in
    let below : c.loop-count.taken + c.in-Ok.count < c.args.intake.most =
    omega (arith, few, at.below, c.if-taken-intake.false) in
    smaller_more rules (holding c.front.new.self) _ _ _ _ _ _ _ _ _ _ _ _ reads c.use_up.ensures c.in-Ok.ensures.ok some below

-- ---- frames are refused

pub loop-count-preserved-in-Ok-send_refused : goal.loop-count-preserved-in-Ok-send_refused
loop-count-preserved-in-Ok-send_refused g c =
    let rules = g.F.Framing.rules in
    let holding = g.F.Framing.holds in
    let at = c.loop-count.invariant.midway in
    let R : List ℕ → Type 0 = λ held. (bytes : List ℕ) → holding c.loop-count.framing held bytes
    → ReadsRefused rules (holding c.front.new.self) bytes held (g.F.Framing.waiting c.front.new.self) c.in-Refused.count in
    let reads = subst R c.bytes.ensures c.in-Refused.ensures at.since at.holds in
    let sent = c.in-Ok-send_refused.ensures in
    record {
      midway = refuses_on g.A.Answers.takes g.A.Answers.step rules c.args.intake.most (holding c.loop-count.framing)
          (holding c.front.new.self) (holding c.send_refused.new.self) _ _ _ _ _ _ _ _ _ _ _ _
          (g.L.Wire.written c.send_refused.new.link) c.requires.fits at reads sent.sent sent.holds sent.none_waits
          c.use_up-in-Ok-send_refused.ensures sent.left;
      read_kept = sent.read_count ∙ c.loop-count.invariant.read_kept;
      write_kept = sent.kept (λ is. cc) ∙ c.loop-count.invariant.write_kept;
      wire = g.met.L.Wire.lends_same_join _ _ _ c.loop-count.invariant.wire sent.wire;
    }

pub loop-count-smaller-in-Ok-send_refused : goal.loop-count-smaller-in-Ok-send_refused
loop-count-smaller-in-Ok-send_refused g c =
    let rules = g.F.Framing.rules in
    let holding = g.F.Framing.holds in
    let at = c.loop-count.invariant.midway in
    let R : List ℕ → Type 0 = λ held. (bytes : List ℕ) → holding c.loop-count.framing held bytes
    → ReadsRefused rules (holding c.front.new.self) bytes held (g.F.Framing.waiting c.front.new.self) c.in-Refused.count in
    let reads = subst R c.bytes.ensures c.in-Refused.ensures at.since at.holds in
    smaller_used _ _ _ _ _ reads.within reads.some c.use_up-in-Ok-send_refused.ensures

pub returns-in-Err-send_refused-clause-serves : goal.returns-in-Err-send_refused-clause-serves
returns-in-Err-send_refused-clause-serves g c =
    let rules = g.F.Framing.rules in
    let holding = g.F.Framing.holds in
    let at = c.loop-count.invariant.midway in
    let R : List ℕ → Type 0 = λ held. (bytes : List ℕ) → holding c.loop-count.framing held bytes
    → ReadsRefused rules (holding c.front.new.self) bytes held (g.F.Framing.waiting c.front.new.self) c.in-Refused.count in
    let reads = subst R c.bytes.ensures c.in-Refused.ensures at.since at.holds in
    let S : Ended g.row.F-End.Denot → Type 0 = λ ended. Serves g.A.Answers.step rules c.args.intake.most
    (progress c.args.who.now (g.C.Clock.given c.args.clock.now) (g.L.Wire.written c.args.link.now))
    (g.L.Wire.left c.args.link.now)
    (progress c.loop-count.who (g.C.Clock.given c.loop-count.clock) (g.L.Wire.written c.send_refused.new.link))
    (g.L.Wire.left c.send_refused.new.link) ended in
    subst S (sym c.ended_unsent.ensures)
    (ends_refusing g.A.Answers.takes g.A.Answers.step rules c.args.intake.most (holding c.loop-count.framing)
    (holding c.front.new.self) _ _ _ _ _ _ _ _ _ _ (g.L.Wire.written c.send_refused.new.link) c.in-Err-send_refused.fault
    c.requires.fits at reads c.in-Err-send_refused.ensures.sent c.in-Err-send_refused.ensures.left)

-- ---- a frame is whole

pub answer_frame-requires : goal.answer_frame-requires
answer_frame-requires g c =
    let rules = g.F.Framing.rules in
    let holding = g.F.Framing.holds in
    let at = c.loop-count.invariant.midway in
    let R : List ℕ → Type 0 = λ held. (bytes : List ℕ) → holding c.loop-count.framing held bytes
    → ReadsWhole rules (holding c.front.new.self) bytes held (g.F.Framing.waiting c.front.new.self) c.in-Whole.frame
    c.in-Whole.count in
    let reads = subst R c.bytes.ensures c.in-Whole.ensures at.since at.holds in
    takes_frame g.A.Answers.takes g.A.Answers.step rules (holding c.front.new.self) _ _ _ _ _ c.requires.fits reads

pub loop-count-preserved : goal.loop-count-preserved
loop-count-preserved g c =
    let rules = g.F.Framing.rules in
    let holding = g.F.Framing.holds in
    let at = c.loop-count.invariant.midway in
    let R : List ℕ → Type 0 = λ held. (bytes : List ℕ) → holding c.loop-count.framing held bytes
    → ReadsWhole rules (holding c.front.new.self) bytes held (g.F.Framing.waiting c.front.new.self) c.in-Whole.frame
    c.in-Whole.count in
    let reads = subst R c.bytes.ensures c.in-Whole.ensures at.since at.holds in
    let done = c.in-Ok-answer_frame.ensures in
    record {
      midway = answers_on g.A.Answers.takes g.A.Answers.step rules c.args.intake.most (holding c.loop-count.framing)
          (holding c.front.new.self) (holding c.answer_frame.new.framing) _ _ _ _ _ _ _ _ _ _ _ _ _ c.in-Whole.frame
          (tt {0}) c.requires.fits at reads done.answered done.holds done.waiting c.use_up-in-Ok-answer_frame.ensures
          done.left;
      read_kept = done.read_count ∙ c.loop-count.invariant.read_kept;
      write_kept = done.kept (λ is. cc) ∙ c.loop-count.invariant.write_kept;
      wire = g.met.L.Wire.lends_same_join _ _ _ c.loop-count.invariant.wire done.wire;
    }

pub loop-count-smaller : goal.loop-count-smaller
loop-count-smaller g c =
    let rules = g.F.Framing.rules in
    let holding = g.F.Framing.holds in
    let at = c.loop-count.invariant.midway in
    let R : List ℕ → Type 0 = λ held. (bytes : List ℕ) → holding c.loop-count.framing held bytes
    → ReadsWhole rules (holding c.front.new.self) bytes held (g.F.Framing.waiting c.front.new.self) c.in-Whole.frame
    c.in-Whole.count in
    let reads = subst R c.bytes.ensures c.in-Whole.ensures at.since at.holds in
    let goes = goes_of g.A.Answers.step rules _ _ c.in-Whole.frame (tt {0}) c.in-Ok-answer_frame.ensures.answered in
    smaller_used _ _ _ _ _ reads.within (reads.some goes) c.use_up-in-Ok-answer_frame.ensures

pub returns-in-Err-answer_frame-clause-serves : goal.returns-in-Err-answer_frame-clause-serves
returns-in-Err-answer_frame-clause-serves g c =
    let rules = g.F.Framing.rules in
    let holding = g.F.Framing.holds in
    let at = c.loop-count.invariant.midway in
    let R : List ℕ → Type 0 = λ held. (bytes : List ℕ) → holding c.loop-count.framing held bytes
    → ReadsWhole rules (holding c.front.new.self) bytes held (g.F.Framing.waiting c.front.new.self) c.in-Whole.frame
    c.in-Whole.count in
    let reads = subst R c.bytes.ensures c.in-Whole.ensures at.since at.holds in
    ends_answering g.A.Answers.takes g.A.Answers.step rules c.args.intake.most (holding c.loop-count.framing)
    (holding c.front.new.self) _ _ _ _ _ _ _ _ _ _ _ c.in-Whole.frame c.in-Err-answer_frame.ended c.requires.fits at reads
    c.in-Err-answer_frame.ensures.answered c.in-Err-answer_frame.ensures.left
