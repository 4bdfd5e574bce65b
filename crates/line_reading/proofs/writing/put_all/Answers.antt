use Rattle.std.proofs.Common.{ℕ, ◌++◌, List, take, flat_map, sym, ap, ◌∙◌, refl, append_assoc, subst}
use Rattle.std.proofs.lemmas.List.{append-nil}
use Rattle.std.proofs.lemmas.Result.{MatchResult-from_err}
use Rattle.request_loop.proofs.Sending.{pieces_more}
use Rattle.line_reading.specs.WriteBuffer.{Sends}
use Rattle.line_reading.proofs.Sending.{Sends-nothing, Sends-then, refused}
use Rattle.line_reading.proofs.writing.put_all.Goals as goal

pub loop-piece-init : goal.loop-piece-init
loop-piece-init g c =
    let a = g.L.Wire.written c.args.link.now in
    let S : List ℕ → Type 0 = λ all. Sends a a all c.args.buffer.now in
    record {
      sent = subst S (sym (append-nil c.args.buffer.now)) (Sends-nothing a c.args.buffer.now);
      kept = refl;
      left = refl;
      read_count = refl;
      wire = g.met.L.Wire.lends_same_none c.args.link.now;
    }

pub loop-piece-preserved : goal.loop-piece-preserved
loop-piece-preserved g c =
    let written = g.L.Wire.written in
    let held = c.args.buffer.now in
    let done = flat_map (λ piece. piece.now) (take c.loop-piece.piece-index c.args.pieces.now) in
    let S : List ℕ → Type 0 = λ all. Sends (written c.args.link.now) (written c.put.new.link) all c.put.new.self in
    record {
      sent = subst S (append_assoc held done _
          ∙ ap (λ xs. held ++ xs)
          (sym (pieces_more c.args.pieces.now c.loop-piece.piece-index _ c.loop-piece-test.true)))
          (Sends-then (written c.args.link.now) (written c.loop-piece.link) (written c.put.new.link) (held ++ done)
          c.loop-piece.buffer _ c.put.new.self c.loop-piece.invariant.sent c.in_ok-put.ensures.ok);
      kept = c.in_ok-put.ensures.kept (λ is. cc) ∙ c.loop-piece.invariant.kept;
      left = c.put.ensures.left ∙ c.loop-piece.invariant.left;
      read_count = c.put.ensures.read_count ∙ c.loop-piece.invariant.read_count;
      wire = g.met.L.Wire.lends_same_join _ _ _ c.loop-piece.invariant.wire c.put.ensures.wire;
    }

pub returns-in_err-put-clause-puts : goal.returns-in_err-put-clause-puts
returns-in_err-put-clause-puts g c =
    let written = g.L.Wire.written in
    MatchResult-from_err _ _ _ c.from_residual.ensures.0
    (λ _. refused (written c.args.link.now) (written c.loop-piece.link) (written c.put.new.link) c.args.pieces.now
    c.loop-piece.piece-index _ c.args.buffer.now c.loop-piece.buffer c.loop-piece-test.true
    c.loop-piece.invariant.sent c.in_err-put.ensures.err)
