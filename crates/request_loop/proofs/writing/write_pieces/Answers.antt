use Rattle.std.proofs.Common.{◌∙◌, ℕ, List, take, flat_map, sym, subst, refl}
use Rattle.std.proofs.lemmas.Result.{MatchResult-from_err}
use Rattle.lei_outside.specs.Told.{Grows}
use Rattle.lei_outside.proofs.Told.{Grows-none, Grows-join}
use Rattle.request_loop.proofs.Sending.{pieces_cut, pieces_more}
use Rattle.request_loop.proofs.writing.write_pieces.Goals as goal

pub loop-piece-init : goal.loop-piece-init
loop-piece-init g c = record { sent = Grows-none (g.W.Sink.written c.args.out.now); kept = refl }

pub loop-piece-preserved : goal.loop-piece-preserved
loop-piece-preserved g c =
    let written = g.W.Sink.written in
    let done = flat_map (λ piece. piece.now) (take c.loop-piece.piece-index c.args.pieces.now) in
    let G : List ℕ → Type 0 = λ all. Grows (written c.args.out.now) (written c.write_all.new.out) all in
    record {
      sent = subst G (sym (pieces_more c.args.pieces.now c.loop-piece.piece-index _ c.loop-piece-test.true))
          (Grows-join (written c.args.out.now) (written c.loop-piece.out) (written c.write_all.new.out) done _
          c.loop-piece.invariant.sent c.in_ok-write_all.ensures.written);
      kept = c.in_ok-write_all.ensures.kept (λ is. cc) ∙ c.loop-piece.invariant.kept;
    }

pub returns-in_err-write_all-clause-written : goal.returns-in_err-write_all-clause-written
returns-in_err-write_all-clause-written g c =
    let written = g.W.Sink.written in
    MatchResult-from_err _ _ _ c.from_residual.ensures.0
    (λ _. pieces_cut (written c.args.out.now) (written c.loop-piece.out) (written c.write_all.new.out)
    c.args.pieces.now c.loop-piece.piece-index _ c.loop-piece-test.true c.loop-piece.invariant.sent
    c.in_err-write_all.ensures.front)
