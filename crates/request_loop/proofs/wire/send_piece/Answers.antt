use Rattle.std.proofs.Common.{◌∙◌, arith}
use Rattle.std.proofs.lemmas.Result.{MatchResult-from_err}
use Rattle.std.proofs.lemmas.Bool.Decides.{nat_tests}
use Rattle.lei_outside.proofs.Handing.{handed_more, handed_front}
use Rattle.request_loop.proofs.wire.send_piece.Goals as goal

pub returns-in_err-written-clause-sent : goal.returns-in_err-written-clause-sent
returns-in_err-written-clause-sent g c =
    MatchResult-from_err _ _ _ c.from_residual.ensures.0
    (λ _. handed_front _ _ _ _ _ c.loop-rest.invariant.handed (grind (arith, nat_tests)) c.in_err-written.ensures.bytes)

pub loop-rest-preserved : goal.loop-rest-preserved
loop-rest-preserved g c = record {
  handed = handed_more _ _ _ _ _ _ c.loop-rest.invariant.handed c.in_ok-written.ensures.bytes.2;
  kept = c.in_ok-written.ensures.kept (λ is. cc) ∙ c.loop-rest.invariant.kept;
  left = c.in_ok-written.ensures.left ∙ c.loop-rest.invariant.left;
  read_count = c.in_ok-written.ensures.read_count ∙ c.loop-rest.invariant.read_count;
  wire = g.met.L.Wire.lends_same_join _ _ _ c.loop-rest.invariant.wire c.in_ok-written.ensures.wire;
}
