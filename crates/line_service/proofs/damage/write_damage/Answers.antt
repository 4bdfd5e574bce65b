use Rattle.std.proofs.Common.{ℕ, List, ◌++◌, codes, subst, ◌∙◌}
use Rattle.std.specs.Fmt.{decimal}
use Rattle.request_loop.specs.Wires.{IsSent}
use Rattle.line_service.proofs.damage.write_damage.Goals as goal

pub returns-clause-written : goal.returns-clause-written
returns-clause-written g c =
    let written = g.W.Sink.written in
    let damage = c.args.damage.now in
    let P : List ℕ → List ℕ → List ℕ → Type 0 = λ n k r. IsSent (written c.args.out.now) (written c.write_pieces.new.out)
    (codes "STORE_DAMAGED " ++ (n ++ (codes "\nkept " ++ (k ++ (codes "\nreplayed " ++ (r ++ codes "\n")))))) c.write_pieces.result in
    subst (λ r. P (decimal damage.entry) damage.kept r) c.as_slice-replayed.ensures
    (subst (λ k. P (decimal damage.entry) k c.as_slice-replayed.result.now) c.as_slice-kept.ensures
    (subst (λ n. P n c.as_slice-kept.result.now c.as_slice-replayed.result.now) (c.as_bytes-number.ensures.value ∙ c.format.ensures.text) c.write_pieces.ensures.written))
