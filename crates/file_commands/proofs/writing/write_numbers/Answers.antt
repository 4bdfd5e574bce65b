use Rattle.std.proofs.Common.{ℕ, List, [], ◌∷◌, ◌++◌, subst, ◌∙◌}
use Rattle.std.specs.Fmt.{decimal}
use Rattle.request_loop.specs.Wires.{IsSent}
use Rattle.file_commands.proofs.writing.write_numbers.Goals as goal

pub returns-clause-written : goal.returns-clause-written
returns-clause-written g c =
    let written = g.W.Sink.written in
    let Told : List ℕ → List ℕ → Type 0 = λ p q. IsSent (written c.args.out.now) (written c.write_pieces.new.out)
    (c.args.front.now ++ (p ++ 32 ∷ (q ++ 10 ∷ []))) c.write_pieces.result in
    subst (λ q. Told (decimal c.args.first) q) (c.as_bytes-second.ensures.value ∙ c.format-2.ensures.text)
    (subst (λ p. Told p c.as_bytes-second.result.now) (c.as_bytes-first.ensures.value ∙ c.format.ensures.text) c.write_pieces.ensures.written)
