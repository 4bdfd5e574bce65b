use Rattle.std.proofs.Common.{List, ℕ, Ok, Option, ap, inl, subst}
use Rattle.file_commands.specs.TwoFiles.{WritesOutcome}
use Rattle.line_reading.specs.Status.{end_status}
use Rattle.leireg_run.proofs.demo.tell_demo.Goals as goal

pub returns-clause-tells : goal.returns-clause-tells
returns-clause-tells g c =
    let written = g.W.Sink.written in
    let text = c.in_ok-summary.summary in
    let Told : List ℕ → Option (List ℕ) → Type 0 = λ told before. WritesOutcome (Ok told) before (written c.tell_text.new.out) (end_status c.tell_text.result) in
    inl (
      text,
      c.in_ok-summary.ensures.summary,
      subst (Told text) (ap written c.demo.ensures.same)
          (subst (λ told. Told told (written c.demo.new.out)) c.as_slice.ensures c.tell_text.ensures.tells),
    )
