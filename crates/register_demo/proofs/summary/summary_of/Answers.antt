use Rattle.std.proofs.Common.{◌∙◌, ◌++◌, ap}
use Rattle.register_demo.specs.Summary.{delta_lines, lines_text, publication_lines, verdict_lines}
use Rattle.register_demo.proofs.Lines.{three-parts}
use Rattle.register_demo.proofs.summary.summary_of.Goals as goal

pub returns : goal.returns
returns c =
    let told = c.args.told.now in
    c.from.ensures
    ∙ three-parts (verdict_lines c.args.entries told.answers.items) (publication_lines told.repeats told.publications told.published)
    (delta_lines told.records told.relationships told.applied) c.put_verdicts.new.out.items c.put_publications.new.out.items c.put_deltas.new.out.items
    (c.in_ok-put_verdicts.ensures ∙ ap (λ text. text ++ lines_text (verdict_lines c.args.entries c.deref.result.now)) c.new-out.ensures.items
    ∙ ap (λ text. lines_text (verdict_lines c.args.entries text)) c.deref.ensures.value)
    (c.in_ok-put_publications.ensures
    ∙ ap (λ text. c.put_verdicts.new.out.items ++ lines_text (publication_lines told.repeats told.publications text)) c.as_slice.ensures)
    c.in_ok-put_deltas.ensures
