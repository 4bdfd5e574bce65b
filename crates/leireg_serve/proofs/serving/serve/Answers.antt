use Rattle.program_words.specs.Words.{run_meaning}
use Rattle.leireg_serve.proofs.serving.serve.Goals as goal

pub serve_over-requires-clause-doors : goal.serve_over-requires-clause-doors
serve_over-requires-clause-doors g c κs within = c.requires.doors (run_meaning c.in-Ok.field-0) c.in-Ok.ensures.meant
