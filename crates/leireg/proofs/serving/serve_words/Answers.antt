use Rattle.std.proofs.Common.{map, string_bytes, ◌∙◌}
use Rattle.program_words.specs.Words.{run_meaning}
use Rattle.leireg_serve.proofs.Meanings.{same_workers}
use Rattle.leireg.proofs.serving.serve_words.Goals as goal

pub serve_desks-requires-clause-count : goal.serve_desks-requires-clause-count
serve_desks-requires-clause-count g c κs within what means =
    c.in-Ok-desks_of.ensures.count ∙ same_workers (map string_bytes c.args.words.now) (run_meaning c.in-Ok.wanted) what c.in-Ok.ensures.meant means
