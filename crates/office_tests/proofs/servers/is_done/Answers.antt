use Rattle.std.proofs.Common.{map, string_bytes, ◌∙◌}
use Rattle.program_words.specs.Words.{run_meaning}
use Rattle.leireg_serve.proofs.Meanings.{same_workers}
use Rattle.office_tests.proofs.servers.is_done.Goals as goal

pub serve-status-requires-clause-desks : goal.serve-status-requires-clause-desks
serve-status-requires-clause-desks g c κs within what means =
    c.in-Ok-desks_of.ensures.count ∙ same_workers (map string_bytes c.args.words.now) (run_meaning c.in-Ok.server) what c.in-Ok.ensures.meant means
