use Rattle.mirror_queries.proofs.Fitting.{mirror_fits}
use Rattle.mirror_queries.proofs.serving.serve_mirror.Goals as goal

pub serve-requires-clause-fits : goal.serve-requires-clause-fits
serve-requires-clause-fits g c = mirror_fits
