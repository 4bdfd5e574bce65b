use Rattle.std.specs.Prelude.{[]}
use Rattle.fetched_cells.specs.Maps.{fetched_view}
use Rattle.fetched_cells.proofs.CopyLemmas.{has_none}
use Rattle.fetched_cells.proofs.fetching.fetch.Goals as goal

pub returns : goal.returns
returns g c = c.in_ok-add_all.ensures.more [] (has_none (fetched_view c.new.result) (g.V.View.cells c.args.view.now) c.new.ensures)
