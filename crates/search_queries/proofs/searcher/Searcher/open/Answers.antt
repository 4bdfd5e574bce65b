use Rattle.search_queries.proofs.ReadFiles.{copy_rows}
use Rattle.search_queries.proofs.searcher.Searcher.open.Goals as goal

pub open-requires : goal.open-requires
open-requires g c = record { rows = copy_rows c.requires.read.0 c.args.form c.args.copy.now c.requires.read.1 }
