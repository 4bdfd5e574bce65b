use Rattle.upload_ledger.proofs.PlaceLemmas.{found-at}
use Rattle.lei_office.proofs.comparing.cell_at.Goals as goal

pub returns : goal.returns
returns c = found-at c.args.cells.now c.args.place c.get.result c.get.ensures.lookup
