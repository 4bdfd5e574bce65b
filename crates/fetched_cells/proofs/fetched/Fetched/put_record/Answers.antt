use Rattle.fetched_cells.specs.Maps.{fetched_view}
use Rattle.fetched_cells.proofs.MapLemmas.{code_at-insert}
use Rattle.fetched_cells.proofs.fetched.Fetched.put_record.Goals as goal

pub returns-in-Ok-clause-put : goal.returns-in-Ok-clause-put
returns-in-Ok-clause-put c = λ i. record (fetched_view c.args.self.now) {
  record_cell = λ q. code_at-insert c.args.self.now.records c.insert.new.self c.args.lei.now c.args.found c.in-Ok.ensures.updates q i;
}
