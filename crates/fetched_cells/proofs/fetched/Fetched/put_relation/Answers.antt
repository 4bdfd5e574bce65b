use Rattle.lei_shapes.specs.Lists.{relation_type_text}
use Rattle.fetched_cells.specs.Maps.{fetched_view}
use Rattle.fetched_cells.proofs.MapLemmas.{between_at-insert}
use Rattle.fetched_cells.proofs.fetched.Fetched.put_relation.Goals as goal

pub returns-in-Ok-clause-put : goal.returns-in-Ok-clause-put
returns-in-Ok-clause-put c = λ i. record (fetched_view c.args.self.now) {
  relation = λ s k e. between_at-insert c.args.self.now.relations c.insert.new.self (c.args.start.now, c.text.result, c.args.end.now)
      (relation_type_text c.args.kind) c.args.found c.text.ensures c.in-Ok.ensures.updates s (relation_type_text k) e i;
}
