use Rattle.lei_shapes.specs.Lists.{exception_category_text}
use Rattle.fetched_cells.specs.Maps.{fetched_view}
use Rattle.fetched_cells.proofs.MapLemmas.{seen_pair_at-insert}
use Rattle.fetched_cells.proofs.fetched.Fetched.put_exception.Goals as goal

pub returns-in-Ok-clause-put : goal.returns-in-Ok-clause-put
returns-in-Ok-clause-put c = λ i. record (fetched_view c.args.self.now) {
  exception = λ own other. seen_pair_at-insert c.args.self.now.exceptions c.insert.new.self (c.args.lei.now, c.text.result)
      (exception_category_text c.args.category) c.args.found c.text.ensures c.in-Ok.ensures.updates own (exception_category_text other) i;
}
