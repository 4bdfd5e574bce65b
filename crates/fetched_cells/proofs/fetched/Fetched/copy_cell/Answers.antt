use Rattle.std.proofs.Common.{rules}
use Rattle.std.proofs.lemmas.Result.{on_ok_weaker}
use Rattle.fetched_cells.specs.Maps.{fetched_view}
use Rattle.fetched_cells.proofs.CopyLemmas.{copied_end, copied_exception, copied_holder, copied_record, copied_relation}
use Rattle.fetched_cells.proofs.fetched.Fetched.copy_cell.Goals as goal

pub returns-in-Rec-clause-copied : goal.returns-in-Rec-clause-copied
returns-in-Rec-clause-copied g c = on_ok_weaker c.put_record.result
    (copied_record (g.V.View.cells c.args.view.now) (fetched_view c.args.self.now) (fetched_view c.put_record.new.self) c.args.key.now
    c.in-Rec.lei c.record_cell.result (search rules) (search rules))
    c.put_record.ensures.put

pub returns-in-Rel-clause-copied : goal.returns-in-Rel-clause-copied
returns-in-Rel-clause-copied g c = on_ok_weaker c.put_relation.result
    (copied_relation (g.V.View.cells c.args.view.now) (fetched_view c.args.self.now) (fetched_view c.put_relation.new.self) c.args.key.now
    c.in-Rel.start c.in-Rel.kind c.in-Rel.end c.relation.result (search rules) (search rules))
    c.put_relation.ensures.put

pub returns-in-Exc-clause-copied : goal.returns-in-Exc-clause-copied
returns-in-Exc-clause-copied g c = on_ok_weaker c.put_exception.result
    (copied_exception (g.V.View.cells c.args.view.now) (fetched_view c.args.self.now) (fetched_view c.put_exception.new.self) c.args.key.now
    c.in-Exc.lei c.in-Exc.category c.exception.result (search rules) (search rules))
    c.put_exception.ensures.put

pub returns-in-Act-clause-copied : goal.returns-in-Act-clause-copied
returns-in-Act-clause-copied g c = on_ok_weaker c.put_end.result
    (copied_end (g.V.View.cells c.args.view.now) (fetched_view c.args.self.now) (fetched_view c.put_end.new.self) c.args.key.now
    c.in-Act.start c.in-Act.kind c.active.result (search rules) (search rules))
    c.put_end.ensures.put

pub returns-in-Key-clause-copied : goal.returns-in-Key-clause-copied
returns-in-Key-clause-copied g c = on_ok_weaker c.put_holder.result
    (copied_holder (g.V.View.cells c.args.view.now) (fetched_view c.args.self.now) (fetched_view c.put_holder.new.self) c.args.key.now
    c.in-Key.authority c.in-Key.id c.holder-found.result (search rules) (search rules))
    (search rules)
