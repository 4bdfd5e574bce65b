use Rattle.std.specs.Prelude.{not}
use Rattle.std.proofs.lemmas.Result.{on_ok_weaker}
use Rattle.lei_records.specs.Exceptions.{exception_category_in, subject_in}
use Rattle.register_judge.proofs.OverlayLemmas.{overlaid-put_exception}
use Rattle.register_judge.proofs.overlay.Overlay.put_exception.Goals as goal

pub returns : goal.returns
returns g c = on_ok_weaker c.insert_exception.result
    (λ by_code. overlaid-put_exception (g.V.View.cells c.args.self.now.view.now) c.args.self.now.records c.args.self.now.takers
    c.args.self.now.relations c.args.self.now.ends c.args.self.now.standing c.insert_exception.new.standing
    (subject_in c.args.item.now.0) (exception_category_in c.args.item.now.0) (not c.args.item.now.1) by_code)
    c.insert_exception.ensures
