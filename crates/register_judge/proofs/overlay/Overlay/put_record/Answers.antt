use Rattle.std.proofs.lemmas.Result.{on_ok_weaker}
use Rattle.register_judge.proofs.OverlayLemmas.{overlaid-put_record}
use Rattle.register_judge.proofs.overlay.Overlay.put_record.Goals as goal

pub returns : goal.returns
returns g c = on_ok_weaker c.insert_record.result
    (λ by_code. overlaid-put_record (g.V.View.cells c.args.self.now.view.now) c.args.self.now.records c.insert_record.new.records c.args.self.now.takers c.put_taker.new.takers
    c.args.self.now.relations c.args.self.now.ends c.args.self.now.standing
    c.args.item.now by_code c.in_ok-put_taker.ensures)
    c.insert_record.ensures
