use Rattle.std.proofs.lemmas.Result.{on_ok_weaker}
use Rattle.register_judge.proofs.OverlayLemmas.{overlaid-put_relation}
use Rattle.register_judge.proofs.overlay.Overlay.put_relation.Goals as goal

pub returns : goal.returns
returns g c = on_ok_weaker c.insert_relation.result
    (λ by_key. overlaid-put_relation (g.V.View.cells c.args.self.now.view.now) c.args.self.now.records c.args.self.now.takers
    c.args.self.now.relations c.insert_relation.new.relations c.args.self.now.ends c.put_end.new.ends c.args.self.now.standing
    c.args.item.now by_key c.in_ok-put_end.ensures)
    c.insert_relation.ensures
