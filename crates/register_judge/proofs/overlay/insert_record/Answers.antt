use Rattle.lei_records.specs.Cells.{lei_in}
use Rattle.register_judge.proofs.MapLemmas.{record_at-insert}
use Rattle.register_judge.proofs.overlay.insert_record.Goals as goal

pub returns-in-Ok : goal.returns-in-Ok
returns-in-Ok c = record_at-insert c.args.records.now c.insert.new.self c.lei.result (lei_in c.args.item.now) c.args.item c.lei.ensures.value c.in-Ok.ensures.updates
