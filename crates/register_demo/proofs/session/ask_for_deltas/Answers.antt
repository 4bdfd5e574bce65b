use Rattle.register_words.specs.declared.base.Base.TheVariants.{Number}
use Rattle.register_words.specs.declared.request.Request.TheVariants.{Delta}
use Rattle.register_words.specs.declared.sheets.Form.TheVariants.{Csv}
use Rattle.register_words.specs.declared.sheets.Sheet.TheVariants.{Lei, Rr}
use Rattle.register_demo.proofs.Stages.{answers-two}
use Rattle.register_demo.proofs.session.ask_for_deltas.Goals as goal

pub returns-clause-answers : goal.returns-clause-answers
returns-clause-answers g c =
    answers-two c.args.office.now.office c.ask.new.office.office c.ask-2.new.office.office c.args.count
    (Delta (Number 1) Lei Csv) (Delta (Number 1) Rr Csv) c.in_ok-records.records c.in_ok-relationships.relationships
    c.in_ok-records.ensures.reply c.in_ok-records.ensures.next c.in_ok-relationships.ensures.reply c.in_ok-relationships.ensures.next
