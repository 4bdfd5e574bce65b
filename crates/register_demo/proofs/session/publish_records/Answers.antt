use Rattle.register_words.specs.declared.request.Request.TheVariants.{Copy, Publish}
use Rattle.register_words.specs.declared.sheets.Form.TheVariants.{Csv}
use Rattle.register_words.specs.declared.sheets.Sheet.TheVariants.{Lei, Rr}
use Rattle.register_demo.proofs.Stages.{answers-three}
use Rattle.register_demo.proofs.session.publish_records.Goals as goal

pub returns : goal.returns
returns g c = (
  c.in_ok-ask.field-0,
  answers-three c.args.office.now.office c.ask.new.office.office c.ask-2.new.office.office c.ask-3.new.office.office c.args.count
      (Publish 1) (Copy Lei Csv) (Copy Rr Csv) c.in_ok-published.published c.in_ok-ask.field-0 c.in_ok-copy.copy
      c.in_ok-published.ensures.reply c.in_ok-published.ensures.next c.in_ok-ask.ensures.reply c.in_ok-ask.ensures.next
      c.in_ok-copy.ensures.reply c.in_ok-copy.ensures.next,
)
