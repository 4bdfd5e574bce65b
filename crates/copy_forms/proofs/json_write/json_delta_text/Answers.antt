use Rattle.std.proofs.Common.{refl, ◌∙◌}
use Rattle.copy_forms.specs.JsonTexts.{text_change_record}
use Rattle.copy_forms.proofs.JsonWriting.{records-end, records-more}
use Rattle.copy_forms.proofs.json_write.json_delta_text.Goals as goal

pub loop-index-preserved : goal.loop-index-preserved
loop-index-preserved c =
    records-more text_change_record c.args.changes.now c.loop-index.out.items c.put_change.new.out.items _ _ c.loop-index.index c.index-changes-index.result
    c.loop-index.invariant c.loop-index-test.true c.index-changes-index.is refl c.in_ok-put_change.ensures

pub returns : goal.returns
returns c =
    c.from.ensures ∙ c.in_ok-extend_from_slice.ensures.items
    ∙ records-end text_change_record c.args.changes.now c.loop-index.out.items _ _ c.loop-index.index c.loop-index.invariant c.loop-index-test.false
