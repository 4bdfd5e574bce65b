use Rattle.std.proofs.Common.{◌∙◌}
use Rattle.copy_forms.proofs.JsonWriting.{records-end, records-more}
use Rattle.copy_forms.proofs.json_write.json_copy_text.Goals as goal

pub loop-index-preserved : goal.loop-index-preserved
loop-index-preserved c =
    records-more (λ texts. texts.json) c.args.rows.now c.loop-index.out.items c.put_item.new.out.items _ c.as_slice.result.now c.loop-index.index c.index-rows-index.result
    c.loop-index.invariant c.loop-index-test.true c.index-rows-index.is c.as_slice.ensures c.in_ok-put_item.ensures

pub returns : goal.returns
returns c =
    c.from.ensures ∙ c.in_ok-extend_from_slice.ensures.items
    ∙ records-end (λ texts. texts.json) c.args.rows.now c.loop-index.out.items _ _ c.loop-index.index c.loop-index.invariant c.loop-index-test.false
