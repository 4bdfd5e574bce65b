use Rattle.std.proofs.Common.{◌∙◌}
use Rattle.copy_forms.specs.Json.{json_record}
use Rattle.copy_forms.proofs.JsonJoined.{rows-joined}
use Rattle.copy_forms.proofs.JsonWriting.{records-end, records-more}
use Rattle.copy_forms.proofs.json_write.json_rows_text.Goals as goal

pub loop-index-preserved : goal.loop-index-preserved
loop-index-preserved c =
    records-more (λ row. json_record row.now) c.args.rows.now c.loop-index.out.items c.put_item.new.out.items _ c.as_slice.result.now c.loop-index.index c.index-rows-index.result
    c.loop-index.invariant c.loop-index-test.true c.index-rows-index.is (c.as_slice.ensures ∙ c.in_ok-record.ensures) c.in_ok-put_item.ensures

pub returns : goal.returns
returns c =
    c.from.ensures ∙ c.in_ok-extend_from_slice.ensures.items
    ∙ records-end (λ row. json_record row.now) c.args.rows.now c.loop-index.out.items _ _ c.loop-index.index c.loop-index.invariant c.loop-index-test.false
    ∙ rows-joined c.args.head.now c.args.rows.now
