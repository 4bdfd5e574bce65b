use Rattle.std.proofs.Common.{sym, ap, ◌∙◌}
use Rattle.item_fields.proofs.SheetLemmas.{first_in, first_in-all, first_in-yes, first_in-no, first_in-past, has_text}
use Rattle.item_fields.proofs.readying.first_failing.Goals as goal

pub bounds-texts-index : goal.bounds-texts-index
bounds-texts-index c = has_text c.args.kind c.fields-table.result.now c.args.texts.now c.loop-index.index c.fields-table.ensures.table c.requires c.loop-index-test.true

pub returns-then-fails : goal.returns-then-fails
returns-then-fails c =
    let table = c.fields-table.result.now in
    let texts = c.args.texts.now in
    let index = c.loop-index.index in
    let bound = c.loop-index-test.true in
    first_in-yes c.args.check c.facts_at-facts.result table texts index _ _ bound (has_text c.args.kind table texts index c.fields-table.ensures.table c.requires bound) (sym c.fails.ensures ∙ c.if-fails.true)
    ∙ (c.loop-index.invariant ∙ (ap (λ facts. first_in c.args.check facts table texts) c.facts_at-facts.ensures ∙ first_in-all c.args.rules c.args.check c.args.kind table texts c.fields-table.ensures.table))

pub loop-index-preserved : goal.loop-index-preserved
loop-index-preserved c =
    let table = c.fields-table.result.now in
    let texts = c.args.texts.now in
    let index = c.loop-index.index in
    let bound = c.loop-index-test.true in
    first_in-no c.args.check c.facts_at-facts.result table texts index _ _ bound (has_text c.args.kind table texts index c.fields-table.ensures.table c.requires bound) (sym c.fails.ensures ∙ c.if-fails.false)
    ∙ c.loop-index.invariant

pub returns : goal.returns
returns c =
    let table = c.fields-table.result.now in
    let texts = c.args.texts.now in
    let index = c.loop-index.index in
    first_in-past c.args.check c.facts_at-facts.result table texts index c.loop-index-test.false
    ∙ (c.loop-index.invariant ∙ (ap (λ facts. first_in c.args.check facts table texts) c.facts_at-facts.ensures ∙ first_in-all c.args.rules c.args.check c.args.kind table texts c.fields-table.ensures.table))
