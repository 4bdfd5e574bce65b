use Rattle.std.proofs.Common.{◌<◌, ap, get_or, length, subst, ◌∙◌}
use Rattle.lei_records.specs.Rows.{text_at}
use Rattle.copy_forms.specs.JsonReading.{json_ranks}
use Rattle.copy_forms.proofs.JsonPrinting.{rank-within}
use Rattle.copy_forms.proofs.JsonSteps.{mapped-more}
use Rattle.copy_forms.proofs.json_read.row_by_names.Goals as goal

pub text-requires-clause-first : goal.text-requires-clause-first
text-requires-clause-first c =
    let table = c.ranks-rank-items.ensures in
    let within : c.loop-rank.rank-index < length (json_ranks c.args.sheet) = subst (λ l. c.loop-rank.rank-index < length l) table c.loop-rank-test.true in
    let here = c.from.ensures ∙ ap (λ l. get_or l c.loop-rank.rank-index 0) table in
    rw here (rank-within c.args.sheet c.loop-rank.rank-index within).0

pub text-requires-clause-last : goal.text-requires-clause-last
text-requires-clause-last c =
    let table = c.ranks-rank-items.ensures in
    let within : c.loop-rank.rank-index < length (json_ranks c.args.sheet) = subst (λ l. c.loop-rank.rank-index < length l) table c.loop-rank-test.true in
    let here = c.from.ensures ∙ ap (λ l. get_or l c.loop-rank.rank-index 0) table in
    rw (here, c.requires) (rank-within c.args.sheet c.loop-rank.rank-index within).1

pub loop-rank-preserved : goal.loop-rank-preserved
loop-rank-preserved c =
    let table = c.ranks-rank-items.ensures in
    let within : c.loop-rank.rank-index < length (json_ranks c.args.sheet) = subst (λ l. c.loop-rank.rank-index < length l) table c.loop-rank-test.true in
    let here = c.from.ensures ∙ ap (λ l. get_or l c.loop-rank.rank-index 0) table in
    mapped-more (text_at c.args.texts.now) (json_ranks c.args.sheet) c.loop-rank.row c.push.new.self c.loop-rank.rank-index c.from.result c.text.result.now
    c.loop-rank.invariant within here c.text.ensures.value c.in_ok-push.ensures.pushed
