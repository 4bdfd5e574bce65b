use Rattle.std.proofs.Common.{◌+◌, ap, subst, sym, ◌∙◌, drop}
use Rattle.cell_reads.specs.Needs.{needs}
use Rattle.register_judge.specs.Agreement.{NotesMore}
use Rattle.register_judge.specs.Judging.{judge_item, put_writes}
use Rattle.register_judge.specs.Outcomes.{Stops}
use Rattle.register_judge.specs.Sittings.{is_at_limit}
use Rattle.register_judge.specs.Taking.{writes_of}
use Rattle.register_judge.proofs.JudgingLemmas.{with_front-stop, with_front-end, next_item, nothing_left, few_more, few_added}
use Rattle.register_judge.proofs.ReadLemmas.{admits-more, by_reads-end, listed-more, put_writes-append, so_far-step}
use Rattle.register_judge.proofs.judging.judge_each.Goals as goal

pub returns-in-Err-clause-answers : goal.returns-in-Err-clause-answers
returns-in-Err-clause-answers g c =
    let view = g.V.View.cells c.args.view.now in
    let made = c.loop-item.progress in
    let index = c.loop-item.item-index in
    let items = c.args.items.now in
    let sitting = c.args.sitting.now in
    with_front-stop (put_writes made.writes.items view) made.added sitting made.verdicts.items made.writes.items made.new_records
    c.in-Err.stop c.item-item.result (drop (index + 1) items) (drop index items) _
    (next_item items index c.item-item.result c.loop-item-test.true c.item-item.is)
    (subst (λ cells. Stops c.in-Err.stop (judge_item cells (is_at_limit sitting made.added) sitting c.item-item.result)) c.loop-item.invariant.over c.in-Err.ensures)
    (c.loop-item.invariant.so_far view c.loop-item.invariant.admitted)

pub loop-item-preserved : goal.loop-item-preserved
loop-item-preserved g c =
    let view = g.V.View.cells c.args.view.now in
    let made = c.loop-item.progress in
    let noted = c.note_item.new.noted in
    let more = c.add.new.progress in
    let index = c.loop-item.item-index in
    let items = c.args.items.now in
    let item = c.item-item.result in
    let sitting = c.args.sitting.now in
    let judged = c.in-Ok.judged in
    let put = put_writes made.writes.items view in
    let over = c.loop-item.invariant.over in
    let keys = needs sitting.rules put item in
    let writes_are = ap (λ w. w.items) c.add.ensures.writes ∙ c.in_ok-write_item.ensures.writes in
    let notes : NotesMore made.noted more.noted view keys =
    subst (λ now. NotesMore made.noted now view keys) (sym c.add.ensures.noted)
    (subst (λ cells. NotesMore made.noted noted view (needs sitting.rules cells item)) over c.in_ok-note_item.ensures) in
    record {
      so_far = so_far-step made.noted more.noted view sitting made.added more.added made.verdicts.items more.verdicts.items made.writes.items more.writes.items
          made.new_records more.new_records judged item (drop (index + 1) items) (drop index items) items
          (next_item items index item c.loop-item-test.true c.item-item.is) notes c.loop-item.invariant.admitted
          (ap (λ cells. judge_item cells (is_at_limit sitting made.added) sitting item) (sym over) ∙ c.in-Ok.ensures)
          c.add.ensures.added c.in_ok-add.ensures.verdicts writes_are c.add.ensures.new_records c.loop-item.invariant.so_far;
      admitted = admits-more made.noted more.noted view keys notes c.loop-item.invariant.admitted;
      listed = λ some. listed-more made.noted more.noted view keys notes (c.loop-item.invariant.listed some);
      over = c.in_ok-write_item.ensures.cells ∙ (ap (put_writes (writes_of judged.verdict item)) over
          ∙ (sym (put_writes-append made.writes.items (writes_of judged.verdict item) view) ∙ ap (λ w. put_writes w view) (sym writes_are)));
      few = few_more judged.new made.new_records index more.new_records c.loop-item.invariant.few c.add.ensures.new_records;
      few_added = few_added judged.verdict judged.new made.added index more.added c.loop-item.invariant.few_added c.add.ensures.added;
    }

pub returns-clause-answers : goal.returns-clause-answers
returns-clause-answers g c =
    let view = g.V.View.cells c.args.view.now in
    let made = c.loop-item.progress in
    let index = c.loop-item.item-index in
    let items = c.args.items.now in
    with_front-end (put_writes made.writes.items view) made.added c.args.sitting.now made.verdicts.items made.writes.items made.new_records
    c.outcome_of.result (drop index items) _ (nothing_left items index c.loop-item-test.false) c.outcome_of.ensures.shows
    (c.loop-item.invariant.so_far view c.loop-item.invariant.admitted)

pub returns-clause-by_reads : goal.returns-clause-by_reads
returns-clause-by_reads g c = λ some.
    let view = g.V.View.cells c.args.view.now in
    let made = c.loop-item.progress in
    let index = c.loop-item.item-index in
    let items = c.args.items.now in
    by_reads-end made.noted view c.args.sitting.now made.added made.verdicts.items made.writes.items made.new_records c.outcome_of.result
    (drop index items) items (c.loop-item.invariant.listed some) (nothing_left items index c.loop-item-test.false)
    c.outcome_of.ensures.shows c.outcome_of.ensures.reads c.loop-item.invariant.admitted c.loop-item.invariant.so_far
