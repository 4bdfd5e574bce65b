use Rattle.std.proofs.Common.{rules, ap, ◌∙◌}
use Rattle.std.specs.List.{list_all}
use Rattle.name_search.specs.Walks.{is_noted}
use Rattle.name_search.proofs.NotedLemmas.{named_more, noted_more}
use Rattle.name_search.proofs.opening.noted_rows.Goals as goal

pub loop-row-preserved : goal.loop-row-preserved
loop-row-preserved g c = record {
  names = c.in_ok-push.ensures.items
      ∙ named_more c.args.rows.now c.loop-row.row-index c.row-item.result c.loop-row.made.items c.in_ok-named.named c.loop-row-test.true c.row-item.is c.loop-row.invariant.names
      c.in_ok-named.ensures.value;
  noted = ap (list_all (is_noted c.note_of_copy.new.self)) c.in_ok-push.ensures.items
      ∙ noted_more c.loop-row.postings c.note_of_copy.new.self c.in_ok-note_of_copy.ensures.stays c.loop-row.made.items c.in_ok-named.named c.loop-row.invariant.noted c.in_ok-note_of_copy.ensures.noted;
  steps = search rules;
  stay = search rules;
}
