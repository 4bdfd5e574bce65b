use Rattle.std.proofs.Common.{take}
use Rattle.name_search.specs.Walks.{is_noted}
use Rattle.name_search.proofs.NotedLemmas.{all_more, noted_stays, stays_then}
use Rattle.name_search.proofs.postings.Postings.note_all.Goals as goal

pub loop-row-preserved : goal.loop-row-preserved
loop-row-preserved c = record {
  stays = stays_then c.args.self.now c.loop-row.self c.note_of_delta.new.self c.loop-row.invariant.stays c.in_ok-note_of_delta.ensures.stays;
  noted = all_more (is_noted c.note_of_delta.new.self) c.args.rows.now c.loop-row.row-index _ c.loop-row-test.true c.row-item.is
      (noted_stays c.loop-row.self c.note_of_delta.new.self c.in_ok-note_of_delta.ensures.stays (take c.loop-row.row-index c.args.rows.now) c.loop-row.invariant.noted)
      c.in_ok-note_of_delta.ensures.noted;
}
