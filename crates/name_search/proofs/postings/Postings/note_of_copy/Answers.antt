use Rattle.std.proofs.Common.{refl}
use Rattle.name_search.proofs.NotedLemmas.{note_more, stays_then}
use Rattle.name_search.proofs.postings.Postings.note_of_copy.Goals as goal

pub loop-word-preserved : goal.loop-word-preserved
loop-word-preserved c = record {
  stays = stays_then c.args.self.now c.loop-word.self c.note_first.new.self c.loop-word.invariant.stays c.in_ok-note_first.ensures.stays;
  noted = note_more c.loop-word.self c.note_first.new.self c.args.row.now.0 c.key.result.now c.words-word-items.result.now c.loop-word.word-index c.word-item.result c.word-item.result
      c.in_ok-note_first.ensures.stays c.loop-word-test.true c.word-item.is c.loop-word.invariant.noted c.key.ensures refl c.in_ok-note_first.ensures.noted;
}
