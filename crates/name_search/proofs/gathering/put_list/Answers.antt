use Rattle.name_search.proofs.RisingLemmas.{keys_more}
use Rattle.name_search.proofs.gathering.put_list.Goals as goal

pub loop-key-preserved : goal.loop-key-preserved
loop-key-preserved c = record {
  stay = λ k is. c.note_key.ensures.stay k (c.loop-key.invariant.stay k is);
  put = keys_more c.args.list.now c.loop-key.key-index _ c.loop-key.keys.keys c.note_key.new.keys.keys c.loop-key-test.true c.key-item.is
      c.loop-key.invariant.put c.note_key.ensures.stay c.in_ok-note_key.ensures.noted;
}
