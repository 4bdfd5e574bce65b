use Rattle.golden_shelf.proofs.DeltaLemmas.{key_put}
use Rattle.golden_shelf.proofs.touched.put_keys.Goals as goal

pub loop-key-preserved : goal.loop-key-preserved
loop-key-preserved c = record {
  keys = key_put c.args.sheet c.loop-key.out.items c.put_key.new.out.items _ c.args.keys.now c.loop-key.key-index c.key-item.result c.loop-key-test.true
      c.key-item.is c.in_ok-put_key.ensures.keys c.loop-key.invariant.keys;
  own = λ own. c.in_ok-put_key.ensures.own (c.loop-key.invariant.own own);
}
