use Rattle.std.proofs.Common.{[], ◌∷◌, map, subst, sym}
use Rattle.std.specs.Map.Iter.{deref}
use Rattle.std.proofs.lemmas.List.{map-append}
use Rattle.name_search.specs.Keys.{AreKeysOf}
use Rattle.name_search.proofs.RisingLemmas.{keys_push}
use Rattle.name_search.proofs.gathering.put_set.Goals as goal

pub loop-key-preserved : goal.loop-key-preserved
loop-key-preserved c = record {
  stay = λ k is. c.note_key.ensures.stay k (c.loop-key.invariant.stay k is);
  put = subst (λ l. AreKeysOf l c.note_key.new.keys.keys) (sym (map-append deref c.loop-key.yielded (c.in-Some.key ∷ [])))
      (keys_push (map deref c.loop-key.yielded) c.in-Some.key.now c.loop-key.keys.keys c.note_key.new.keys.keys c.loop-key.invariant.put
      c.note_key.ensures.stay c.in_ok-note_key.ensures.noted);
}
