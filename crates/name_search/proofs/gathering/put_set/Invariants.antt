use Rattle.std.proofs.Common.{map}
use Rattle.std.specs.Map.Iter.{deref}
use Rattle.name_search.specs.Keys.{AreKeysOf}
use Rattle.name_search.proofs.gathering.put_set.Given as goal

-- the keys so far were added, and the earlier ones are still there
abbrev pub invariant-loop-key : goal.invariant-loop-key
invariant-loop-key l = record {
  stay : AreKeysOf l.fn.keys.keys l.keys.keys;
  put : AreKeysOf (map deref l.yielded) l.keys.keys;
}
