use Rattle.std.proofs.Common.{◌≡◌, ◌++◌, true, drop, map}
use Rattle.std.specs.List.{All, filter}
use Rattle.golden_shelf.specs.Deltas.{texts_in}
use Rattle.golden_shelf.specs.Keys.{is_key_of, key_texts}
use Rattle.golden_shelf.proofs.touched.put_keys.Given as goal

-- the keys so far and those that are left are all keys
abbrev pub invariant-loop-key : goal.invariant-loop-key
invariant-loop-key l = record {
  keys : map texts_in l.out.items ++ map key_texts (filter (is_key_of l.sheet) (drop l.key-index l.keys))
      ≡ map texts_in l.fn.out.items ++ map key_texts (filter (is_key_of l.sheet) l.keys);
  own : All (λ key. is_key_of l.sheet key.key ≡ true) l.fn.out.items → All (λ key. is_key_of l.sheet key.key ≡ true) l.out.items;
}
