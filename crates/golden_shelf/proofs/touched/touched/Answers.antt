use Rattle.std.proofs.Common.{◌≡◌, true}
use Rattle.golden_shelf.specs.Deltas.{changed_in}
use Rattle.golden_shelf.specs.Keys.{is_key_of}
use Rattle.golden_shelf.proofs.DeltaLemmas.{ordered, ordered_own}
use Rattle.golden_shelf.proofs.touched.touched.Goals as goal

pub returns-clause-keys : goal.returns-clause-keys
returns-clause-keys c =
    ordered (changed_in c.args.sheet c.args.issues.now) c.in_ok-keys.keys.items c.sort_unstable.new.self.items c.dedup.new.self.items
    c.in_ok-keys.ensures.keys c.sort_unstable.ensures.permutation c.sort_unstable.ensures.sorted c.dedup.ensures.filtered

pub returns-clause-own : goal.returns-clause-own
returns-clause-own c =
    ordered_own (λ key. is_key_of c.args.sheet key.key ≡ true) c.in_ok-keys.keys.items c.sort_unstable.new.self.items c.dedup.new.self.items
    c.sort_unstable.ensures.permutation c.dedup.ensures.filtered c.in_ok-keys.ensures.own
