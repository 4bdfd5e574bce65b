use Rattle.std.proofs.Common.{◌≡◌, ◌++◌, ◌∷◌, drop}
use Rattle.successor_rules.specs.Levels.{each_once}
use Rattle.successor_rules.proofs.found.Found.add_all.Given as goal

-- together with what the LEIs that are left add, it is what all of them make
abbrev pub invariant-loop-lei : goal.invariant-loop-lei
invariant-loop-lei l =
    l.self ++ each_once (l.own ∷ l.self) (drop l.lei-index l.leis) ≡ l.initial.self ++ each_once (l.own ∷ l.initial.self) l.leis
