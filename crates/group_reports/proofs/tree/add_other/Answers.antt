use Rattle.std.proofs.Common.{rules, sym, ◌≡◌, ◌==◌, true, false, subst}
use Rattle.group_reports.specs.Places.{AreBelow}
use Rattle.group_reports.proofs.ChildLemmas.{has_put, has_same}
use Rattle.group_reports.proofs.PlaceLemmas.{below_put}
use Rattle.group_reports.proofs.tree.add_other.Goals as goal

pub returns-then-place-root-clause-has : goal.returns-then-place-root-clause-has
returns-then-place-root-clause-has c =
    let is : (c.args.place == c.args.root) ≡ true = search rules in
    has_same c.args.place c.args.root c.args.places.now.keys is

pub returns-clause-has : goal.returns-clause-has
returns-clause-has c =
    let isnt : (c.args.place == c.args.root) ≡ false = search rules in
    has_put c.args.place c.args.root c.args.places.now.keys c.add_place.new.places.keys c.in_ok-add_place.ensures isnt

pub returns-clause-below : goal.returns-clause-below
returns-clause-below c = λ count within below.
    subst (AreBelow count) (sym c.in_ok-add_place.ensures) (below_put count c.args.places.now.keys c.args.place below within)
