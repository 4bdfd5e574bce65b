use Rattle.std.proofs.Common.{◌≡◌, [], ◌∷◌, rules, subst}
use Rattle.std.proofs.lemmas.Result.{on_ok_weaker}
use Rattle.lei_records.specs.declared.view.CellKey.{CellKey}
use Rattle.fetched_cells.specs.Fetching.{keys_along}
use Rattle.fetched_cells.specs.Filling.{AddsCells}
use Rattle.fetched_cells.proofs.FillLemmas.{adds_then}
use Rattle.fetched_cells.proofs.filling.Filling.add_named.Goals as goal

pub returns-in-Rec : goal.returns-in-Rec
returns-in-Rec g c =
    let whole = g.V.View.cells c.args.view.now in
    let key = c.args.key.now in
    let is : CellKey.Rec c.in-Rec.lei ≡ key = search rules in
    on_ok_weaker c.add_walks.result
    (λ more. adds_then whole c.args.self.now c.add.new.self c.add_walks.new.self (key ∷ []) (keys_along whole key) c.in_ok-add.ensures
    (subst (λ (own : CellKey). AddsCells whole c.add.new.self c.add_walks.new.self (keys_along whole own)) is more))
    c.add_walks.ensures
