use Rattle.std.proofs.Common.{◌≡◌, ◌+◌, ◌++◌, ◌∷◌, [], List, ap, map, subst, sym, take, ◌∙◌}
use Rattle.std.proofs.lemmas.List.{map-append, take_more}
use Rattle.std.specs.List.{AllByRecursion}
use Rattle.register_table.specs.declared.touched.Touched.{Touched}
use Rattle.register_history.specs.Kept.{IsKey, kept_cell}
use Rattle.register_history.proofs.KeptLemmas.{all-push}
use Rattle.register_state.proofs.keeping.kept_cells.Goals as goal

pub loop-told-preserved : goal.loop-told-preserved
loop-told-preserved c =
    let list = c.args.touched.now in
    let at = c.loop-told.told-index in
    let told = c.told-item.result in
    let taken : take (at + 1) list ≡ take at list ++ told ∷ [] = take_more list at told c.loop-told-test.true ∙ ap (λ t. take at list ++ t ∷ []) (sym c.told-item.is) in
    let K : List Touched → Type 0 = λ l. AllByRecursion (λ told. IsKey told.key) l in
    record {
      cells = c.in_ok-push.ensures.items ∙ (ap (λ l. l ++ c.in_ok-kept_cell.field-0 ∷ []) c.loop-told.invariant.cells
          ∙ (ap (λ e. map kept_cell (take at list) ++ e ∷ []) c.in_ok-kept_cell.ensures.cell
          ∙ (sym (map-append kept_cell (take at list) (told ∷ [])) ∙ ap (map kept_cell) (sym taken))));
      keys = subst K (sym taken) (all-push (λ told. IsKey told.key) (take at list) told c.loop-told.invariant.keys c.in_ok-kept_cell.ensures.key);
    }
