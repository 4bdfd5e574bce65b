use Rattle.std.proofs.Common.{[], ◌∷◌, ◌++◌, List, ap, map, sym, ◌∙◌}
use Rattle.std.specs.Prelude.{if◌then◌else◌}
use Rattle.std.proofs.lemmas.List.{append-nil}
use Rattle.copy_csv.specs.Sheets.{SheetRow}
use Rattle.copy_forms.specs.Merging.{put_between}
use Rattle.copy_forms.proofs.Passing.{held-push, passes-alone, stands-so}
use Rattle.delta_apply.proofs.json.push_next.Goals as goal

pub returns-in_ok-push-clause-put : goal.returns-in_ok-push-clause-put
returns-in_ok-push-clause-put c =
    passes-alone c.args.changes.now c.args.row.now c.args.at c.place_row-left.result.0 c.place_row-left.result.1
    (map (λ row. row.now) c.args.held.now.items) (map (λ row. row.now) c.push.new.self.items)
    (stands-so c.args.changes.now c.args.row.now c.args.at c.place_row-left.result.0 c.place_row-left.result.1 c.place_row-left.ensures.stands)
    (held-push c.push_all.new.held.items c.push.new.self.items c.args.row c.in_ok-push.ensures.items
    ∙ ap (λ l. l ++ c.args.row.now ∷ []) c.in_ok-push_all.ensures
    ∙ ap (λ b. (map (λ row. row.now) c.args.held.now.items ++ put_between c.args.changes.now c.args.at c.place_row-left.result.0) ++ (if b then c.args.row.now ∷ [] else [])) (sym c.if-stays.true))

pub returns-else-stays-clause-put : goal.returns-else-stays-clause-put
returns-else-stays-clause-put c =
    let put : List SheetRow = map (λ row. row.now) c.args.held.now.items ++ put_between c.args.changes.now c.args.at c.place_row-left.result.0 in
    passes-alone c.args.changes.now c.args.row.now c.args.at c.place_row-left.result.0 c.place_row-left.result.1
    (map (λ row. row.now) c.args.held.now.items) (map (λ row. row.now) c.push_all.new.held.items)
    (stands-so c.args.changes.now c.args.row.now c.args.at c.place_row-left.result.0 c.place_row-left.result.1 c.place_row-left.ensures.stands)
    (c.in_ok-push_all.ensures ∙ sym (append-nil put)
    ∙ ap (λ b. (map (λ row. row.now) c.args.held.now.items ++ put_between c.args.changes.now c.args.at c.place_row-left.result.0) ++ (if b then c.args.row.now ∷ [] else [])) (sym c.if-stays.false))
