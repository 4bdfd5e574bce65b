use Rattle.std.proofs.Common.{[], ◌∷◌, ◌++◌, List, ap, subst, sym, ◌∙◌}
use Rattle.std.specs.Prelude.{if◌then◌else◌}
use Rattle.std.proofs.lemmas.List.{append-nil}
use Rattle.copy_csv.specs.Sheets.{SheetRow}
use Rattle.copy_forms.specs.Merging.{IsPlaceAmong, put_between}
use Rattle.copy_forms.proofs.Passing.{passes-alone, stands-so}
use Rattle.lei_mirror.proofs.merging.push_next.Goals as goal

pub returns-in_ok-push-clause-put : goal.returns-in_ok-push-clause-put
returns-in_ok-push-clause-put c =
    passes-alone c.args.changes.now c.args.row.now c.args.at c.place_row-left.result.0 c.place_row-left.result.1 c.args.made.now.items c.push.new.self.items
    (subst (λ (r : SheetRow). IsPlaceAmong c.args.changes.now r c.args.at c.place_row-left.result.0 c.place_row-left.result.1) c.row.ensures
    (stands-so c.args.changes.now c.row.result.now c.args.at c.place_row-left.result.0 c.place_row-left.result.1 c.place_row-left.ensures.stands))
    (c.in_ok-push.ensures.items ∙ ap (λ (r : SheetRow). c.push_all.new.made.items ++ r ∷ []) c.in_ok-share.ensures
    ∙ ap (λ l. l ++ c.args.row.now ∷ []) c.in_ok-push_all.ensures
    ∙ ap (λ b. (c.args.made.now.items ++ put_between c.args.changes.now c.args.at c.place_row-left.result.0) ++ (if b then c.args.row.now ∷ [] else [])) (sym c.if-stays.true))

pub returns-else-stays-clause-put : goal.returns-else-stays-clause-put
returns-else-stays-clause-put c =
    let put : List SheetRow = c.args.made.now.items ++ put_between c.args.changes.now c.args.at c.place_row-left.result.0 in
    passes-alone c.args.changes.now c.args.row.now c.args.at c.place_row-left.result.0 c.place_row-left.result.1 c.args.made.now.items c.push_all.new.made.items
    (subst (λ (r : SheetRow). IsPlaceAmong c.args.changes.now r c.args.at c.place_row-left.result.0 c.place_row-left.result.1) c.row.ensures
    (stands-so c.args.changes.now c.row.result.now c.args.at c.place_row-left.result.0 c.place_row-left.result.1 c.place_row-left.ensures.stands))
    (c.in_ok-push_all.ensures ∙ sym (append-nil put)
    ∙ ap (λ b. (c.args.made.now.items ++ put_between c.args.changes.now c.args.at c.place_row-left.result.0) ++ (if b then c.args.row.now ∷ [] else [])) (sym c.if-stays.false))
