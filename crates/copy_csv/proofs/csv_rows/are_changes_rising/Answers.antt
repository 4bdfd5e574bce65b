use Rattle.std.proofs.Common.{◌≡◌, ℕ, ◌+◌, List, ◌∷◌, [], ◌++◌, true, false, drop, map, take, sym, ap, subst, ◌∙◌, take-append-drop}
use Rattle.std.proofs.lemmas.Bool.{false≢true}
use Rattle.std.proofs.lemmas.List.{drop_more, take_more}
use Rattle.copy_csv.specs.declared.rows.Change.{Change}
use Rattle.copy_csv.specs.Rows.{KeysRise, changed_key}
use Rattle.copy_csv.specs.Taking.{is_after_all}
use Rattle.copy_csv.proofs.RowLemmas.{behind_last, rising-nil, rising-push}
use Rattle.copy_csv.proofs.csv_rows.are_changes_rising.Goals as goal

pub loop-index-init : goal.loop-index-init
loop-index-init c = rising-nil

pub loop-index-preserved : goal.loop-index-preserved
loop-index-preserved c =
    let index : ℕ = c.loop-index.index in
    let xs : List Change = c.args.changes.now in
    let x : Change = c.index-changes-index.result in
    let behind : is_after_all changed_key (take index xs) x ≡ true =
    sym c.change_is_after.ensures ∙ c.if-not-change_is_after.false in
    let longer : take (index + 1) xs ≡ take index xs ++ x ∷ [] =
    take_more xs index x c.loop-index-test.true ∙ ap (λ y. take index xs ++ y ∷ []) (sym c.index-changes-index.is) in
    subst (λ (l : List Change). KeysRise (map changed_key l)) (sym longer) (rising-push changed_key (take index xs) x c.loop-index.invariant behind)

pub returns-then-not-change_is_after : goal.returns-then-not-change_is_after
returns-then-not-change_is_after c =
    let index : ℕ = c.loop-index.index in
    let xs : List Change = c.args.changes.now in
    let x : Change = c.index-changes-index.result in
    let behind : is_after_all changed_key (take index xs) x ≡ false =
    sym c.change_is_after.ensures ∙ c.if-not-change_is_after.true in
    let all : xs ≡ take index xs ++ x ∷ drop (index + 1) xs =
    sym (take-append-drop index xs)
    ∙ ap (λ l. take index xs ++ l) (drop_more xs index x c.loop-index-test.true ∙ ap (λ y. y ∷ drop (index + 1) xs) (sym c.index-changes-index.is)) in (
      λ e. absurd (false≢true e),
      λ rising. sym behind ∙ behind_last changed_key (take index xs) x (drop (index + 1) xs)
          (subst (λ (l : List Change). KeysRise (map changed_key l)) all rising),
    )
