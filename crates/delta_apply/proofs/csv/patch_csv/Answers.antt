use Rattle.std.proofs.Common.{◌≡◌, ℕ, Bool, List, ap, Err, None, Option, Some, false, true, rules, sym, subst}
use Rattle.std.specs.Borrow.{Bor}
use Rattle.copy_csv.specs.Sheets.{names_shown}
use Rattle.copy_csv.specs.Taking.{FindsLines, HasLines, read_lines}
use Rattle.copy_csv.proofs.FileLemmas.{copy-none, copy-others}
use Rattle.delta_apply.specs.Walks.{IsPatchedCsv}
use Rattle.delta_apply.proofs.Putting.{csv-patched}
use Rattle.delta_apply.proofs.csv.patch_csv.Goals as goal

pub returns-in-Ok-None : goal.returns-in-Ok-None
returns-in-Ok-None c =
    let F : Option (Bool × Bor (List ℕ)) → Type 0 = λ o. FindsLines names_shown c.args.sheet c.args.copy.now (read_lines o) in
    let none : F None = subst F c.in-Ok-None.field-0-is c.in-Ok-None.ensures in
    copy-none c.args.sheet c.args.copy.now none

pub returns-then-not-delta : goal.returns-then-not-delta
returns-then-not-delta c =
    let F : Option (Bool × Bor (List ℕ)) → Type 0 = λ o. FindsLines names_shown c.args.sheet c.args.copy.now (read_lines o) in
    let has : F (Some c.in-Ok-Some.found) = subst F c.in-Ok-Some.field-0-is c.in-Ok-Some.ensures in
    let narrow : c.args.delta.now.wide ≡ false = search rules in
    let H : Bool → Type 0 = λ wide. HasLines names_shown c.args.sheet c.args.copy.now wide c.in-Ok-Some.found.1.now in
    subst (λ wide. IsPatchedCsv c.args.sheet c.args.copy.now wide c.args.delta.now.changes c.answer_older.result) (sym narrow)
    (c.answer_older.ensures c.in-Ok-Some.found.1.now c.args.delta.now.changes (subst H c.if-base_wide.true has))

pub returns-in-Ok : goal.returns-in-Ok
returns-in-Ok c =
    let F : Option (Bool × Bor (List ℕ)) → Type 0 = λ o. FindsLines names_shown c.args.sheet c.args.copy.now (read_lines o) in
    let has : F (Some c.in-Ok-Some.found) = subst F c.in-Ok-Some.field-0-is c.in-Ok-Some.ensures in
    let newer : c.in-Ok-Some.found.0 ≡ true → c.args.delta.now.wide ≡ true = search rules in
    csv-patched c.args.sheet c.in-Ok-Some.found.0 c.args.delta.now.wide c.args.copy.now c.in-Ok-Some.found.1.now c.args.delta.now.changes c.in-Ok.bytes
    has newer c.in-Ok.ensures.found

pub returns-in-Err-NotRead : goal.returns-in-Err-NotRead
returns-in-Err-NotRead c =
    let F : Option (Bool × Bor (List ℕ)) → Type 0 = λ o. FindsLines names_shown c.args.sheet c.args.copy.now (read_lines o) in
    let has : F (Some c.in-Ok-Some.found) = subst F c.in-Ok-Some.field-0-is c.in-Ok-Some.ensures in
    copy-others c.args.sheet c.args.copy.now c.in-Ok-Some.found.0 c.in-Ok-Some.found.1.now has (c.in-Err-NotRead.ensures.only (ap Err c.in-Err-NotRead.field-0-is))
