use Rattle.std.proofs.Common.{Option, None, Some, Bool, ℕ, List, subst}
use Rattle.std.specs.Borrow.{Bor}
use Rattle.copy_csv.specs.Sheets.{names_shown}
use Rattle.copy_csv.specs.Taking.{FindsLines, read_lines}
use Rattle.copy_csv.proofs.FileLemmas.{copy-found, copy-none, copy-others, same-fault}
use Rattle.copy_csv.proofs.csv_files.read_csv_copy.Goals as goal

pub returns-in_default-clause-only : goal.returns-in_default-clause-only
returns-in_default-clause-only c = λ err wide rows is.
    let F : Option (Bool × Bor (List ℕ)) → Type 0 = λ found. FindsLines names_shown c.args.sheet c.args.bytes.now (read_lines found) in
    let none : F None = subst F c.in_default.is c.in_ok-wide.ensures in
    copy-none c.args.sheet c.args.bytes.now none wide rows is

pub returns-in-Ok-clause-found : goal.returns-in-Ok-clause-found
returns-in-Ok-clause-found c =
    let F : Option (Bool × Bor (List ℕ)) → Type 0 = λ found. FindsLines names_shown c.args.sheet c.args.bytes.now (read_lines found) in
    let has : F (Some (c.in-Some.wide, c.in-Some.lines)) = subst F c.in-Some.is c.in_ok-wide.ensures in
    copy-found c.args.sheet c.args.bytes.now c.in-Some.wide c.in-Some.lines.now has c.in-Ok.rows c.in-Ok.ensures.found

pub returns-in-Err-clause-only : goal.returns-in-Err-clause-only
returns-in-Err-clause-only c = λ err other rows is.
    let F : Option (Bool × Bor (List ℕ)) → Type 0 = λ found. FindsLines names_shown c.args.sheet c.args.bytes.now (read_lines found) in
    let has : F (Some (c.in-Some.wide, c.in-Some.lines)) = subst F c.in-Some.is c.in_ok-wide.ensures in
    copy-others c.args.sheet c.args.bytes.now c.in-Some.wide c.in-Some.lines.now has
    (c.in-Err.ensures.only (same-fault c.in-Err.fault err)) other rows is
