use Rattle.std.proofs.Common.{◌≡◌, ◌==◌, ℕ, List, length, false, Option, Some, None, sym, subst, ap, ◌∙◌, arith, refl}
use Rattle.std.specs.Prelude.{IsSome}
use Rattle.std.specs.Str.{IsUtf8}
use Rattle.std.proofs.lemmas.List.Elements.{All-nil, All-push}
use Rattle.copy_csv.specs.Csv.{row_line}
use Rattle.copy_csv.specs.Rows.{IsRowIn}
use Rattle.copy_csv.specs.Sheets.{SheetRow, key}
use Rattle.copy_csv.specs.Taking.{ReadsNext, is_after_all}
use Rattle.copy_csv.proofs.LineLemmas.{row-one_way, row-some}
use Rattle.copy_csv.proofs.RowLemmas.{none_next, not_behind, printed-push, rising-nil, rising-push, shorter}
use Rattle.copy_csv.proofs.csv_rows.read_rows.Goals as goal

pub loop-reader-init : goal.loop-reader-init
loop-reader-init c =
    let F : List ℕ → Type 0 = IsUtf8 in
    rw c.new-rows.ensures.items (record {
      printed = sym c.new-reader.ensures;
      good = All-nil (IsRowIn c.args.sheet c.args.wide);
      rising = rising-nil;
      utf8 = subst F (sym c.new-reader.ensures) c.requires;
    })

pub returns-in-None-clause-only : goal.returns-in-None-clause-only
returns-in-None-clause-only c = λ err.
    let F : Option SheetRow → Type 0 = λ x. ReadsNext (row_line c.args.wide) (IsRowIn c.args.sheet c.args.wide) c.loop-reader.reader x c.read_row.new.reader in
    let none : F None = subst F c.in-None.is c.in_ok-row.ensures.read in
    let done : (length c.loop-reader.reader == 0) ≡ false = sym c.is_done.ensures ∙ c.loop-reader-test.true in
    none_next (row_line c.args.wide) (IsRowIn c.args.sheet c.args.wide) key (row-one_way c.args.sheet c.args.wide) (row-some c.args.sheet c.args.wide) c.args.bytes.now c.loop-reader.rows.items
    c.loop-reader.reader c.read_row.new.reader c.loop-reader.invariant.good c.loop-reader.invariant.printed (grind (arith, done)) none

pub returns-then-not-row_is_after-clause-only : goal.returns-then-not-row_is_after-clause-only
returns-then-not-row_is_after-clause-only c = λ err.
    let F : Option SheetRow → Type 0 = λ x. ReadsNext (row_line c.args.wide) (IsRowIn c.args.sheet c.args.wide) c.loop-reader.reader x c.read_row.new.reader in
    let read : F (Some c.in-Some.row) = subst F c.in-Some.is c.in_ok-row.ensures.read in
    not_behind (row_line c.args.wide) (IsRowIn c.args.sheet c.args.wide) key (row-one_way c.args.sheet c.args.wide) (row-some c.args.sheet c.args.wide) c.args.bytes.now c.loop-reader.rows.items
    c.in-Some.row c.loop-reader.reader c.read_row.new.reader c.loop-reader.invariant.good c.loop-reader.invariant.printed read
    (ap (λ xs. is_after_all key xs c.in-Some.row) (sym c.as_slice.ensures.value) ∙ sym c.row_is_after.ensures ∙ c.if-not-row_is_after.true)

pub loop-reader-smaller : goal.loop-reader-smaller
loop-reader-smaller c =
    let F : Option SheetRow → Type 0 = λ x. ReadsNext (row_line c.args.wide) (IsRowIn c.args.sheet c.args.wide) c.loop-reader.reader x c.read_row.new.reader in
    let read : F (Some c.in-Some.row) = subst F c.in-Some.is c.in_ok-row.ensures.read in
    shorter (row_line c.args.wide) (IsRowIn c.args.sheet c.args.wide) key (row-one_way c.args.sheet c.args.wide) (row-some c.args.sheet c.args.wide) c.in-Some.row c.loop-reader.reader c.read_row.new.reader read

pub loop-reader-preserved : goal.loop-reader-preserved
loop-reader-preserved c =
    let F : Option SheetRow → Type 0 = λ x. ReadsNext (row_line c.args.wide) (IsRowIn c.args.sheet c.args.wide) c.loop-reader.reader x c.read_row.new.reader in
    let read : F (Some c.in-Some.row) = subst F c.in-Some.is c.in_ok-row.ensures.read in
    let G : Option SheetRow → Type 0 = λ x. IsSome x → IsUtf8 c.read_row.new.reader in
    let utf8 : G (Some c.in-Some.row) = subst G c.in-Some.is c.in_ok-row.ensures.utf8 in
    rw c.in_ok-push.ensures.items (record {
      printed = printed-push (row_line c.args.wide) (IsRowIn c.args.sheet c.args.wide) key (row-one_way c.args.sheet c.args.wide) (row-some c.args.sheet c.args.wide) c.args.bytes.now
          c.loop-reader.rows.items c.in-Some.row c.loop-reader.reader c.read_row.new.reader c.loop-reader.invariant.printed read.0;
      good = All-push (IsRowIn c.args.sheet c.args.wide) c.loop-reader.rows.items c.in-Some.row c.loop-reader.invariant.good read.1;
      rising = rising-push key c.loop-reader.rows.items c.in-Some.row c.loop-reader.invariant.rising
          (ap (λ xs. is_after_all key xs c.in-Some.row) (sym c.as_slice.ensures.value) ∙ sym c.row_is_after.ensures ∙ c.if-not-row_is_after.false);
      utf8 = utf8 refl;
    })
