use Rattle.std.proofs.Common.{◌≡◌, ◌==◌, ℕ, List, length, false, Option, Some, None, sym, subst, ap, ◌∙◌, arith, refl}
use Rattle.std.specs.Prelude.{IsSome}
use Rattle.std.specs.Str.{IsUtf8}
use Rattle.std.proofs.lemmas.List.Elements.{All-nil, All-push}
use Rattle.copy_csv.specs.Csv.{change_line}
use Rattle.copy_csv.specs.Rows.{IsChangeIn}
use Rattle.copy_csv.specs.declared.rows.Change.{Change}
use Rattle.copy_csv.specs.Rows.{changed_key}
use Rattle.copy_csv.specs.Taking.{ReadsNext, is_after_all}
use Rattle.copy_csv.proofs.LineLemmas.{change-one_way, change-some}
use Rattle.copy_csv.proofs.RowLemmas.{none_next, not_behind, printed-push, rising-nil, rising-push, shorter}
use Rattle.copy_csv.proofs.csv_rows.read_changes.Goals as goal

pub loop-reader-init : goal.loop-reader-init
loop-reader-init c =
    let F : List ℕ → Type 0 = IsUtf8 in
    rw c.new-changes.ensures.items (record {
      printed = sym c.new-reader.ensures;
      good = All-nil (IsChangeIn c.args.sheet c.args.wide);
      rising = rising-nil;
      utf8 = subst F (sym c.new-reader.ensures) c.requires;
    })

pub returns-in-None-clause-only : goal.returns-in-None-clause-only
returns-in-None-clause-only c = λ err.
    let F : Option Change → Type 0 = λ x. ReadsNext (change_line c.args.wide) (IsChangeIn c.args.sheet c.args.wide) c.loop-reader.reader x c.read_change.new.reader in
    let none : F None = subst F c.in-None.is c.in_ok-change.ensures.read in
    let done : (length c.loop-reader.reader == 0) ≡ false = sym c.is_done.ensures ∙ c.loop-reader-test.true in
    none_next (change_line c.args.wide) (IsChangeIn c.args.sheet c.args.wide) changed_key (change-one_way c.args.sheet c.args.wide) (change-some c.args.sheet c.args.wide) c.args.bytes.now c.loop-reader.changes.items
    c.loop-reader.reader c.read_change.new.reader c.loop-reader.invariant.good c.loop-reader.invariant.printed (grind (arith, done)) none

pub returns-then-not-change_is_after-clause-only : goal.returns-then-not-change_is_after-clause-only
returns-then-not-change_is_after-clause-only c = λ err.
    let F : Option Change → Type 0 = λ x. ReadsNext (change_line c.args.wide) (IsChangeIn c.args.sheet c.args.wide) c.loop-reader.reader x c.read_change.new.reader in
    let read : F (Some c.in-Some.change) = subst F c.in-Some.is c.in_ok-change.ensures.read in
    not_behind (change_line c.args.wide) (IsChangeIn c.args.sheet c.args.wide) changed_key (change-one_way c.args.sheet c.args.wide) (change-some c.args.sheet c.args.wide) c.args.bytes.now c.loop-reader.changes.items
    c.in-Some.change c.loop-reader.reader c.read_change.new.reader c.loop-reader.invariant.good c.loop-reader.invariant.printed read
    (ap (λ xs. is_after_all changed_key xs c.in-Some.change) (sym c.as_slice.ensures.value) ∙ sym c.change_is_after.ensures ∙ c.if-not-change_is_after.true)

pub loop-reader-smaller : goal.loop-reader-smaller
loop-reader-smaller c =
    let F : Option Change → Type 0 = λ x. ReadsNext (change_line c.args.wide) (IsChangeIn c.args.sheet c.args.wide) c.loop-reader.reader x c.read_change.new.reader in
    let read : F (Some c.in-Some.change) = subst F c.in-Some.is c.in_ok-change.ensures.read in
    shorter (change_line c.args.wide) (IsChangeIn c.args.sheet c.args.wide) changed_key (change-one_way c.args.sheet c.args.wide) (change-some c.args.sheet c.args.wide) c.in-Some.change c.loop-reader.reader c.read_change.new.reader read

pub loop-reader-preserved : goal.loop-reader-preserved
loop-reader-preserved c =
    let F : Option Change → Type 0 = λ x. ReadsNext (change_line c.args.wide) (IsChangeIn c.args.sheet c.args.wide) c.loop-reader.reader x c.read_change.new.reader in
    let read : F (Some c.in-Some.change) = subst F c.in-Some.is c.in_ok-change.ensures.read in
    let G : Option Change → Type 0 = λ x. IsSome x → IsUtf8 c.read_change.new.reader in
    let utf8 : G (Some c.in-Some.change) = subst G c.in-Some.is c.in_ok-change.ensures.utf8 in
    rw c.in_ok-push.ensures.items (record {
      printed = printed-push (change_line c.args.wide) (IsChangeIn c.args.sheet c.args.wide) changed_key (change-one_way c.args.sheet c.args.wide) (change-some c.args.sheet c.args.wide) c.args.bytes.now
          c.loop-reader.changes.items c.in-Some.change c.loop-reader.reader c.read_change.new.reader c.loop-reader.invariant.printed read.0;
      good = All-push (IsChangeIn c.args.sheet c.args.wide) c.loop-reader.changes.items c.in-Some.change c.loop-reader.invariant.good read.1;
      rising = rising-push changed_key c.loop-reader.changes.items c.in-Some.change c.loop-reader.invariant.rising
          (ap (λ xs. is_after_all changed_key xs c.in-Some.change) (sym c.as_slice.ensures.value) ∙ sym c.change_is_after.ensures ∙ c.if-not-change_is_after.false);
      utf8 = utf8 refl;
    })
