use Rattle.std.proofs.Common.{◌≡◌, ◌==◌, ◌≤◌, ◌-◌, ℕ, not, List, [], ◌++◌, drop, length, take, false, true, Option, Some, None, sym, subst, ap, ◌∙◌, arith, refl}
use Rattle.std.proofs.Math.Bool.{beq}
use Rattle.std.specs.Prelude.{IsSome, flat_map, if◌then◌else◌}
use Rattle.std.specs.Str.{IsUtf8}
use Rattle.std.proofs.lemmas.List.{take_rest}
use Rattle.copy_csv.specs.declared.rows.Change.{Change}
use Rattle.copy_csv.specs.Csv.{row_line}
use Rattle.copy_csv.specs.Rows.{IsRowIn}
use Rattle.copy_csv.specs.Sheets.{SheetRow, key}
use Rattle.copy_csv.specs.Taking.{ReadsNext}
use Rattle.copy_csv.proofs.LineLemmas.{row-one_way, row-some}
use Rattle.copy_csv.proofs.RowLemmas.{shorter}
use Rattle.copy_forms.specs.Merging.{PassesRow, put_by}
use Rattle.delta_apply.specs.Walks.{kept_line}
use Rattle.delta_apply.proofs.Widening.{kept-is}
use Rattle.delta_apply.proofs.Putting.{walk-begins, walk-ends, walk-falls, walk-keeps, walk-last, walk-line, walk-replaces, walk-unread}
use Rattle.delta_apply.proofs.csv.put_patched.Goals as goal
use Rattle.delta_apply.proofs.csv.put_patched.Goals.{then-stays+in_ok-put_kept, else-stays}

pub loop-reader-init : goal.loop-reader-init
loop-reader-init c =
    walk-begins c.args.sheet c.args.base_wide c.args.delta.now.wide c.args.bytes.now c.args.delta.now.changes c.args.out.now.items c.new-reader.result c.requires.utf8 c.new-reader.ensures

pub returns-in-None-clause-only : goal.returns-in-None-clause-only
returns-in-None-clause-only c = λ err.
    let F : Option SheetRow → Type 0 = λ x. ReadsNext (row_line c.args.base_wide) (IsRowIn c.args.sheet c.args.base_wide) c.loop-reader.reader x c.read_row.new.reader in
    let none : F None = subst F c.in-None.is c.in_ok-row.ensures.read in
    let done : (length c.loop-reader.reader == 0) ≡ false = sym c.is_done.ensures ∙ c.loop-reader-test.true in
    walk-unread c.args.sheet c.args.base_wide c.args.delta.now.wide c.args.bytes.now c.args.delta.now.changes c.args.out.now.items c.loop-reader.reader c.loop-reader.last c.loop-reader.next
    c.loop-reader.out.items c.loop-reader.invariant c.read_row.new.reader (grind (arith, done)) none

pub follows-requires : goal.follows-requires
follows-requires c = λ other is.
    let F : Option SheetRow → Type 0 = λ x. ReadsNext (row_line c.args.base_wide) (IsRowIn c.args.sheet c.args.base_wide) c.loop-reader.reader x c.read_row.new.reader in
    let read : F (Some c.in-Some.row) = subst F c.in-Some.is c.in_ok-row.ensures.read in
    walk-last c.args.sheet c.args.base_wide c.args.delta.now.wide c.args.bytes.now c.args.delta.now.changes c.args.out.now.items c.loop-reader.reader c.loop-reader.last c.loop-reader.next
    c.loop-reader.out.items c.loop-reader.invariant other is ∙ sym read.1.0.1

pub returns-then-not-follows-clause-only : goal.returns-then-not-follows-clause-only
returns-then-not-follows-clause-only c = λ err.
    let F : Option SheetRow → Type 0 = λ x. ReadsNext (row_line c.args.base_wide) (IsRowIn c.args.sheet c.args.base_wide) c.loop-reader.reader x c.read_row.new.reader in
    let read : F (Some c.in-Some.row) = subst F c.in-Some.is c.in_ok-row.ensures.read in
    walk-falls c.args.sheet c.args.base_wide c.args.delta.now.wide c.args.bytes.now c.args.delta.now.changes c.args.out.now.items c.loop-reader.reader c.loop-reader.last c.loop-reader.next
    c.loop-reader.out.items c.loop-reader.invariant c.in-Some.row c.read_row.new.reader read (sym c.follows.ensures ∙ c.if-not-follows.true)

pub loop-reader-smaller : goal.loop-reader-smaller
loop-reader-smaller c =
    let F : Option SheetRow → Type 0 = λ x. ReadsNext (row_line c.args.base_wide) (IsRowIn c.args.sheet c.args.base_wide) c.loop-reader.reader x c.read_row.new.reader in
    let read : F (Some c.in-Some.row) = subst F c.in-Some.is c.in_ok-row.ensures.read in
    shorter (row_line c.args.base_wide) (IsRowIn c.args.sheet c.args.base_wide) key (row-one_way c.args.sheet c.args.base_wide) (row-some c.args.sheet c.args.base_wide) c.in-Some.row c.loop-reader.reader c.read_row.new.reader read

pub loop-reader-preserved : goal.loop-reader-preserved
loop-reader-preserved c =
    let F : Option SheetRow → Type 0 = λ x. ReadsNext (row_line c.args.base_wide) (IsRowIn c.args.sheet c.args.base_wide) c.loop-reader.reader x c.read_row.new.reader in
    let read : F (Some c.in-Some.row) = subst F c.in-Some.is c.in_ok-row.ensures.read in
    let G : Option SheetRow → Type 0 = λ x. IsSome x → IsUtf8 c.read_row.new.reader in
    let utf8 : G (Some c.in-Some.row) = subst G c.in-Some.is c.in_ok-row.ensures.utf8 in
    let within : c.in_ok-left.left ≤ length c.args.delta.now.changes =
    subst (λ (l : List Change). c.in_ok-left.left ≤ length l) c.as_slice-changes.ensures c.in_ok-left.ensures.place in
    let P : List Change → Type 0 = λ l. PassesRow (row_line c.args.delta.now.wide) l c.in-Some.row c.loop-reader.next c.loop-reader.out.items c.in_ok-left.left
    (c.put_next.new.out.items ++ (if c.in_ok-left.stays then row_line c.args.delta.now.wide c.in-Some.row else [])) in
    let passes : P c.args.delta.now.changes = subst P c.as_slice-changes.ensures c.in_ok-left.ensures.put in
    elim c.if-stays.branch [
      | then-stays+in_ok-put_kept w ↦
          (let line : List ℕ = take (length c.args.bytes.now - length w.rest-then-stays.result.now - (length c.args.bytes.now - length c.rest.result.now))
          (drop (length c.args.bytes.now - length c.rest.result.now) c.args.bytes.now) in
          let line_is : line ≡ row_line c.args.base_wide c.in-Some.row =
          walk-line c.args.sheet c.args.base_wide c.args.delta.now.wide c.args.bytes.now c.args.delta.now.changes c.args.out.now.items c.loop-reader.reader
          c.loop-reader.last c.loop-reader.next c.loop-reader.out.items c.loop-reader.invariant c.in-Some.row c.read_row.new.reader read.0 _ _
          (ap (λ (l : List ℕ). length c.args.bytes.now - length l) c.rest.ensures)
          (ap (λ (l : List ℕ). length c.args.bytes.now - length l) w.rest-then-stays.ensures) in
          walk-keeps c.args.sheet c.args.base_wide c.args.delta.now.wide c.args.bytes.now c.args.delta.now.changes c.args.out.now.items c.loop-reader.reader
          c.loop-reader.last c.loop-reader.next c.loop-reader.out.items c.loop-reader.invariant c.in-Some.row c.read_row.new.reader c.in_ok-left.left
          c.in_ok-left.stays c.put_next.new.out.items (kept_line (not (beq c.args.base_wide c.args.delta.now.wide)) line) c.if-stays.out.items read (utf8 refl)
          (sym c.follows.ensures ∙ c.if-not-follows.false) within passes w.if-stays.true
          (ap (kept_line (not (beq c.args.base_wide c.args.delta.now.wide))) line_is
          ∙ kept-is c.args.sheet c.args.base_wide c.args.delta.now.wide c.in-Some.row read.1 c.requires.newer c.requires.widths)
          (ap (λ o. o.items) w.out-is ∙ w.in_ok-put_kept.ensures))
      | else-stays w ↦
          walk-replaces c.args.sheet c.args.base_wide c.args.delta.now.wide c.args.bytes.now c.args.delta.now.changes c.args.out.now.items c.loop-reader.reader
          c.loop-reader.last c.loop-reader.next c.loop-reader.out.items c.loop-reader.invariant c.in-Some.row c.read_row.new.reader c.in_ok-left.left
          c.in_ok-left.stays c.put_next.new.out.items c.if-stays.out.items read (utf8 refl) (sym c.follows.ensures ∙ c.if-not-follows.false)
          within passes w.if-stays.false (ap (λ o. o.items) w.out-is)
    ]

pub returns-clause-found : goal.returns-clause-found
returns-clause-found c =
    let done : (length c.loop-reader.reader == 0) ≡ true = sym c.is_done.ensures ∙ c.loop-reader-test.false in
    walk-ends c.args.sheet c.args.base_wide c.args.delta.now.wide c.args.bytes.now c.args.delta.now.changes c.args.out.now.items c.loop-reader.reader c.loop-reader.last c.loop-reader.next
    c.loop-reader.out.items c.loop-reader.invariant c.put_all.new.out.items (grind (arith, done))
    (c.in_ok-put_all.ensures
    ∙ ap (λ (l : List Change). c.loop-reader.out.items ++ flat_map (row_line c.args.delta.now.wide) (flat_map put_by l))
    (ap (λ (l : List Change). take (length l - c.loop-reader.next) (drop c.loop-reader.next l)) c.as_slice-changes.ensures
    ∙ take_rest c.args.delta.now.changes c.loop-reader.next))
