-- The outcome for two copies, in a report on groups.
use Rattle.std.proofs.Common.{◌≡◌, ◌≢◌, ℕ, Bool, true, false, List, Option, Some, None, Result, Ok, Err, inl, refl, sym, ap, subst, ◌∙◌, arith, pos, unwrap_or}
use Rattle.std.specs.Prelude.{is_some}
use Rattle.lei_code.specs.Texts.{Text}
use Rattle.lei_shapes.specs.Moment.{IsMoment}
use Rattle.copy_csv.specs.Rows.{AreRows, IsCopyHead}
use Rattle.copy_csv.specs.declared.heads.CopyRead.{CopyRead}
use Rattle.copy_csv.specs.declared.heads.Head.{Head}
use Rattle.copy_forms.specs.Files.{IsCopyRead}
use Rattle.delta_apply.specs.Applying.{IsSomeCopy}
use Rattle.group_reports.specs.declared.faults.GroupFault.TheVariants as faults
use Rattle.group_reports.specs.Links.{GroupTable, IsGroupFault, IsGroupTable, Link, Name, head_publication}
use Rattle.register_words.specs.declared.sheets.Form.{Form}
use Rattle.register_words.specs.declared.sheets.Sheet.{Sheet}
use Rattle.file_commands.specs.Grouping.{AreCopies, GoTogether, IsReport, IsReportOf, Reports, UnlessGroupLacksMemory, group_outcome, group_table, is_known, report_text}
use Rattle.file_commands.specs.TwoFiles.{WritesOutcome, WritesResultOf}
use Rattle.file_commands.specs.declared.grouping.GroupRefusal.{GroupRefusal}
use Rattle.file_commands.specs.declared.grouping.GroupRefusal.TheVariants as refusals

-- ---- what was read

-- a head with which a copy in CSV is printed
some_head : Head
some_head = record { moment = pos 0; publication = 1; from = 0 }

is_moment : IsMoment (pos 0)
is_moment = omega arith

some_copy_head : IsCopyHead some_head
unfolding some_head
some_copy_head = record { moment = is_moment; publication = (omega arith, omega arith); from = refl }

-- a copy that was read is one
pub some_copy : (bytes : Text) (sheet : Sheet) (form : Form) (read : CopyRead) → IsCopyRead bytes sheet form read → IsSomeCopy bytes sheet form
some_copy bytes sheet Form.Csv read is = record { head = some_head; wide = read.wide; rows = read.rows; is = is.1 some_head some_copy_head }
some_copy bytes sheet Form.Json read is = record { head = is.0; wide = read.wide; rows = read.rows; is = is.2 }

-- its rows are rows of the sheet
pub rows_read : (bytes : Text) (sheet : Sheet) (form : Form) (read : CopyRead) → IsCopyRead bytes sheet form read → AreRows sheet read.rows
rows_read bytes sheet Form.Csv read is = let copy = is.1 some_head some_copy_head in copy.rows_are
rows_read bytes sheet Form.Json read is = is.2.rows_are

-- a head is read only in JSON
has_head : Form → Bool
has_head Form.Csv = false
has_head Form.Json = true

head_read : (bytes : Text) (sheet : Sheet) (form : Form) (read : CopyRead) → IsCopyRead bytes sheet form read → is_some read.head ≡ has_head form
unfolding has_head
head_read bytes sheet Form.Csv read is = ap (λ o. is_some o) is.0
head_read bytes sheet Form.Json read is = ap (λ o. is_some o) is.1

pub heads_read : (form : Form) (lei rr : Text) (first second : CopyRead) → IsCopyRead lei Sheet.Lei form first → IsCopyRead rr Sheet.Rr form second
    → is_some first.head ≡ is_some second.head
heads_read form lei rr first second is also = head_read lei Sheet.Lei form first is ∙ sym (head_read rr Sheet.Rr form second also)

-- ---- two copies

-- the rows of two copies are those that a table is taken from
record AreRowsOf (lei rr : Text) (form : Form) (first second : CopyRead) : Type 0 where
  pub copies : AreCopies lei rr form
  pub first_rows : copies.lei_rows ≡ first.rows
  pub second_rows : copies.rr_rows ≡ second.rows
  pub first_number : form ≡ Form.Json → head_publication first.head ≡ Some copies.lei_head.publication
  pub second_number : form ≡ Form.Json → head_publication second.head ≡ Some copies.rr_head.publication

copies_read : (form : Form) (lei rr : Text) (first second : CopyRead) → IsCopyRead lei Sheet.Lei form first → IsCopyRead rr Sheet.Rr form second
    → AreRowsOf lei rr form first second
copies_read Form.Csv lei rr first second is also = record {
  copies = record {
    lei_head = some_head;
    lei_wide = first.wide;
    lei_rows = first.rows;
    lei_is = is.1 some_head some_copy_head;
    rr_head = some_head;
    rr_wide = second.wide;
    rr_rows = second.rows;
    rr_is = also.1 some_head some_copy_head;
  };
  first_rows = refl;
  second_rows = refl;
  first_number = λ json. cc;
  second_number = λ json. cc;
}
copies_read Form.Json lei rr first second is also = record {
  copies = record {
    lei_head = is.0;
    lei_wide = first.wide;
    lei_rows = first.rows;
    lei_is = is.2;
    rr_head = also.0;
    rr_wide = second.wide;
    rr_rows = second.rows;
    rr_is = also.2;
  };
  first_rows = refl;
  second_rows = refl;
  first_number = λ json. ap head_publication is.1;
  second_number = λ json. ap head_publication also.1;
}

same_some : (p q : ℕ) → Some p ≡ Some q → p ≡ q
same_some p q is = ap (λ o. unwrap_or o p) is

go_together : (form : Form) (lei rr : Text) (first second : CopyRead) (read : AreRowsOf lei rr form first second)
    → head_publication first.head ≡ head_publication second.head → GoTogether form read.copies.lei_head read.copies.rr_head
go_together Form.Csv lei rr first second read same = tt
go_together Form.Json lei rr first second read same =
    same_some _ _ (sym (read.first_number refl) ∙ (same ∙ read.second_number refl))

same_table : (table : GroupTable) (names : List Name) (links : List Link) → table.names ≡ names → table.links ≡ links
    → table ≡ record { names = names; links = links }
same_table table names links is also = subst (λ n. table ≡ record { names = n; links = links }) is
    (subst (λ l. table ≡ record { names = table.names; links = l }) also refl)

table_read : (form : Form) (lei rr : Text) (first second : CopyRead) (table : GroupTable) (read : AreRowsOf lei rr form first second)
    → IsGroupTable first.rows second.rows table → table ≡ group_table read.copies.lei_rows read.copies.rr_rows
table_read form lei rr first second table read is =
    subst (λ rows. table ≡ group_table rows read.copies.rr_rows) (sym read.first_rows)
    (subst (λ rows. table ≡ group_table first.rows rows) (sym read.second_rows)
    (same_table table _ _ is.names_are is.links_are))

-- ---- the required answer

-- from groups that were opened
pub reports_by : (who : Text) (form : Form) (lei rr : Text) (first second : CopyRead) (table : GroupTable) (answer : Result Text GroupRefusal)
    → IsCopyRead lei Sheet.Lei form first → IsCopyRead rr Sheet.Rr form second → head_publication first.head ≡ head_publication second.head
    → IsGroupTable first.rows second.rows table → IsReportOf table who answer → UnlessGroupLacksMemory answer (IsReport who form lei rr answer)
reports_by who form lei rr first second table answer is also same of_rows done = by answer done
  where
    read : AreRowsOf lei rr form first second
    read = copies_read form lei rr first second is also

    go : GoTogether form read.copies.lei_head read.copies.rr_head
    go = go_together form lei rr first second read same

    at : table ≡ group_table read.copies.lei_rows read.copies.rr_rows
    at = table_read form lei rr first second table read of_rows

    by : (answer : Result Text GroupRefusal) → IsReportOf table who answer → UnlessGroupLacksMemory answer (IsReport who form lei rr answer)
    by (Ok text) done = (
      read.copies,
      go,
      subst (λ t. is_known t who ≡ true) at done.0,
      subst (λ t. text ≡ report_text t who) at done.1,
    )
    by (Err refusals.LeiCopyNotRead) done = absurd done
    by (Err refusals.RrCopyNotRead) done = absurd done
    by (Err (refusals.OtherPublication p q)) done = absurd done
    by (Err refusals.LeiUnknown) done = (read.copies, go, subst (λ t. is_known t who ≡ false) at done)
    by (Err refusals.NoMemory) done = tt

-- for two copies of different publications
pub other_publication : (who : Text) (form : Form) (lei rr : Text) (first second : CopyRead) (p q : ℕ)
    → IsCopyRead lei Sheet.Lei form first → IsCopyRead rr Sheet.Rr form second
    → IsGroupFault first.head second.head (faults.OtherPublication p q) → IsReport who form lei rr (Err (refusals.OtherPublication p q))
other_publication who Form.Csv lei rr first second p q is also refusal =
    let none : None ≡ Some p = sym (ap head_publication is.0) ∙ refusal.0 in cc
other_publication who Form.Json lei rr first second p q is also refusal =
    let read = copies_read Form.Json lei rr first second is also in (
      refl,
      read.copies,
      same_some _ _ (sym (read.first_number refl) ∙ refusal.0),
      same_some _ _ (sym (read.second_number refl) ∙ refusal.1),
      refusal.2,
    )

-- an answer that isn't lack of memory is the required one
pub reported : (refusal : GroupRefusal) {P : Type 0} → refusal ≢ refusals.NoMemory → UnlessGroupLacksMemory (Err refusal) P → P
reported refusals.LeiCopyNotRead other is = is
reported refusals.RrCopyNotRead other is = is
reported (refusals.OtherPublication p q) other is = is
reported refusals.LeiUnknown other is = is
reported refusals.NoMemory other is = absurd (other refl)

-- an answer was written
pub report_told : (who : Text) (form : Form) (lei rr : Text) (answer : Result Text GroupRefusal) (before after : Option (List ℕ)) (status : ℕ)
    → IsReport who form lei rr answer → WritesOutcome (group_outcome answer) before after status
    → WritesResultOf (Reports who form) lei rr before after status
report_told who form lei rr answer before after status is tells = inl (group_outcome answer, (answer, is, refl), tells)
