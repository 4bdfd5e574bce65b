use Rattle.std.proofs.Common.{Err, ap, subst}
use Rattle.register_words.specs.declared.sheets.Sheet.{Sheet}
use Rattle.group_reports.specs.Links.{IsGroupFault}
use Rattle.file_commands.proofs.Grouped.{other_publication, reports_by, rows_read, some_copy}
use Rattle.file_commands.proofs.grouping.report.Goals as goal

pub returns-in-Err-NotRead-read_copy : goal.returns-in-Err-NotRead-read_copy
returns-in-Err-NotRead-read_copy c = (
  some_copy c.args.lei.now Sheet.Lei c.args.form c.in-Ok.copy c.in-Ok.ensures.found,
  c.in-Err-NotRead-read_copy.ensures.only (ap Err c.in-Err-NotRead-read_copy.field-0-is),
)

pub open-requires-clause-lei : goal.open-requires-clause-lei
open-requires-clause-lei c = rows_read c.args.lei.now Sheet.Lei c.args.form c.in-Ok.copy c.in-Ok.ensures.found

pub open-requires-clause-rr : goal.open-requires-clause-rr
open-requires-clause-rr c = rows_read c.args.rr.now Sheet.Rr c.args.form c.in-Ok-read_copy.copy c.in-Ok-read_copy.ensures.found

pub returns-in-Ok-open : goal.returns-in-Ok-open
returns-in-Ok-open c =
    reports_by c.args.who.now c.args.form c.args.lei.now c.args.rr.now c.in-Ok.copy c.in-Ok-read_copy.copy c.in-Ok-open.groups
    c.report_by.result c.in-Ok.ensures.found c.in-Ok-read_copy.ensures.found c.in-Ok-open.ensures.publication
    c.in-Ok-open.ensures.rows c.report_by.ensures

pub returns-in-Err-OtherPublication : goal.returns-in-Err-OtherPublication
returns-in-Err-OtherPublication c =
    let refusal = subst (IsGroupFault c.in-Ok.copy.head c.in-Ok-read_copy.copy.head) c.in-Err-OtherPublication.field-0-is
    c.in-Err-OtherPublication.ensures.refusal in
    other_publication c.args.who.now c.args.form c.args.lei.now c.args.rr.now c.in-Ok.copy c.in-Ok-read_copy.copy
    c.in-Err-OtherPublication.p c.in-Err-OtherPublication.q c.in-Ok.ensures.found c.in-Ok-read_copy.ensures.found refusal
