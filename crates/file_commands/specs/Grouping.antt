-- The output of the command that reports on groups. This project's profile.
use Rattle.std.specs.Prelude.{◌≡◌, ◌≢◌, ◌||◌, Bool, true, false, List, [], ◌∷◌, ◌++◌, codes, decimal, is_some, if◌then◌else◌, Result, Ok, Err, map, ⊤}
use Rattle.std.specs.Str.{bytes_eq}
use Rattle.lei_code.specs.Texts.{Text}
use Rattle.copy_csv.specs.Sheets.{SheetRow}
use Rattle.copy_csv.specs.declared.heads.Head.{Head}
use Rattle.copy_forms.specs.Files.{IsCopy}
use Rattle.delta_apply.specs.Applying.{IsNoCopy, IsSomeCopy}
use Rattle.group_reports.specs.Links.{GroupTable, key_and_name, link_of, name_at}
use Rattle.group_reports.specs.Reports.{disagreement_report, group_report}
use Rattle.register_words.specs.declared.sheets.Form.{Form}
use Rattle.register_words.specs.declared.sheets.Sheet.{Sheet}
use Rattle.file_commands.specs.TwoFiles.{FileOutcome, Rule}
use Rattle.file_commands.specs.declared.grouping.GroupRefusal.{GroupRefusal}
use Rattle.file_commands.specs.declared.grouping.GroupRefusal.TheVariants as refusals

-- ---- two copies

-- A copy of `lei` and one of `rr`, with their contents.
pub record AreCopies (lei rr : Text) (form : Form) : Type 0 where
  pub lei_head : Head
  pub lei_wide : Bool
  pub lei_rows : List SheetRow
  pub lei_is : IsCopy lei Sheet.Lei form lei_head lei_wide lei_rows
  pub rr_head : Head
  pub rr_wide : Bool
  pub rr_rows : List SheetRow
  pub rr_is : IsCopy rr Sheet.Rr form rr_head rr_wide rr_rows

-- In JSON two copies have to be from one publication. In CSV no head is printed, so nothing is required.
abbrev pub GoTogether : Form → Head → Head → Type 0
GoTogether Form.Csv lei rr = ⊤
GoTogether Form.Json lei rr = lei.publication ≡ rr.publication

-- What a report uses from two copies.
abbrev pub group_table : List SheetRow → List SheetRow → GroupTable
group_table lei rr = record { names = map key_and_name lei; links = map link_of rr }

-- ---- the subject of a report

-- The report is on all starts, and not on the group of one entity.
abbrev pub is_all : Text → Bool
is_all who = bytes_eq who (codes "ALL")

-- A report on this can be made: it is on all starts, or the first copy has a row with this LEI.
abbrev pub is_known : GroupTable → Text → Bool
is_known table who = is_all who || is_some (name_at table.names who)

-- The report: where reported and computed parents disagree, or who belongs to a group.
abbrev pub report_text : GroupTable → Text → Text
report_text table who = if is_all who then disagreement_report table else group_report table who

-- ---- the required answer

-- The required answer for two files: the first of these faults that applies, in this order, or the report if none does.
-- The first file isn't a copy of `lei`, or the second isn't a copy of `rr`. The two are from two publications, or the
-- first has no row for the entity. Lack of memory is never a required answer.
abbrev pub IsReport : Text → Form → Text → Text → Result Text GroupRefusal → Type 0
IsReport who form lei rr (Ok text) =
    (copies : AreCopies lei rr form) × GoTogether form copies.lei_head copies.rr_head
    × (is_known (group_table copies.lei_rows copies.rr_rows) who ≡ true)
    × (text ≡ report_text (group_table copies.lei_rows copies.rr_rows) who)
IsReport who form lei rr (Err refusals.LeiCopyNotRead) = IsNoCopy lei Sheet.Lei form
IsReport who form lei rr (Err refusals.RrCopyNotRead) = IsSomeCopy lei Sheet.Lei form × IsNoCopy rr Sheet.Rr form
IsReport who form lei rr (Err (refusals.OtherPublication p q)) =
    (form ≡ Form.Json) × (copies : AreCopies lei rr form) × (copies.lei_head.publication ≡ p)
    × (copies.rr_head.publication ≡ q) × (p ≢ q)
IsReport who form lei rr (Err refusals.LeiUnknown) =
    (copies : AreCopies lei rr form) × GoTogether form copies.lei_head copies.rr_head
    × (is_known (group_table copies.lei_rows copies.rr_rows) who ≡ false)
IsReport who form lei rr (Err refusals.NoMemory) = ⊥

-- The required answer if this is taken from two copies that go together, unless memory ran out.
abbrev pub IsReportOf : GroupTable → Text → Result Text GroupRefusal → Type 0
IsReportOf table who (Ok text) = (is_known table who ≡ true) × (text ≡ report_text table who)
IsReportOf table who (Err refusals.LeiCopyNotRead) = ⊥
IsReportOf table who (Err refusals.RrCopyNotRead) = ⊥
IsReportOf table who (Err (refusals.OtherPublication p q)) = ⊥
IsReportOf table who (Err refusals.LeiUnknown) = is_known table who ≡ false
IsReportOf table who (Err refusals.NoMemory) = ⊤

-- This holds, unless memory ran out.
abbrev pub UnlessGroupLacksMemory : Result Text GroupRefusal → Type 0 → Type 0
UnlessGroupLacksMemory (Ok text) P = P
UnlessGroupLacksMemory (Err refusals.LeiCopyNotRead) P = P
UnlessGroupLacksMemory (Err refusals.RrCopyNotRead) P = P
UnlessGroupLacksMemory (Err (refusals.OtherPublication p q)) P = P
UnlessGroupLacksMemory (Err refusals.LeiUnknown) P = P
UnlessGroupLacksMemory (Err refusals.NoMemory) P = ⊤

-- The line that says why there is no report.
abbrev pub group_refusal : GroupRefusal → Text
group_refusal refusals.LeiCopyNotRead = codes "refused LEI_COPY_NOT_READ\n"
group_refusal refusals.RrCopyNotRead = codes "refused RR_COPY_NOT_READ\n"
group_refusal (refusals.OtherPublication p q) =
    codes "refused OTHER_PUBLICATION " ++ (decimal p ++ 32 ∷ (decimal q ++ 10 ∷ []))
group_refusal refusals.LeiUnknown = codes "refused LEI_UNKNOWN\n"
group_refusal refusals.NoMemory = []

-- The outcome of an answer: the report, or why there is none.
abbrev pub group_outcome : Result Text GroupRefusal → FileOutcome
group_outcome (Ok text) = Ok text
group_outcome (Err refusal) = Err (group_refusal refusal)

-- The outcome for two copies of this form, in a report on this subject.
abbrev pub Reports : Text → Form → Rule
Reports who form lei rr outcome =
    (answer : Result Text GroupRefusal) × IsReport who form lei rr answer × (outcome ≡ group_outcome answer)
