-- Checks: the name of each, what a failed one reports, and which of several is reported. This project's profile.
use Rattle.std.specs.Prelude.{ℕ, List, [], ◌∷◌, ◌++◌, codes, Bool, ◌==◌, if◌then◌else◌, Option, Some, None, IsSome, option_map}
use Rattle.std.specs.Map.{lookup}
use Rattle.lei_code.specs.Texts.{Lei, Text}
use Rattle.lei_shapes.specs.Lists.{record_status_text}
use Rattle.lei_records.specs.declared.check.Detail.{Detail}

-- ---- the names of checks

-- The number of each check, and its name. C01 to C04 check the fields of each item, C05 to C22 a record, C30 to C40 a
-- relationship, and C50 to C53 an exception.
abbrev pub check_names : List (ℕ × Text)
check_names =
    (1, codes "C01 FIELD_UNKNOWN")
    ∷ (2, codes "C02 FIELD_MISSING")
    ∷ (3, codes "C03 FIELD_SHAPE")
    ∷ (4, codes "C04 CHECK_DIGITS")
    ∷ (5, codes "C05 STATUS_ENTITY")
    ∷ (6, codes "C06 DATES_ORDER")
    ∷ (7, codes "C07 DATE_FUTURE")
    ∷ (8, codes "C08 SUCCESSOR_SHAPE")
    ∷ (9, codes "C09 MANAGER_NOT_UPLOADER")
    ∷ (10, codes "C10 NOT_ISSUED")
    ∷ (11, codes "C11 TRANSITION")
    ∷ (12, codes "C12 NOT_MANAGER")
    ∷ (13, codes "C13 INITIAL_DATE_CHANGED")
    ∷ (14, codes "C14 UPDATE_EARLIER")
    ∷ (15, codes "C15 RENEWAL_DATE")
    ∷ (16, codes "C16 SUCCESSOR_UNKNOWN")
    ∷ (17, codes "C17 SUCCESSOR_CYCLE")
    ∷ (18, codes "C18 SUCCESSOR_CHAIN_LONG")
    ∷ (19, codes "C19 AUTHORITY_KEY_TAKEN")
    ∷ (20, codes "C20 REGISTER_FULL")
    ∷ (21, codes "C21 EVENT_INCOMPLETE")
    ∷ (22, codes "C22 EVENT_DATES")
    ∷ (30, codes "C30 SAME_NODE")
    ∷ (31, codes "C31 PERIOD_ORDER")
    ∷ (32, codes "C32 START_UNKNOWN")
    ∷ (33, codes "C33 END_UNKNOWN")
    ∷ (34, codes "C34 START_NOT_MANAGED")
    ∷ (35, codes "C35 START_CATEGORY")
    ∷ (36, codes "C36 RELATION_TRANSITION")
    ∷ (37, codes "C37 ACTIVE_TAKEN")
    ∷ (38, codes "C38 PARENT_CYCLE")
    ∷ (39, codes "C39 PARENT_CHAIN_LONG")
    ∷ (40, codes "C40 EXCEPTION_STANDS")
    ∷ (50, codes "C50 LEI_UNKNOWN")
    ∷ (51, codes "C51 NOT_MANAGED")
    ∷ (52, codes "C52 PARENT_STANDS")
    ∷ (53, codes "C53 NOTHING_TO_WITHDRAW")
    ∷ []

-- The name of the check with this number. There is none if no check has the number.
abbrev pub check_name : ℕ → Option Text
check_name number = lookup (λ listed. number == listed) check_names

-- There is a check with this number.
abbrev pub IsCheckNumber : ℕ → Type 0
IsCheckNumber number = IsSome (check_name number)

-- ---- a check that failed

-- A check that failed: its number, and what it names.
pub record FailedCheck : Type 0 where
  pub number : ℕ
  pub detail : Detail

-- What a failed check names, as a text: a field by its name, and a status or an LEI by its text.
abbrev pub detail_text : Detail → Option Text
detail_text Detail.None = None
detail_text (Detail.Field name) = Some name
detail_text (Detail.Status status) = Some (record_status_text status)
detail_text (Detail.Code lei) = Some lei

-- A text, followed by a space and by what is named, if anything is.
abbrev pub with_named : Text → Option Text → Text
with_named text None = text
with_named text (Some name) = text ++ 32 ∷ name

-- The text of a failed check: its name and, after a space, what it names, if anything. There is no text if no check has
-- its number.
abbrev pub check_text : FailedCheck → Option Text
check_text check = option_map (λ name. with_named name (detail_text check.detail)) (check_name check.number)

-- ---- which check is reported

-- What a check finds: its number, whether it fails, and what it names if it does.
pub record Finding : Type 0 where
  pub number : ℕ
  pub fails : Bool
  pub detail : Detail

-- The check with this number fails if the test is true, and then names this.
abbrev pub fails_if : Bool → ℕ → Detail → Finding
fails_if fails number detail = record { number = number; fails = fails; detail = detail }

-- The first of these checks that fails, if one does.
abbrev pub first_failing : List Finding → Option FailedCheck
first_failing [] = None
first_failing (finding ∷ findings) =
    if finding.fails then Some (record { number = finding.number; detail = finding.detail }) else
    first_failing findings

-- A field that is absent is named, if there is one.
abbrev pub field_detail : Option Text → Detail
field_detail None = Detail.None
field_detail (Some name) = Detail.Field name

-- An LEI that the item conflicts with is named, if there is one.
abbrev pub code_detail : Option Lei → Detail
code_detail None = Detail.None
code_detail (Some lei) = Detail.Code lei
