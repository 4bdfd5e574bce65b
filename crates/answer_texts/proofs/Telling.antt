-- Each check that a verdict on an upload's items reports exists: there is a check of its number.
use Rattle.std.proofs.Common.{◌≡◌, ℕ, List, [], ◌∷◌, ◌++◌, map, Bool, true, false, cond, Option, Some, None, option_map, unwrap_or, refl, subst, sym}
use Rattle.std.specs.List.{All}
use Rattle.std.specs.Prelude.{IfSome}
use Rattle.std.specs.Option.{option_or}
use Rattle.std.proofs.lemmas.List.Elements.{All-cons, All-nil}
use Rattle.lei_code.specs.Texts.{Lei, Text}
use Rattle.lei_records.specs.Cells.{lei_in, successor_in, successors_in}
use Rattle.lei_records.specs.Checks.{FailedCheck, Finding, IsCheckNumber, first_failing}
use Rattle.item_fields.specs.Items.{failed_check, failed_field, says_withdraw, item_of, miscoded_field, misshapen_field, missing_field, ready, readied_as, row_of, unknown_name}
use Rattle.lei_records.specs.Rows.{Row}
use Rattle.lei_records.specs.Tables.{Table, other_holder, put_all, record_count, record_of}
use Rattle.item_fields.specs.declared.fields.Kind.{Kind}
use Rattle.lei_records.specs.declared.item.Item.{Item}
use Rattle.item_fields.specs.declared.item.RawItem.{RawItem}
use Rattle.lei_records.specs.declared.item.Readied.{Readied}
use Rattle.lei_records.specs.declared.view.RecCell.{RecCell}
use Rattle.lei_records.specs.declared.rules.Rules.{Rules}
use Rattle.register_judge.specs.declared.sitting.Sitting.{Sitting}
use Rattle.register_judge.specs.Checks.{c19, c20, event_checks, first_checks, held_checks, last_checks, late_checks, level_checks, own_checks, successor_checks}
use Rattle.register_judge.specs.Sittings.{is_at_limit}
use Rattle.register_judge.specs.Taking.{item_checks, take, verdict, verdict_of, writes_of}
use Rattle.answer_texts.specs.Answers.{HasItsCheck}

-- there is a check of the number of each finding
abbrev AreNumbered : List Finding → Type 0
AreNumbered [] = Unit {0}
AreNumbered (finding ∷ findings) = IsCheckNumber finding.number × AreNumbered findings

both-numbered : (first second : List Finding) → AreNumbered first → AreNumbered second → AreNumbered (first ++ second)
both-numbered [] second numbered others = others
both-numbered (finding ∷ first) second numbered others = (numbered.0, both-numbered first second numbered.1 others)

first-numbered : (findings : List Finding) (check : FailedCheck) → AreNumbered findings → first_failing findings ≡ Some check → IsCheckNumber check.number
first-numbered [] check numbered is = cc
first-numbered (finding ∷ findings) check numbered is =
    elim finding.fails as (λ b. cond b (Some (record { number = finding.number; detail = finding.detail })) (first_failing findings) ≡ Some check → IsCheckNumber check.number) [
      | true ↦ λ told.
          let own : FailedCheck = record { number = finding.number; detail = finding.detail } in
          let same : own ≡ check = cc in
          let N : FailedCheck → Type 0 = λ c. IsCheckNumber c.number in
          subst N same numbered.0
      | false ↦ λ told. first-numbered findings check numbered.1 told
    ] is

-- ---- the checks on a table

held-numbered : (held : Option RecCell) (sitting : Sitting) (row : Row) → AreNumbered (held_checks held sitting row)
held-numbered None sitting row = (refl, (refl, (refl, (refl, (refl, (refl, tt))))))
held-numbered (Some held) sitting row = (refl, (refl, (refl, (refl, (refl, (refl, tt))))))

first-numbered-successor : (table : Table) (row : Row) (successor : Option Lei) → AreNumbered (first_checks table row successor)
first-numbered-successor table row None = tt
first-numbered-successor table row (Some successor) = (refl, (refl, (refl, tt)))

levels-numbered : (table : Table) (row : Row) (successors : List Lei) → AreNumbered (level_checks table row successors)
levels-numbered table row [] = tt
levels-numbered table row (successor ∷ successors) = (refl, (refl, (refl, tt)))

successors-numbered : (rules : Rules) (table : Table) (row : Row) → AreNumbered (successor_checks rules table row)
successors-numbered Rules.First table row = first-numbered-successor table row (successor_in row)
successors-numbered Rules.Second table row = levels-numbered table row (successors_in row)
successors-numbered Rules.Third table row = levels-numbered table row (successors_in row)

late-numbered : (rules : Rules) (sitting : Sitting) (row : Row) (held : Option RecCell) (full : Bool) → sitting.rules ≡ rules → AreNumbered (late_checks sitting row held full)
late-numbered rules sitting row held full is = (let P : Rules → Type 0 = λ r. AreNumbered (c20 held full ∷ event_checks r sitting.today row) in subst P (sym is) (by rules)) where
  by : (rules : Rules) → AreNumbered (c20 held full ∷ event_checks rules sitting.today row)
  by Rules.First = (refl, tt)
  by Rules.Second = (refl, tt)
  by Rules.Third = (refl, (refl, (refl, tt)))

parts-numbered : (own held followed taken full : List Finding) → AreNumbered own → AreNumbered held → AreNumbered followed → AreNumbered taken → AreNumbered full
    → AreNumbered ((own ++ held ++ followed ++ taken) ++ full)
parts-numbered own held followed taken full of_own of_held of_followed of_taken of_full =
    both-numbered (own ++ held ++ followed ++ taken) full
    (both-numbered (own ++ held ++ followed) taken (both-numbered (own ++ held) followed (both-numbered own held of_own of_held) of_followed) of_taken) of_full

item-numbered : (table : Table) (sitting : Sitting) (item : Item) → AreNumbered (item_checks table sitting item)
item-numbered table sitting (Item.Record row) =
    let held = record_of table (lei_in row) in
    let taken = c19 (other_holder table row) row ∷ [] in
    parts-numbered (own_checks sitting row) (held_checks held sitting row) (successor_checks sitting.rules table row) taken (last_checks table sitting row)
    (refl, (refl, (refl, (refl, (refl, tt))))) (held-numbered held sitting row) (successors-numbered sitting.rules table row) (refl, tt)
    (late-numbered sitting.rules sitting row held (is_at_limit sitting (record_count table)) refl)
item-numbered table sitting (Item.Relation row) = (refl, (refl, (refl, (refl, (refl, (refl, (refl, (refl, (refl, (refl, (refl, tt)))))))))))
item-numbered table sitting (Item.Exception item) = (refl, (refl, (refl, (refl, tt))))

-- ---- the checks of fields

field-numbered : (number : ℕ) (found : Option Text) (others : Option FailedCheck) (check : FailedCheck) → IsCheckNumber number → (others ≡ Some check → IsCheckNumber check.number)
    → option_or (option_map (failed_field number) found) others ≡ Some check → IsCheckNumber check.number
field-numbered number None others check numbered rest is = rest is
field-numbered number (Some name) others check numbered rest is =
    let same : failed_field number name ≡ check = cc in
    let N : FailedCheck → Type 0 = λ c. IsCheckNumber c.number in
    subst N same numbered

last-numbered : (number : ℕ) (found : Option Text) (check : FailedCheck) → IsCheckNumber number → option_map (failed_field number) found ≡ Some check → IsCheckNumber check.number
last-numbered number None check numbered is = cc
last-numbered number (Some name) check numbered is =
    let same : failed_field number name ≡ check = cc in
    let N : FailedCheck → Type 0 = λ c. IsCheckNumber c.number in
    subst N same numbered

fields-numbered : (rules : Rules) (kind : Kind) (pairs : List (Text × Text)) (check : FailedCheck) → failed_check rules kind pairs ≡ Some check → IsCheckNumber check.number
unfolding failed_check
fields-numbered rules kind pairs check is =
    field-numbered 1 (unknown_name rules kind pairs) _ check refl
    (field-numbered 2 (missing_field rules kind pairs) _ check refl
    (field-numbered 3 (misshapen_field rules kind pairs) _ check refl (last-numbered 4 (miscoded_field kind pairs) check refl))) is

-- ---- verdicts

of_failed : (failed : Option FailedCheck) → ((check : FailedCheck) → failed ≡ Some check → IsCheckNumber check.number) → HasItsCheck (verdict_of failed)
of_failed None numbered = tt
of_failed (Some check) numbered = numbered check refl

of_item : (table : Table) (sitting : Sitting) (item : Item) → HasItsCheck (verdict table sitting (Readied.Good item))
of_item table sitting item =
    let findings = item_checks table sitting item in
    of_failed (first_failing findings) (λ check is. first-numbered findings check (item-numbered table sitting item) is)

of_readied : (rules : Rules) (table : Table) (sitting : Sitting) (kind : Kind) (pairs : List (Text × Text)) (failed : Option FailedCheck) → failed_check rules kind pairs ≡ failed
    → HasItsCheck (verdict table sitting (readied_as kind pairs failed))
of_readied rules table sitting kind pairs None is = of_item table sitting (item_of kind (says_withdraw pairs) (row_of kind pairs))
of_readied rules table sitting kind pairs (Some check) is = fields-numbered rules kind pairs check is

of_raw : (rules : Rules) (table : Table) (sitting : Sitting) (raw : RawItem) → HasItsCheck (verdict table sitting (ready rules raw))
of_raw rules table sitting (RawItem.Record pairs) = of_readied rules table sitting Kind.Record pairs (failed_check rules Kind.Record pairs) refl
of_raw rules table sitting (RawItem.Relation pairs) = of_readied rules table sitting Kind.Relation pairs (failed_check rules Kind.Relation pairs) refl
of_raw rules table sitting (RawItem.Exception pairs) = of_readied rules table sitting Kind.Exception pairs (failed_check rules Kind.Exception pairs) refl

pub all_told : (rules : Rules) (table : Table) (sitting : Sitting) (raws : List RawItem) → All HasItsCheck (take table sitting (map (ready rules) raws)).verdicts
all_told rules table sitting [] = All-nil HasItsCheck
all_told rules table sitting (raw ∷ raws) =
    let given = verdict table sitting (ready rules raw) in
    All-cons HasItsCheck given _ (of_raw rules table sitting raw) (all_told rules (put_all (writes_of given (ready rules raw)) table) sitting raws)

-- the text of a check that has one
pub told_text : (told : Option Text) (text bytes : Text) → told ≡ Some text → IfSome told (λ written. bytes ≡ written) → bytes ≡ unwrap_or told []
told_text None text bytes is writes = cc
told_text (Some told) text bytes is writes = writes
