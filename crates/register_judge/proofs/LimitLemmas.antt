-- Limits that the items don't exceed: each of them gives the same result.
use Rattle.std.specs.Prelude.{◌≡◌, ◌≤◌, ◌+◌, ℕ, ℤ, List, [], ◌∷◌, Bool, true, false, ◌&&◌, if◌then◌else◌, nat_le, Option, Some, None, is_none}
use Rattle.std.specs.Option.{option_or}
use Rattle.std.proofs.Common.{refl, sym, ap, subst, ◌∙◌, arith}
use Rattle.std.proofs.lemmas.Bool.Decides.{nat_tests}
use Rattle.lei_records.proofs.PassLemmas.{first_failing-append}
use Rattle.lei_records.specs.Cells.{lei_in}
use Rattle.lei_records.specs.Checks.{FailedCheck, Finding, first_failing}
use Rattle.lei_records.specs.Tables.{IsSoundTable, Table, put_all, record_count, record_of}
use Rattle.lei_records.specs.declared.item.Item.{Item}
use Rattle.lei_records.specs.declared.item.Readied.{Readied}
use Rattle.lei_records.specs.declared.view.RecCell.{RecCell}
use Rattle.register_judge.specs.declared.outcome.Outcome.{Outcome}
use Rattle.register_judge.specs.declared.outcome.Verdict.{Verdict}
use Rattle.lei_records.specs.RuleNumbers.{newest}
use Rattle.lei_records.specs.declared.rules.Rules.{Rules}
use Rattle.register_judge.specs.declared.sitting.Sitting.{Sitting}
use Rattle.cell_reads.specs.Reads.{Agrees}
use Rattle.register_judge.specs.Agreement.{IsAgreed}
use Rattle.register_judge.specs.Checks.{c20, earlier_checks, event_checks, last_checks}
use Rattle.register_judge.specs.Judging.{records_added}
use Rattle.register_judge.specs.Outcomes.{Shows}
use Rattle.register_judge.specs.Sittings.{sitting_by}
use Rattle.register_judge.specs.Taking.{Taken, in_front, is_new_record, take, verdict, verdict_of, writes_of}
use Rattle.register_judge.proofs.TakingLemmas.{CellsTell, after_item, cells-tell}

-- one if it is new
abbrev one_if : Bool → ℕ
one_if new = if new then 1 else 0

-- there is room under both limits
same_room : (small big count : ℕ) → small ≤ big → count + 1 ≤ small → nat_le small count ≡ nat_le big count
same_room small big count less fits = grind (arith, nat_tests)

-- C20 has the same result after the earlier checks, if a new record fits
same_check : (earlier : Option FailedCheck) (held : Option RecCell) (later : List Finding) (small big count : ℕ) → small ≤ big → count + one_if (is_none held && is_none earlier) ≤ small
    → option_or earlier (first_failing (c20 held (nat_le small count) ∷ later)) ≡ option_or earlier (first_failing (c20 held (nat_le big count) ∷ later))
same_check (Some check) held later small big count less fits = refl
same_check None (Some cell) later small big count less fits = refl
same_check None None later small big count less fits = ap (λ full. first_failing (c20 None full ∷ later)) (same_room small big count less fits)

module _ (rules : Rules) (today : ℤ) (issuer : List ℕ) where
  -- the sitting with this limit
  abbrev limited : ℕ → Sitting
  limited limit = sitting_by rules limit today issuer

  same_verdict : (table : Table) (small big : ℕ) (item : Readied) → small ≤ big → record_count table + one_if (is_new_record table (limited big) item) ≤ small
      → verdict table (limited small) item ≡ verdict table (limited big) item
  same_verdict table small big (Readied.Bad check) less fits = refl
  same_verdict table small big (Readied.Good (Item.Relation item)) less fits = refl
  same_verdict table small big (Readied.Good (Item.Exception item)) less fits = refl
  same_verdict table small big (Readied.Good (Item.Record item)) less fits =
      let earlier = earlier_checks table (limited big) item in
      ap verdict_of (first_failing-append earlier (last_checks table (limited small) item)
      ∙ (same_check (first_failing earlier) (record_of table (lei_in item)) (event_checks rules today item) small big (record_count table) less fits
      ∙ sym (first_failing-append earlier (last_checks table (limited big) item))))

  -- whether an item is a new record doesn't depend on the limit
  same_new : (table : Table) (small big : ℕ) (item : Readied) → is_new_record table (limited small) item ≡ is_new_record table (limited big) item
  same_new table small big (Readied.Bad check) = refl
  same_new table small big (Readied.Good (Item.Relation item)) = refl
  same_new table small big (Readied.Good (Item.Exception item)) = refl
  same_new table small big (Readied.Good (Item.Record item)) = refl

  -- an item adds a record only if it is new
  few_added : (given : Verdict) (new : Bool) → records_added given new ≤ one_if new
  few_added Verdict.Accepted true = omega arith
  few_added Verdict.Accepted false = omega arith
  few_added (Verdict.Rejected check) new = omega arith

  first_fits : (count new rest small : ℕ) → count + (new + rest) ≤ small → count + new ≤ small
  first_fits count new rest small fits = omega arith

  rest_fits : (count added later new rest small : ℕ) → later ≡ count + added → added ≤ new → count + (new + rest) ≤ small → later + rest ≤ small
  rest_fits count added later new rest small is few fits = omega arith

  pub take-fits : (table : Table) (small big : ℕ) (items : List Readied) → CellsTell table → small ≤ big
      → record_count table + (take table (limited big) items).new_records ≤ small
      → take table (limited small) items ≡ take table (limited big) items
  take-fits table small big [] told less fits = refl
  take-fits table small big (item ∷ items) told less fits =
      let given = verdict table (limited big) item in
      let new = is_new_record table (limited big) item in
      let next = put_all (writes_of given item) table in
      let after = after_item table (limited big) item told in
      let rest = take next (limited big) items in
      let same = same_verdict table small big item less (first_fits (record_count table) (one_if new) rest.new_records small fits) in
      let front : Verdict → Bool → Taken = λ v n. in_front v (writes_of v item) n (take (put_all (writes_of v item) table) (limited small) items) in
      (λ i. front (same i) (same_new table small big item i))
      ∙ ap (in_front given (writes_of given item) new) (take-fits next small big items after.told less
      (rest_fits (record_count table) (records_added given new) (record_count next) (one_if new) rest.new_records small after.count (few_added given new) fits))

below_more : (count limit most : ℕ) → limit ≤ most → limit ≤ count + most
below_more count limit most less = omega arith

pub plan-taken : (outcome : Outcome) (limit : ℕ) (today : ℤ) (issuer : List ℕ) (items : List Readied) (table : Table)
    → IsAgreed outcome 4294967295 today issuer items → IsSoundTable table → Agrees outcome.reads table
    → record_count table + outcome.new_records ≤ limit → limit ≤ 4294967295
    → (let taken = take table (sitting_by newest limit today issuer) items in Shows outcome taken.verdicts taken.writes taken.new_records)
plan-taken outcome limit today issuer items table agreed sound agrees fits less =
    let big = record_count table + 4294967295 in
    let shows = agreed table sound agrees in
    let P : Taken → Type 0 = λ taken. Shows outcome taken.verdicts taken.writes taken.new_records in
    let few : record_count table + (take table (sitting_by newest big today issuer) items).new_records ≤ limit =
    subst (λ n. record_count table + n ≤ limit) shows.new_are fits in
    subst P (sym (take-fits newest today issuer table limit big items (cells-tell table sound) (below_more (record_count table) limit 4294967295 less) few)) shows
