-- In the register after a legal history each successor is held and each way along successors ends, and before the third
-- rules no record reports an event.
use Rattle.std.proofs.Common.{◌≡◌, ◌≢◌, ℕ, ◌≤◌, List, [], ◌∷◌, ◌++◌, map, Bool, true, false, cond, ◌==◌, Option, Some, None, Result, Ok, Err, refl, sym, ap, ◌∙◌, subst, append_assoc, append-nil, arith, rules}
use Rattle.std.specs.List.{Contains}
use Rattle.std.specs.FinMap.{get-empty}
use Rattle.std.proofs.lemmas.Bool.{eqb-true, false≢true}
use Rattle.std.proofs.lemmas.Bool.Decides.{nat_tests}
use Rattle.lei_values.specs.declared.entry.KeptEntry.{KeptEntry}
use Rattle.upload_format.specs.Bodies.{upload}
use Rattle.register_words.specs.declared.malformed.Malformed.{Malformed}
use Rattle.lei_records.specs.Checks.{FailedCheck}
use Rattle.lei_records.specs.Cells.{has_no_event}
use Rattle.item_fields.specs.Fields.{fields}
use Rattle.item_fields.specs.Items.{failed_check, ready, readied_as, row_of}
use Rattle.lei_records.specs.RuleNumbers.{rules_of}
use Rattle.lei_records.specs.Tables.{Table, key_cmp, record_key, row_at}
use Rattle.lei_records.specs.Walks.{NameOne, successors_of}
use Rattle.item_fields.specs.declared.fields.Kind.{Kind}
use Rattle.item_fields.specs.declared.item.RawItem.{RawItem}
use Rattle.lei_records.specs.declared.item.Readied.{Readied}
use Rattle.lei_records.specs.declared.rules.Rules.{Rules}
use Rattle.lei_records.specs.Rows.{Row}
use Rattle.item_fields.proofs.RowLemmas.{no_event, one_named}
use Rattle.successor_rules.specs.Chains.{EndsIn}
use Rattle.successor_rules.specs.Successors.{SuccessorChainsEnd}
use Rattle.register_judge.specs.Fitting.{EachRecord, EachRecordOf, IfRecord, ItemFits, ItemsFit, TableFits}
use Rattle.register_judge.specs.Taking.{take}
use Rattle.register_judge.specs.declared.sitting.Sitting.{Sitting}
use Rattle.register_judge.proofs.ChainLemmas.{take-chains, take-each, take-fits_rules}
use Rattle.register_table.specs.Held.{no_rows}
use Rattle.register_words.specs.declared.limits.Limits.{Limits}
use Rattle.upload_ledger.specs.History.{History, last_entry}
use Rattle.register_history.specs.Legal.{Legal, LegalAfter, last_rules}
use Rattle.register_history.specs.Register.{after, after_entry, entry_items, entry_sitting, readied_items, take_items}
use Rattle.register_history.specs.State.{OfficeState, office_of}
use Rattle.register_history.proofs.Histories.{after-push, follows-within, last_entry-push}

-- ---- items that were read fit the rules that they were read by

readied_as-fits : (rules : Rules) (kind : Kind) (pairs : List (List ℕ × List ℕ)) (failed : Option FailedCheck) → failed_check rules kind pairs ≡ failed → ItemFits rules (readied_as kind pairs failed)
readied_as-fits rules kind pairs (Some check) is = tt
readied_as-fits rules Kind.Relation pairs None is = tt
readied_as-fits rules Kind.Exception pairs None is = tt
readied_as-fits Rules.First Kind.Record pairs None is = one_named pairs is
readied_as-fits Rules.Second Kind.Record pairs None is = tt
readied_as-fits Rules.Third Kind.Record pairs None is = tt

ready-fit : (rules : Rules) (raws : List RawItem) → ItemsFit rules (map (ready rules) raws)
ready-fit rules [] = tt
ready-fit rules (RawItem.Record pairs ∷ raws) = (readied_as-fits rules Kind.Record pairs (failed_check rules Kind.Record pairs) refl, ready-fit rules raws)
ready-fit rules (RawItem.Relation pairs ∷ raws) = (readied_as-fits rules Kind.Relation pairs (failed_check rules Kind.Relation pairs) refl, ready-fit rules raws)
ready-fit rules (RawItem.Exception pairs ∷ raws) = (readied_as-fits rules Kind.Exception pairs (failed_check rules Kind.Exception pairs) refl, ready-fit rules raws)

-- the record reports no event
abbrev pub NoEvent : Row → Type 0
NoEvent row = has_no_event row ≡ true

-- by these rules a record that passes its checks reports no event
abbrev KnowNoEvent : Rules → Type 0
KnowNoEvent rules = (pairs : List (List ℕ × List ℕ)) → failed_check rules Kind.Record pairs ≡ None → NoEvent (row_of Kind.Record pairs)

apart : (number : ℕ) → 1 ≤ number → number ≤ 2 → number ≢ 1 → number ≢ 2 → ⊥
apart number least low not_first not_second = omega (arith, least, low, not_first, not_second)

early-rules : (number : ℕ) → 1 ≤ number → number ≤ 2 → KnowNoEvent (rules_of number)
unfolding fields
early-rules number least low = by (number == 1) (number == 2) refl refl
  where
    by : (first second : Bool) → number == 1 ≡ first → number == 2 ≡ second → KnowNoEvent (cond first Rules.First (cond second Rules.Second Rules.Third))
    by true second one two = no_event Rules.First refl refl refl refl
    by false true one two = no_event Rules.Second refl refl refl refl
    by false false one two = (
        let not_first : number ≢ 1 = λ is. absurd (false≢true (sym one ∙ ap (λ n. n == 1) is)) in
        let not_second : number ≢ 2 = λ is. absurd (false≢true (sym two ∙ ap (λ n. n == 2) is)) in
        absurd (apart number least low not_first not_second))

readied_as-plain : (rules : Rules) (pairs : List (List ℕ × List ℕ)) (failed : Option FailedCheck) → KnowNoEvent rules → failed_check rules Kind.Record pairs ≡ failed
    → IfRecord NoEvent (readied_as Kind.Record pairs failed)
readied_as-plain rules pairs (Some check) plain is = tt
readied_as-plain rules pairs None plain is = plain pairs is

other-readied : (kind : Kind) (pairs : List (List ℕ × List ℕ)) (failed : Option FailedCheck) → (kind ≡ Kind.Record → ⊥) → IfRecord NoEvent (readied_as kind pairs failed)
other-readied kind pairs (Some check) other = tt
other-readied Kind.Record pairs None other = absurd (other refl)
other-readied Kind.Relation pairs None other = tt
other-readied Kind.Exception pairs None other = tt

ready-plain : (rules : Rules) (raws : List RawItem) → KnowNoEvent rules → EachRecordOf NoEvent (map (ready rules) raws)
ready-plain rules [] plain = tt
ready-plain rules (RawItem.Record pairs ∷ raws) plain = (readied_as-plain rules pairs (failed_check rules Kind.Record pairs) plain refl, ready-plain rules raws plain)
ready-plain rules (RawItem.Relation pairs ∷ raws) plain = (other-readied Kind.Relation pairs (failed_check rules Kind.Relation pairs) (λ is. cc), ready-plain rules raws plain)
ready-plain rules (RawItem.Exception pairs ∷ raws) plain = (other-readied Kind.Exception pairs (failed_check rules Kind.Exception pairs) (λ is. cc), ready-plain rules raws plain)

read-plain : (rules : Rules) (read : Result (List RawItem) Malformed) → KnowNoEvent rules → EachRecordOf NoEvent (readied_items rules read)
read-plain rules (Ok raws) plain = ready-plain rules raws plain
read-plain rules (Err fault) plain = tt

read-fit : (rules : Rules) (read : Result (List RawItem) Malformed) → ItemsFit rules (readied_items rules read)
read-fit rules (Ok raws) = ready-fit rules raws
read-fit rules (Err fault) = tt

-- ---- the table after an entry

-- the successors of a table end; while the last entry's rules are the first, its records name at most one successor,
-- and while they are the first or the second, no record reports an event
record IsChained (number : ℕ) (table : Table) : Type 0 where
  chains : SuccessorChainsEnd table
  one : number ≤ 1 → NameOne table
  plain : number ≤ 2 → EachRecord NoEvent table

-- the same after items that were taken by these rules
taken-chained : (number : ℕ) (table : Table) (sitting : Sitting) (items : List Readied) → sitting.rules ≡ rules_of number → TableFits sitting.rules table → ItemsFit sitting.rules items
    → SuccessorChainsEnd table → 1 ≤ number → (number ≤ 2 → EachRecord NoEvent table) → (number ≤ 2 → EachRecordOf NoEvent items)
    → IsChained number (take table sitting items).table
taken-chained number table sitting items are fits ones chains least held sent = record {
  chains = take-chains table sitting items fits ones chains;
  one = λ low.
      let first : number == 1 ≡ true = grind (arith, nat_tests) in
      let of_first : sitting.rules ≡ Rules.First = are ∙ ap (λ b. cond b Rules.First (cond (number == 2) Rules.Second Rules.Third)) first in
      subst (λ rules. TableFits rules (take table sitting items).table) of_first (take-fits_rules table sitting items fits ones);
  plain = λ low. take-each NoEvent table sitting items (held low) (sent low);
}

-- a table made by the previous rules fits the rules of an entry
table-fits : (before number : ℕ) (table : Table) → IsChained before table → before ≤ number → TableFits (rules_of number) table
table-fits before number table is rising = by (number == 1) refl
  where
    later : (second : Bool) → TableFits (cond second Rules.Second Rules.Third) table
    later true = tt
    later false = tt

    by : (first : Bool) → number == 1 ≡ first → TableFits (cond first Rules.First (cond (number == 2) Rules.Second Rules.Third)) table
    by true one = (let own = eqb-true number 1 one in is.one (omega (arith, own, rising)))
    by false one = later (number == 2)

entry-chained : (limits : Limits) (before : ℕ) (table : Table) (e : KeptEntry) → IsChained before table → before ≤ e.rules → 1 ≤ e.rules → IsChained e.rules (after_entry limits table e)
entry-chained limits before table e is rising least =
    let fits = table-fits before e.rules table is rising in
    elim (e.kind == 2) as (λ b. IsChained e.rules (cond b (take_items limits table e (entry_items e)).table table)) [
      | true ↦ taken-chained e.rules table (entry_sitting limits e) (entry_items e) refl fits (read-fit (rules_of e.rules) (upload e.body)) is.chains least
          (λ low. is.plain (omega (arith, low, rising))) (λ low. read-plain (rules_of e.rules) (upload e.body) (early-rules e.rules least low))
      | false ↦ record {
        chains = is.chains;
        one = λ low. is.one (omega (arith, low, rising));
        plain = λ low. is.plain (omega (arith, low, rising));
      }
    ]

-- ---- the table after a history

after-chained : (limits : Limits) (before rest : History) → LegalAfter limits before rest → IsChained (last_rules (last_entry before)) (after limits before)
    → IsChained (last_rules (last_entry (before ++ rest))) (after limits (before ++ rest))
after-chained limits before [] legal is =
    (let P : History → Type 0 = λ h. IsChained (last_rules (last_entry h)) (after limits h) in subst P (sym (append-nil before)) is)
after-chained limits before (e ∷ rest) legal is =
    let follows = follows-within before e.rules legal.0.4 in
    let with_entry : IsChained e.rules (after limits (before ++ e ∷ [])) =
    subst (IsChained e.rules) (sym (after-push limits before e)) (entry-chained limits (last_rules (last_entry before)) (after limits before) e is follows.rising follows.least) in
    let pushed : IsChained (last_rules (last_entry (before ++ e ∷ []))) (after limits (before ++ e ∷ [])) =
    subst (λ o. IsChained (last_rules o) (after limits (before ++ e ∷ []))) (sym (last_entry-push before e)) with_entry in
    let P : History → Type 0 = λ h. IsChained (last_rules (last_entry h)) (after limits h) in
    subst P (append_assoc before (e ∷ []) rest) (after-chained limits (before ++ e ∷ []) rest legal.1 pushed)

is_some-none : {X : Type 0} (x : X) (found : Option X) → found ≡ None → found ≡ Some x → ⊥
is_some-none x found none some = cc

-- if there are no rows, nothing is named
none-held : (lei : List ℕ) → row_at no_rows lei ≡ None
none-held lei = get-empty key_cmp (record_key lei)

none-named : (lei next : List ℕ) → Contains (successors_of no_rows lei) next → EndsIn 0 (successors_of no_rows) next
none-named lei next at =
    let empty : successors_of no_rows lei ≡ [] = rw (none-held lei) refl in
    nothing next (subst (λ nexts. Contains nexts next) empty at) where
      nothing : (next : List ℕ) → Contains [] next → ⊥
      nothing next at = search rules

none-chained : IsChained 1 no_rows
none-chained = record {
  chains = record {
    held = λ lei row next at. absurd (is_some-none row _ (none-held lei) at);
    ends = λ lei. (1, none-named lei);
  };
  one = λ low lei row at. absurd (is_some-none row _ (none-held lei) at);
  plain = λ low lei row at. absurd (is_some-none row _ (none-held lei) at);
}

none-after : (limits : Limits) → IsChained 1 (after limits [])
unfolding after
none-after limits = none-chained

pub legal-chained : (office : OfficeState) → Legal office → SuccessorChainsEnd (after office.limits office.history)
unfolding Legal
legal-chained office legal = (after-chained office.limits [] office.history legal (none-after office.limits)).chains

-- before the third rules no record reports an event
pub legal-plain : (limits : Limits) (history : History) → Legal (office_of limits history) → last_rules (last_entry history) ≤ 2 → EachRecord NoEvent (after limits history)
unfolding Legal
legal-plain limits history legal low = (after-chained limits [] history legal (none-after limits)).plain low
