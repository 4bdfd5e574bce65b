-- After a record whose successors pass their checks, each successor is still held and each chain still ends.
use Rattle.std.specs.Prelude.{◌≡◌, ◌≤◌, ℕ, zero, suc, length, slice_get, Bool, true, false, not, ◌&&◌, is_none, cond, List, [], ◌∷◌, if◌then◌else◌, Option, Some, None, IsSome, option_map, option_and_then}
use Rattle.std.specs.List.{Contains, list_any}
use Rattle.std.specs.Option.{option_map_or, option_to_list}
use Rattle.std.specs.Str.{bytes_eq}
use Rattle.std.proofs.Common.{refl, sym, ap, subst, rules, arith, ◌∙◌, inl, inr}
use Rattle.std.proofs.lemmas.Bool.{false_from_ne_true, false≢true, or_parts}
use Rattle.std.proofs.lemmas.List.Elements.{Contains-append_cases}
use Rattle.lei_records.proofs.PassLemmas.{all_pass}
use Rattle.lei_records.specs.Checks.{FailedCheck}
use Rattle.lei_records.specs.declared.check.Detail.{Detail}
use Rattle.lei_records.specs.declared.item.Item.{Item}
use Rattle.lei_records.specs.declared.item.Readied.{Readied}
use Rattle.lei_records.specs.declared.view.RecCell.{RecCell}
use Rattle.lei_records.specs.Cells.{lei_in, rec_cell, successor_in, successors_in}
use Rattle.lei_records.specs.Checks.{fails_if, first_failing}
use Rattle.lei_records.specs.Rows.{Row}
use Rattle.lei_records.specs.Tables.{Table, put, put_all, row_at, record_of}
use Rattle.authority_rules.proofs.HolderLemmas.{bytes_same, bytes_itself, some_apart}
use Rattle.authority_rules.proofs.PutLemmas.{row_at-put}
use Rattle.successor_rules.specs.declared.walks.Walked.{Walked}
use Rattle.successor_rules.specs.Chains.{AllEnd, EndsIn, IsTurned, Nexts}
use Rattle.lei_records.specs.Walks.{NameOne, successor_of, successors_of}
use Rattle.successor_rules.specs.Successors.{SuccessorChainsEnd}
use Rattle.lei_records.specs.Walks.{is_met, is_long}
use Rattle.successor_rules.specs.Levels.{has_wide_levels, is_back}
use Rattle.successor_rules.specs.Walks.{walk_end}
use Rattle.successor_rules.proofs.ClearLemmas.{levels-keep_ends}
use Rattle.successor_rules.proofs.ChainLemmas.{keeps_ends}
use Rattle.successor_rules.proofs.WalkLemmas.{ended_walk_keeps_ends}
use Rattle.lei_records.specs.declared.rules.Rules.{Rules}
use Rattle.register_judge.specs.declared.sitting.Sitting.{Sitting}
use Rattle.register_judge.specs.Checks.{c16, first_checks, level_checks, successor_checks}
use Rattle.register_judge.specs.declared.outcome.Verdict.{Verdict}
use Rattle.register_judge.specs.Fitting.{EachRecord, EachRecordOf, IfRecord, ItemFits, ItemsFit, RowFits, TableFits}
use Rattle.register_judge.specs.Taking.{item_checks, verdict_of, verdict, writes_of, take}
use Rattle.register_judge.proofs.TakingLemmas.{put-written, successors_pass}

-- ---- what the checks of one successor say about it if they pass

held_and_ends : (found : Option RecCell) (met long : Bool)
    → first_failing (c16 found ∷ fails_if met 17 Detail.None ∷ fails_if long 18 Detail.None ∷ []) ≡ None
    → IsSome found × ((if met then Walked.Meets else if long then Walked.Long else Walked.Ends) ≡ Walked.Ends)
held_and_ends None met long e = absurd (some_apart _ e)
held_and_ends (Some cell) true long e = absurd (some_apart _ e)
held_and_ends (Some cell) false true e = absurd (some_apart _ e)
held_and_ends (Some cell) false false e = (refl, refl)

one_passed : (table : Table) (row : Row) (successor : List ℕ) → first_failing (first_checks table row (Some successor)) ≡ None
    → IsSome (record_of table successor) × (walk_end (successor_of table) (lei_in row) successor ≡ Walked.Ends)
one_passed table row successor passes =
    held_and_ends (record_of table successor) (is_met (successor_of table) (lei_in row) successor) (is_long (successor_of table) successor) passes

-- a list of at most one member is the list of its first member, if any
one_or_none : (leis : List (List ℕ)) → length leis ≤ 1 → leis ≡ option_to_list (slice_get leis 0)
one_or_none [] few = refl
one_or_none (lei ∷ []) few = refl
one_or_none (lei ∷ other ∷ leis) few = absurd (omega (arith, few))

-- the checks of the successors pass
abbrev Pass : Rules → Table → Row → Type 0
Pass rules table row = first_failing (successor_checks rules table row) ≡ None

-- ---- each successor is held

row_held : (row : Option Row) → IsSome (option_map rec_cell row) → IsSome row
row_held None held = held
row_held (Some row) held = refl

none_of : (lei : List ℕ) → Contains [] lei → ⊥
none_of lei at = search rules

only_one : (one lei : List ℕ) → Contains (one ∷ []) lei → one ≡ lei
only_one one lei at = search rules

one_held : (table : Table) (row : Row) (successor : Option (List ℕ)) → first_failing (first_checks table row successor) ≡ None
    → (next : List ℕ) → Contains (option_to_list successor) next → IsSome (row_at table next)
one_held table row None passes next at = absurd (none_of next at)
one_held table row (Some successor) passes next at =
    subst (λ lei. IsSome (row_at table lei)) (only_one successor next at) (row_held (row_at table successor) (one_passed table row successor passes).0)

-- if C16 passes, each successor is held
each_held : (table : Table) (successors : List (List ℕ)) → list_any (λ lei. is_none (record_of table lei)) successors ≡ false
    → (next : List ℕ) → Contains successors next → IsSome (row_at table next)
each_held table [] none next at = absurd (none_of next at)
each_held table (successor ∷ successors) none next at =
    let parts = or_parts (is_none (record_of table successor)) (list_any (λ lei. is_none (record_of table lei)) successors) none in
    elim (Contains-append_cases (successor ∷ []) successors next at) [
      | inl here ↦ subst (λ lei. IsSome (row_at table lei)) (only_one successor next here) (row_held (row_at table successor) (not_none (record_of table successor) parts.0))
      | inr later ↦ each_held table successors parts.1 next later
    ]
  where
    not_none : (found : Option RecCell) → is_none found ≡ false → IsSome found
    not_none None is = absurd (false≢true (sym is))
    not_none (Some cell) is = refl

levels_held : (table : Table) (row : Row) (successors : List (List ℕ)) → first_failing (level_checks table row successors) ≡ None
    → (next : List ℕ) → Contains successors next → IsSome (row_at table next)
levels_held table row [] passes next at = absurd (none_of next at)
levels_held table row (successor ∷ successors) passes next at =
    each_held table (successor ∷ successors) (all_pass (level_checks table row (successor ∷ successors)) passes).first next at

named_held : (rules : Rules) (table : Table) (row : Row) → RowFits rules row → Pass rules table row
    → (next : List ℕ) → Contains (successors_in row) next → IsSome (row_at table next)
named_held Rules.First table row fits passes next at =
    one_held table row (successor_in row) passes next (subst (λ leis. Contains leis next) (one_or_none (successors_in row) fits) at)
named_held Rules.Second table row fits passes next at = levels_held table row (successors_in row) passes next at
named_held Rules.Third table row fits passes next at = levels_held table row (successors_in row) passes next at

stays_held : (table : Table) (row : Row) (lei : List ℕ) → IsSome (row_at table lei) → IsSome (row_at (put table (Item.Record row)) lei)
stays_held table row lei held =
    subst IsSome (sym (row_at-put table row lei))
    (elim (bytes_eq lei (lei_in row)) as (λ b. IsSome (cond b (Some row) (row_at table lei))) [ true ↦ refl | false ↦ held ])

all_held : (rules : Rules) (table : Table) (row : Row) → RowFits rules row → SuccessorChainsEnd table → Pass rules table row
    → (lei : List ℕ) (other : Row) (next : List ℕ) → row_at (put table (Item.Record row)) lei ≡ Some other → Contains (successors_in other) next
    → IsSome (row_at (put table (Item.Record row)) next)
all_held rules table row fits chains passes lei other next at names =
    let known : cond (bytes_eq lei (lei_in row)) (Some row) (row_at table lei) ≡ Some other = sym (row_at-put table row lei) ∙ at in
    stays_held table row next
    (elim (bytes_eq lei (lei_in row)) as (λ b. cond b (Some row) (row_at table lei) ≡ Some other → IsSome (row_at table next)) [
      | true ↦ λ is. let same : other ≡ row = cc in named_held rules table row fits passes next (subst (λ r. Contains (successors_in r) next) same names)
      | false ↦ λ is. chains.held lei other next is names
    ] known)

-- ---- each chain ends

-- a record that is put names its own successors, and each other record names those that it named before
turned : (table : Table) (row : Row) → IsTurned (successors_of table) (successors_of (put table (Item.Record row))) (lei_in row) (successors_in row)
turned table row =
    let at : (lei : List ℕ) (own : Bool) → bytes_eq lei (lei_in row) ≡ own
    → successors_of (put table (Item.Record row)) lei ≡ option_map_or successors_in (cond own (Some row) (row_at table lei)) [] =
    λ lei own is. ap (λ r. option_map_or successors_in r []) (row_at-put table row lei ∙ ap (λ b. cond b (Some row) (row_at table lei)) is) in
    record {
      here = at (lei_in row) true (bytes_itself (lei_in row));
      elsewhere = λ lei differ. at lei false (false_from_ne_true _ (λ same. differ (bytes_same lei (lei_in row) same)));
    }

-- if each record names at most one, the lists are those of the first ones
named_alike : (found : Option Row) → ((row : Row) → found ≡ Some row → length (successors_in row) ≤ 1)
    → option_map_or successors_in found [] ≡ option_to_list (option_and_then successor_in found)
named_alike None fits = refl
named_alike (Some row) fits = one_or_none (successors_in row) (fits row refl)

one_of : (table : Table) → NameOne table → (lei : List ℕ) → successors_of table lei ≡ option_to_list (successor_of table lei)
one_of table fits lei = named_alike (row_at table lei) (fits lei)

ends_alike : (n : ℕ) (nexts others : Nexts) (lei : List ℕ) → ((own : List ℕ) → nexts own ≡ others own) → EndsIn n nexts lei → EndsIn n others lei
ends_alike zero nexts others lei alike ends = ends
ends_alike (suc n) nexts others lei alike ends = λ next at.
    ends_alike n nexts others next alike (ends next (subst (λ leis. Contains leis next) (sym (alike lei)) at))

one_ends : (table : Table) (row : Row) (successor : Option (List ℕ)) → NameOne table → RowFits Rules.First row → SuccessorChainsEnd table
    → successor_in row ≡ successor → first_failing (first_checks table row successor) ≡ None → AllEnd (successors_of (put table (Item.Record row)))
one_ends table row None fits one chains names passes =
    let none : successors_in row ≡ [] = one_or_none (successors_in row) one ∙ ap option_to_list names in
    keeps_ends (successors_of table) (successors_of (put table (Item.Record row))) (lei_in row) [] 0 chains.ends
    (subst (IsTurned (successors_of table) (successors_of (put table (Item.Record row))) (lei_in row)) none (turned table row))
    (λ lei at. absurd (none_of lei at))
one_ends table row (Some successor) fits one chains names passes =
    let before : Nexts = λ lei. option_to_list (successor_of table lei) in
    let by_table = turned table row in
    ended_walk_keeps_ends (successor_of table) (successors_of (put table (Item.Record row))) (lei_in row) successor
    (λ lei. let ends = chains.ends lei in (ends.0, ends_alike ends.0 (successors_of table) before lei (one_of table fits) ends.1))
    (record {
      here = by_table.here ∙ (one_or_none (successors_in row) one ∙ ap option_to_list names);
      elsewhere = λ lei differ. by_table.elsewhere lei differ ∙ one_of table fits lei;
    }) (one_passed table row successor passes).1

levels_end : (table : Table) (row : Row) (successors : List (List ℕ)) → SuccessorChainsEnd table → successors_in row ≡ successors
    → first_failing (level_checks table row successors) ≡ None → AllEnd (successors_of (put table (Item.Record row)))
levels_end table row [] chains names passes =
    keeps_ends (successors_of table) (successors_of (put table (Item.Record row))) (lei_in row) [] 0 chains.ends
    (subst (IsTurned (successors_of table) (successors_of (put table (Item.Record row))) (lei_in row)) names (turned table row))
    (λ lei at. absurd (none_of lei at))
levels_end table row (successor ∷ successors) chains names passes =
    let all = successor ∷ successors in
    let own = lei_in row in
    let nexts = successors_of table in
    let pass = all_pass (level_checks table row all) passes in
    levels-keep_ends nexts own all (ended (has_wide_levels nexts own all) (is_back nexts own all) pass.others.first pass.others.others.first)
    (successors_of (put table (Item.Record row))) chains.ends
    (subst (IsTurned nexts (successors_of (put table (Item.Record row))) own) names (turned table row))
  where
    ended : (wide back : Bool) → not wide && back ≡ false → wide ≡ false → (if wide then Walked.Long else if back then Walked.Meets else Walked.Ends) ≡ Walked.Ends
    ended true back cycle long = absurd (false≢true (sym long))
    ended false true cycle long = absurd (false≢true (sym cycle))
    ended false false cycle long = refl

all_end : (rules : Rules) (table : Table) (row : Row) → TableFits rules table → RowFits rules row → SuccessorChainsEnd table → Pass rules table row
    → AllEnd (successors_of (put table (Item.Record row)))
all_end Rules.First table row fits one chains passes = one_ends table row (successor_in row) fits one chains refl passes
all_end Rules.Second table row fits one chains passes = levels_end table row (successors_in row) chains refl passes
all_end Rules.Third table row fits one chains passes = levels_end table row (successors_in row) chains refl passes

-- ---- a record, and items

pub chains-put : (rules : Rules) (table : Table) (row : Row) → TableFits rules table → RowFits rules row → SuccessorChainsEnd table → Pass rules table row
    → SuccessorChainsEnd (put table (Item.Record row))
chains-put rules table row fits one chains passes = record {
  held = all_held rules table row one chains passes;
  ends = all_end rules table row fits one chains passes;
}

-- what holds for each record, and for a record that is put, then holds for each
each-put : (P : Row → Type 0) (table : Table) (row : Row) → EachRecord P table → P row → EachRecord P (put table (Item.Record row))
each-put P table row each own lei other at =
    let known : cond (bytes_eq lei (lei_in row)) (Some row) (row_at table lei) ≡ Some other = sym (row_at-put table row lei) ∙ at in
    elim (bytes_eq lei (lei_in row)) as (λ b. cond b (Some row) (row_at table lei) ≡ Some other → P other) [
      | true ↦ λ is. let same : row ≡ other = cc in subst P same own
      | false ↦ λ is. each lei other is
    ] known

fits-put : (rules : Rules) (table : Table) (item : Item) → TableFits rules table → ItemFits rules (Readied.Good item) → TableFits rules (put table item)
fits-put Rules.First table (Item.Record row) fits one = each-put (λ r. length (successors_in r) ≤ 1) table row fits one
fits-put Rules.First table (Item.Relation row) fits one = fits
fits-put Rules.First table (Item.Exception item) fits one = fits
fits-put Rules.Second table item fits one = tt
fits-put Rules.Third table item fits one = tt

-- after an accepted item each successor is held and each chain ends: relationships and exceptions change no records
accepted_chains : (table : Table) (sitting : Sitting) (item : Item) → TableFits sitting.rules table → ItemFits sitting.rules (Readied.Good item)
    → SuccessorChainsEnd table → first_failing (item_checks table sitting item) ≡ None → SuccessorChainsEnd (put table item)
accepted_chains table sitting (Item.Record row) fits one chains passes =
    chains-put sitting.rules table row fits one chains (successors_pass table sitting row passes)
accepted_chains table sitting (Item.Relation row) fits one chains passes = record { held = chains.held; ends = chains.ends }
accepted_chains table sitting (Item.Exception item) fits one chains passes = record { held = chains.held; ends = chains.ends }

item_chains : (table : Table) (sitting : Sitting) (item : Item) (failed : Option FailedCheck) → TableFits sitting.rules table
    → ItemFits sitting.rules (Readied.Good item) → SuccessorChainsEnd table → first_failing (item_checks table sitting item) ≡ failed
    → SuccessorChainsEnd (put_all (writes_of (verdict_of failed) (Readied.Good item)) table)
item_chains table sitting item None fits one chains is = put-written SuccessorChainsEnd table item (accepted_chains table sitting item fits one chains is)
item_chains table sitting item (Some check) fits one chains is = chains

item_fits : (rules : Rules) (table : Table) (item : Item) (given : Verdict) → TableFits rules table → ItemFits rules (Readied.Good item)
    → TableFits rules (put_all (writes_of given (Readied.Good item)) table)
item_fits rules table item Verdict.Accepted fits one = put-written (TableFits rules) table item (fits-put rules table item fits one)
item_fits rules table item (Verdict.Rejected check) fits one = fits

pub take-fits_rules : (table : Table) (sitting : Sitting) (items : List Readied) → TableFits sitting.rules table → ItemsFit sitting.rules items
    → TableFits sitting.rules (take table sitting items).table
take-fits_rules table sitting [] fits ones = fits
take-fits_rules table sitting (Readied.Bad check ∷ items) fits ones = take-fits_rules table sitting items fits ones.1
take-fits_rules table sitting (Readied.Good item ∷ items) fits ones =
    let given = verdict table sitting (Readied.Good item) in
    take-fits_rules (put_all (writes_of given (Readied.Good item)) table) sitting items (item_fits sitting.rules table item given fits ones.0) ones.1

pub take-chains : (table : Table) (sitting : Sitting) (items : List Readied) → TableFits sitting.rules table → ItemsFit sitting.rules items
    → SuccessorChainsEnd table → SuccessorChainsEnd (take table sitting items).table
take-chains table sitting [] fits ones chains = chains
take-chains table sitting (Readied.Bad check ∷ items) fits ones chains = take-chains table sitting items fits ones.1 chains
take-chains table sitting (Readied.Good item ∷ items) fits ones chains =
    let given = verdict table sitting (Readied.Good item) in
    take-chains (put_all (writes_of given (Readied.Good item)) table) sitting items (item_fits sitting.rules table item given fits ones.0) ones.1
    (item_chains table sitting item (first_failing (item_checks table sitting item)) fits ones.0 chains refl)

-- ---- what each record has

each-item : (P : Row → Type 0) (table : Table) (item : Item) → EachRecord P table → IfRecord P (Readied.Good item) → EachRecord P (put table item)
each-item P table (Item.Record row) each own = each-put P table row each own
each-item P table (Item.Relation row) each own = each
each-item P table (Item.Exception item) each own = each

each-written : (P : Row → Type 0) (table : Table) (item : Item) (given : Verdict) → EachRecord P table → IfRecord P (Readied.Good item)
    → EachRecord P (put_all (writes_of given (Readied.Good item)) table)
each-written P table item Verdict.Accepted each own = put-written (EachRecord P) table item (each-item P table item each own)
each-written P table item (Verdict.Rejected check) each own = each

pub take-each : (P : Row → Type 0) (table : Table) (sitting : Sitting) (items : List Readied) → EachRecord P table → EachRecordOf P items
    → EachRecord P (take table sitting items).table
take-each P table sitting [] each own = each
take-each P table sitting (Readied.Bad check ∷ items) each own = take-each P table sitting items each own.1
take-each P table sitting (Readied.Good item ∷ items) each own =
    let given = verdict table sitting (Readied.Good item) in
    take-each P (put_all (writes_of given (Readied.Good item)) table) sitting items (each-written P table item given each own.0) own.1
