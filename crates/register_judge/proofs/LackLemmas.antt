-- A cell at which judging stops is one that the view lacks and that one of the items needs.
use Rattle.std.specs.Prelude.{◌≡◌, ℕ, List, [], ◌∷◌, ◌++◌, Bool, true, false, ◌&&◌, not, cond, slice_get, Option, Some, None, Result, Ok, Err, IsTrue}
use Rattle.std.specs.List.{Contains}
use Rattle.std.specs.Str.{bytes_eq}
use mathlib.Core.Logic.{inl, inr}
use Rattle.std.proofs.Common.{refl, sym, ap, subst, ◌∙◌, arith}
use Rattle.std.proofs.lemmas.List.Elements.{Contains-append_left, Contains-append_right}
use Rattle.lei_shapes.specs.declared.lists.ExceptionCategory.{ExceptionCategory}
use Rattle.lei_code.specs.Texts.{Text}
use Rattle.lei_records.proofs.FindLemmas.{find-member, find-passes}
use Rattle.lei_records.specs.Cells.{Cells, akey, holds, is_live, lei_in, rec_cell, successor_in, successors_in}
use Rattle.lei_records.specs.Checks.{FailedCheck, first_failing}
use Rattle.lei_records.specs.Exceptions.{exception_category_in, is_same_category, subject_in}
use Rattle.lei_records.specs.Relations.{end_in, is_active, rel_cell}
use Rattle.lei_records.specs.Rows.{Row}
use Rattle.lei_records.specs.Tables.{seen_fact}
use Rattle.lei_records.specs.Walks.{is_long, is_met, walk_members}
use Rattle.lei_records.specs.declared.item.Item.{Item}
use Rattle.lei_records.specs.declared.item.Readied.{Readied}
use Rattle.lei_records.specs.declared.view.CellKey.{CellKey}
use Rattle.lei_records.specs.declared.view.RecCell.{RecCell}
use Rattle.lei_records.specs.declared.view.RowKey.{RowKey}
use Rattle.lei_records.specs.declared.view.Seen.{Seen}
use Rattle.authority_rules.specs.Taken.{seen_holder, taken, unless_own}
use Rattle.successor_rules.specs.declared.walks.Walked.{Walked}
use Rattle.successor_rules.specs.Successors.{seen_successor, successor_seen, successors_seen, walk, walk_by_levels}
use Rattle.successor_rules.specs.Levels.{known_nexts, lacks_nexts, reachable}
use Rattle.successor_rules.proofs.ReachLemmas.{spread-lacks}
use Rattle.successor_rules.specs.Walks.{first_lacking_member, is_unknown, known_next, unless_lacking}
use Rattle.relation_rules.proofs.NeedLemmas.{exception_told, relation_told}
use Rattle.relation_rules.specs.declared.checked.Checked.{Checked}
use Rattle.relation_rules.specs.Checking.{check_walked, checked_of, on_seen, unless_failed}
use Rattle.relation_rules.specs.Checks.{is_direct_parent, is_from}
use Rattle.relation_rules.specs.Needs.{IsNeeded, exception_names, is_lacking, lacks, relation_names}
use Rattle.cell_reads.proofs.NoteLemmas.{first_named}
use Rattle.cell_reads.specs.Needs.{key_names, needs, parent_key, parent_walk, parents_in, record_names, level_walk, next_successors, record_walk, successor_names, successor_walk, next_successor}
use Rattle.register_judge.specs.declared.judge.ItemOutcome.{ItemOutcome}
use Rattle.lei_records.specs.declared.rules.Rules.{Rules}
use Rattle.register_judge.specs.declared.sitting.Sitting.{Sitting}
use Rattle.register_judge.specs.Agreement.{IsNeededIn}
use Rattle.register_judge.specs.Checks.{c16, c19}
use Rattle.register_judge.specs.Judging.{Judgement, before, cells_after, check_key, check_named, check_record, check_each, check_first, check_levels, check_successors, check_with_held, count_after, item_in_front, judge_item, judge_items, key_cell, item_outcome_by, put_writes}
use Rattle.register_judge.specs.Overlays.{is_between, put_exception, put_in_view, put_record, put_relation}
use Rattle.register_judge.specs.Sittings.{is_at_limit}
use Rattle.register_judge.specs.Taking.{writes_of}
use Rattle.register_judge.proofs.ItemLemmas.{Contains-map}
use Rattle.register_judge.proofs.MonotonyLemmas.{contained}
use Rattle.register_judge.proofs.ReadLemmas.{put_writes-append}

-- ---- what is lacking over accepted items is lacking below them

cond_lacking : {X : Type 0} (test : Bool) (put below : Seen X) → is_lacking put ≡ false → is_lacking (cond test put below) ≡ true → is_lacking below ≡ true
cond_lacking true put below known lacking = cc
cond_lacking false put below known lacking = lacking

-- an answer without the own one is lacking if and only if the answer is
own_lacking : (own : List ℕ) (seen : Seen (List ℕ)) → is_lacking (unless_own own seen) ≡ is_lacking seen
own_lacking own Seen.Empty = refl
own_lacking own Seen.Missing = refl
own_lacking own (Seen.Held lei) =
    elim (bytes_eq lei own) as (λ b. is_lacking (cond b Seen.Empty (Seen.Held lei)) ≡ false) [ true ↦ refl | false ↦ refl ]

record_lacking : (cells : Cells) (row : Row) (key : CellKey) → IsTrue (lacks (put_record cells row) key) → IsTrue (lacks cells key)
record_lacking cells row (CellKey.Rec lei) lacking = cond_lacking (bytes_eq lei (lei_in row)) (Seen.Held (rec_cell row)) (cells.record_cell lei) refl lacking
record_lacking cells row (CellKey.Rel start kind end) lacking = lacking
record_lacking cells row (CellKey.Exc lei category) lacking = lacking
record_lacking cells row (CellKey.Key authority id) lacking =
    sym (own_lacking (lei_in row) (cells.holder authority id))
    ∙ cond_lacking (holds authority id row) (Seen.Held (lei_in row)) (unless_own (lei_in row) (cells.holder authority id)) refl lacking
record_lacking cells row (CellKey.Act start kind) lacking = lacking

active_lacking : (active of_them : Bool) (end : List ℕ) (below : Seen (List ℕ))
    → is_lacking (cond of_them (cond active (Seen.Held end) (unless_own end below)) below) ≡ true → is_lacking below ≡ true
active_lacking active false end below lacking = lacking
active_lacking true true end below lacking = cc
active_lacking false true end below lacking = sym (own_lacking end below) ∙ lacking

relation_lacking : (cells : Cells) (row : Row) (key : CellKey) → IsTrue (lacks (put_relation cells row) key) → IsTrue (lacks cells key)
relation_lacking cells row (CellKey.Rec lei) lacking = lacking
relation_lacking cells row (CellKey.Rel start kind end) lacking =
    cond_lacking (is_between start kind end row) (Seen.Held (rel_cell row)) (cells.relation start kind end) refl lacking
relation_lacking cells row (CellKey.Exc lei category) lacking = lacking
relation_lacking cells row (CellKey.Key authority id) lacking = lacking
relation_lacking cells row (CellKey.Act start kind) lacking =
    active_lacking (is_active row) (is_from start kind row) (end_in row) (cells.active start kind) lacking

fact_known : (stands : Bool) → is_lacking (seen_fact stands) ≡ false
fact_known true = refl
fact_known false = refl

exception_lacking : (cells : Cells) (lei : List ℕ) (category : ExceptionCategory) (stands : Bool) (key : CellKey)
    → IsTrue (lacks (put_exception cells lei category stands) key) → IsTrue (lacks cells key)
exception_lacking cells lei category stands (CellKey.Rec own) lacking = lacking
exception_lacking cells lei category stands (CellKey.Rel start kind end) lacking = lacking
exception_lacking cells lei category stands (CellKey.Exc own other) lacking =
    cond_lacking (bytes_eq lei own && is_same_category category other) (seen_fact stands) (cells.exception own other) (fact_known stands) lacking
exception_lacking cells lei category stands (CellKey.Key authority id) lacking = lacking
exception_lacking cells lei category stands (CellKey.Act start kind) lacking = lacking

put_lacking : (cells : Cells) (write : RowKey × Option Item) (key : CellKey) → IsTrue (lacks (put_in_view cells write) key) → IsTrue (lacks cells key)
put_lacking cells (row_key, Some (Item.Record row)) key lacking = record_lacking cells row key lacking
put_lacking cells (row_key, Some (Item.Relation row)) key lacking = relation_lacking cells row key lacking
put_lacking cells (row_key, Some (Item.Exception item)) key lacking =
    exception_lacking cells (subject_in item.0) (exception_category_in item.0) (not item.1) key lacking
put_lacking cells (RowKey.Exc lei category, None) key lacking = exception_lacking cells lei category false key lacking
put_lacking cells (RowKey.Rec lei, None) key lacking = lacking
put_lacking cells (RowKey.Rel start kind end, None) key lacking = lacking

puts_lacking : (writes : List (RowKey × Option Item)) (cells : Cells) (key : CellKey) → IsTrue (lacks (put_writes writes cells) key) → IsTrue (lacks cells key)
puts_lacking [] cells key lacking = lacking
puts_lacking (write ∷ writes) cells key lacking = put_lacking cells write key (puts_lacking writes (put_in_view cells write) key lacking)

-- ---- what reports a missing cell

-- a check that failed reports none
unless_told : (failed : Option FailedCheck) (next : Checked) (key : CellKey) → unless_failed failed next ≡ Checked.Missing key → next ≡ Checked.Missing key
unless_told None next key is = is
unless_told (Some check) next key is = cc

never_told : (failed : Option FailedCheck) (key : CellKey) → checked_of failed ≡ Checked.Missing key → ⊥
never_told None key is = cc
never_told (Some check) key is = cc

-- a cell that is read is reported if it is missing, or what follows reports one
seen_told : {X : Type 0} (seen : Seen X) (own : CellKey) (next : Option X → Checked) (key : CellKey) (G : Type 0) → on_seen seen own next ≡ Checked.Missing key
    → (is_lacking seen ≡ true → own ≡ key → G) → ((cell : Option X) → next cell ≡ Checked.Missing key → G) → G
seen_told (Seen.Held x) own next key G is here there = there (Some x) is
seen_told Seen.Empty own next key G is here there = there None is
seen_told Seen.Missing own next key G is here there = here refl (cc)

walk_told : (walked : Walked) (next : Checked) (key : CellKey) (G : Type 0) → check_walked 17 18 walked next ≡ Checked.Missing key
    → (walked ≡ Walked.Missing key → G) → (next ≡ Checked.Missing key → G) → G
walk_told Walked.Meets next key G is here there = cc
walk_told Walked.Long next key G is here there = cc
walk_told Walked.Ends next key G is here there = there is
walk_told (Walked.Missing own) next key G is here there = here (let same : own ≡ key = cc in ap Walked.Missing same)

lacked : (own : List ℕ → CellKey) (met : Bool) (lacks : Option (List ℕ)) (long : Bool) (key : CellKey)
    → cond met Walked.Meets (unless_lacking own lacks (cond long Walked.Long Walked.Ends)) ≡ Walked.Missing key
    → (lei : List ℕ) × (lacks ≡ Some lei) × (own lei ≡ key)
lacked own true lacks long key is = cc
lacked own false None true key is = cc
lacked own false None false key is = cc
lacked own false (Some lei) long key is = (lei, refl, cc)

-- what a record names, a successor or none, isn't missing
named_known : (successor : Option (List ℕ)) → is_unknown (seen_successor successor) ≡ false
named_known None = refl
named_known (Some lei) = refl

successor_lacking : (seen : Seen RecCell) → is_unknown (successor_seen seen) ≡ is_lacking seen
successor_lacking (Seen.Held cell) = named_known (slice_get cell.successors 0)
successor_lacking Seen.Empty = refl
successor_lacking Seen.Missing = refl

nexts_lacking : (seen : Seen RecCell) → lacks_nexts (successors_seen seen) ≡ is_lacking seen
nexts_lacking (Seen.Held cell) = refl
nexts_lacking Seen.Empty = refl
nexts_lacking Seen.Missing = refl

-- ---- a record

module _ (rules : Rules) (cells : Cells) (item : Row) (key : CellKey) where
  abbrev record_needs : List CellKey
  record_needs = record_names item ++ record_walk rules cells item

  -- the view lacks the cell, and the record needs it
  abbrev Told : Type 0
  Told = IsTrue (lacks cells key) × Contains record_needs key

  needed_told : (own : CellKey) → Contains record_needs own → lacks cells own ≡ true → own ≡ key → Told
  needed_told own at lacking same = (ap (lacks cells) (sym same) ∙ lacking, subst (Contains record_needs) same at)

  named_told : (own : CellKey) → Contains (record_names item) own → lacks cells own ≡ true → own ≡ key → Told
  named_told own at = needed_told own (Contains-append_left (record_names item) (record_walk rules cells item) own at)

  others_at : (own : CellKey) → Contains (key_names (akey item) ++ successor_names (successors_in item)) own → Contains (record_names item) own
  others_at own at = Contains-append_right (CellKey.Rec (lei_in item) ∷ []) (key_names (akey item) ++ successor_names (successors_in item)) own at

  holder_told : (authority_key : Option (Text × Text)) → akey item ≡ authority_key
      → on_seen (unless_own (lei_in item) (seen_holder cells authority_key)) (key_cell authority_key) (λ other. checked_of (first_failing (c19 other item ∷ []))) ≡ Checked.Missing key
      → Told
  holder_told None is told = absurd (never_told _ key told)
  holder_told (Some pair) is told =
      let own = CellKey.Key pair.0 pair.1 in
      let seen = cells.holder pair.0 pair.1 in
      seen_told (unless_own (lei_in item) seen) own _ key Told told
      (λ lacking same. named_told own (others_at own (Contains-append_left (key_names (akey item)) (successor_names (successors_in item)) own
      (subst (λ k. Contains (key_names k) own) (sym is) (0, omega arith, refl)))) (sym (own_lacking (lei_in item) seen) ∙ lacking) same)
      (λ other never. absurd (never_told _ key never))

  key_told : check_key cells item ≡ Checked.Missing key → Told
  key_told is =
      elim (is_live item) as (λ b.
      cond b (on_seen (taken cells item) (key_cell (akey item)) (λ other. checked_of (first_failing (c19 other item ∷ [])))) Checked.Passes ≡ Checked.Missing key → Told) [
        | true ↦ λ told. holder_told (akey item) refl told
        | false ↦ λ told. cc
      ] is

-- by the first rules
module _ (cells : Cells) (item : Row) (key : CellKey) where
  of_walk_told : (successor : List ℕ) → successor_in item ≡ Some successor → walk cells (lei_in item) successor ≡ Walked.Missing key → Told Rules.First cells item key
  of_walk_told successor names is =
      let answers = next_successor cells in
      let found = lacked CellKey.Rec (is_met (known_next answers) (lei_in item) successor) (first_lacking_member answers successor) (is_long (known_next answers) successor) key is in
      let test : List ℕ → Bool = λ lei. is_unknown (answers lei) in
      let all = walk_members 200 (known_next answers) successor in
      let own = CellKey.Rec found.0 in
      let of_walk : Contains (successor_walk cells (successor_in item)) own =
      subst (λ s. Contains (successor_walk cells s) own) (sym names) (Contains-map CellKey.Rec all found.0 (find-member test all found.0 found.1)) in
      needed_told Rules.First cells item key own (Contains-append_right (record_names item) (successor_walk cells (successor_in item)) own of_walk)
      (sym (successor_lacking (cells.record_cell found.0)) ∙ find-passes test all found.0 found.1) found.2

  first_told : (successor : Option (List ℕ)) → successor_in item ≡ successor → check_first cells item successor ≡ Checked.Missing key → Told Rules.First cells item key
  first_told None names is = key_told Rules.First cells item key is
  first_told (Some successor) names is =
      let own = CellKey.Rec successor in
      let G = Told Rules.First cells item key in
      seen_told (cells.record_cell successor) own (check_named cells item successor) key G is
      (named_told Rules.First cells item key own (others_at Rules.First cells item key own (Contains-append_right (key_names (akey item)) (successor_names (successors_in item)) own
      (first_named (successors_in item) successor names))))
      (λ found rest. walk_told (walk cells (lei_in item) successor) (check_key cells item) key G
      (unless_told _ (check_walked 17 18 (walk cells (lei_in item) successor) (check_key cells item)) key rest)
      (of_walk_told successor names) (key_told Rules.First cells item key))

-- by the rules that walk level by level
module _ (rules : Rules) (cells : Cells) (item : Row) (key : CellKey) (by_levels : record_walk rules cells item ≡ level_walk cells (lei_in item) (successors_in item)) where
  abbrev ToldNow : Type 0
  ToldNow = Told rules cells item key

  each_told : (successors : List (List ℕ)) (next : Checked) → ((lei : List ℕ) → Contains successors lei → Contains (successors_in item) lei)
      → check_each cells successors next ≡ Checked.Missing key → (next ≡ Checked.Missing key → ToldNow) → ToldNow
  each_told [] next seen_successor is then = then is
  each_told (successor ∷ successors) next seen_successor is then =
      let own = CellKey.Rec successor in
      seen_told (cells.record_cell successor) own _ key ToldNow is
      (named_told rules cells item key own (others_at rules cells item key own
      (Contains-append_right (key_names (akey item)) (successor_names (successors_in item)) own
      (Contains-map CellKey.Rec (successors_in item) successor (seen_successor successor (0, omega arith, refl))))))
      (λ found rest. each_told successors next (λ lei at. seen_successor lei (Contains-append_right (successor ∷ []) successors lei at))
      (unless_told (first_failing (c16 found ∷ [])) (check_each cells successors next) key rest) then)

  spread_wants : (successors : List (List ℕ)) → successors_in item ≡ successors → walk_by_levels cells (lei_in item) successors ≡ Walked.Missing key → ToldNow
  spread_wants successors are is =
      let answers = next_successors cells in
      let found = spread-lacks answers CellKey.Rec (lei_in item) successors key is in
      let all = reachable (known_nexts answers) (lei_in item) successors in
      let own = CellKey.Rec found.0 in
      let of_walk : Contains (record_walk rules cells item) own =
      subst (λ walk. Contains walk own) (sym by_levels)
      (subst (λ leis. Contains (level_walk cells (lei_in item) leis) own) (sym are) (Contains-map CellKey.Rec all found.0 (contained all found.0 found.2))) in
      needed_told rules cells item key own (Contains-append_right (record_names item) (record_walk rules cells item) own of_walk)
      (sym (nexts_lacking (cells.record_cell found.0)) ∙ found.1) found.3

  levels_told : (successors : List (List ℕ)) → successors_in item ≡ successors → check_levels cells item successors ≡ Checked.Missing key → ToldNow
  levels_told [] are is = key_told rules cells item key is
  levels_told (successor ∷ successors) are is =
      let all = successor ∷ successors in
      each_told all (check_walked 17 18 (walk_by_levels cells (lei_in item) all) (check_key cells item)) (λ lei at. subst (λ leis. Contains leis lei) (sym are) at) is
      (λ rest. walk_told (walk_by_levels cells (lei_in item) all) (check_key cells item) key ToldNow rest (spread_wants all are) (key_told rules cells item key))

module _ (cells : Cells) (item : Row) (key : CellKey) where
  successors_told : (rules : Rules) → check_successors rules cells item ≡ Checked.Missing key → Told rules cells item key
  successors_told Rules.First is = first_told cells item key (successor_in item) refl is
  successors_told Rules.Second is = levels_told Rules.Second cells item key refl (successors_in item) refl is
  successors_told Rules.Third is = levels_told Rules.Third cells item key refl (successors_in item) refl is

  record_told : (sitting : Sitting) → check_record cells sitting item ≡ Checked.Missing key → Told sitting.rules cells item key
  unfolding check_record
  record_told sitting is =
      let own = CellKey.Rec (lei_in item) in
      let G = Told sitting.rules cells item key in
      seen_told (cells.record_cell (lei_in item)) own (check_with_held cells sitting item) key G
      (unless_told _ (on_seen (cells.record_cell (lei_in item)) own (check_with_held cells sitting item)) key is)
      (named_told sitting.rules cells item key own (Contains-append_left (own ∷ []) (key_names (akey item) ++ successor_names (successors_in item)) own (0, omega arith, refl)))
      (λ held rest. successors_told sitting.rules (unless_told _ (check_successors sitting.rules cells item) key rest))

-- ---- an item

outcome_told : (checked : Checked) (passed : ItemOutcome) (key : CellKey) → item_outcome_by checked passed ≡ Err key → checked ≡ Checked.Missing key
outcome_told Checked.Passes passed key is = cc
outcome_told (Checked.Fails check) passed key is = cc
outcome_told (Checked.Missing own) passed key is = let same : own ≡ key = cc in ap Checked.Missing same

-- a cell that a relationship needs is named by it or is on its walk
relation_needs : (rules : Rules) (cells : Cells) (item : Row) (key : CellKey) → IsNeeded cells item key → Contains (needs rules cells (Readied.Good (Item.Relation item))) key
relation_needs rules cells item key (inl named) =
    Contains-append_left (relation_names item) (cond (is_direct_parent item) (parent_walk cells (end_in item)) []) key named
relation_needs rules cells item key (inr of_walk) =
    let walk : Contains (parent_walk cells (end_in item)) (parent_key of_walk.member) =
    Contains-map parent_key (walk_members 200 (known_next (parents_in cells)) (end_in item)) of_walk.member of_walk.stands in
    Contains-append_right (relation_names item) (cond (is_direct_parent item) (parent_walk cells (end_in item)) []) key
    (subst (λ t. Contains (cond t (parent_walk cells (end_in item)) []) key) (sym of_walk.direct) (subst (Contains (parent_walk cells (end_in item))) (sym of_walk.is) walk))

item_told : (cells : Cells) (full : Bool) (sitting : Sitting) (item : Readied) (key : CellKey) → judge_item cells full sitting item ≡ Err key
    → IsTrue (lacks cells key) × Contains (needs sitting.rules cells item) key
item_told cells full sitting (Readied.Bad check) key is = cc
item_told cells full sitting (Readied.Good (Item.Record item)) key is = record_told cells item key sitting (outcome_told _ _ key is)
item_told cells full sitting (Readied.Good (Item.Relation item)) key is =
    let told = relation_told cells item key sitting.issuer (outcome_told _ _ key is) in
    (told.0, relation_needs sitting.rules cells item key told.1)
item_told cells full sitting (Readied.Good (Item.Exception item)) key is =
    let told = exception_told cells item.0 key sitting.issuer item.1 (outcome_told _ _ key is) in
    (told.0, Contains-append_left (exception_names item.0) [] key told.1)

-- ---- items

-- the cell is lacking, and needed by one of the items
abbrev pub Wants : Cells → ℕ → Sitting → List Readied → CellKey → Type 0
Wants cells count sitting items key = IsTrue (lacks cells key) × IsNeededIn cells count sitting items key

no_judgement : Judgement
no_judgement = record { verdicts = []; writes = []; new_records = 0 }

-- the first item needs it
wants_first : (cells : Cells) (count : ℕ) (sitting : Sitting) (item : Readied) (items : List Readied) (key : CellKey)
    → IsTrue (lacks cells key) × Contains (needs sitting.rules cells item) key → Wants cells count sitting (item ∷ items) key
unfolding judge_items no_judgement
wants_first cells count sitting item items key told = (
  told.0,
  record {
    earlier = [];
    item = item;
    later = items;
    are = refl;
    judged = no_judgement;
    comes_to = refl;
    needed = told.1;
  },
)

-- one of those after an accepted or a rejected one needs it
wants_later : (cells : Cells) (count : ℕ) (sitting : Sitting) (item : Readied) (items : List Readied) (key : CellKey) (judged : ItemOutcome)
    → judge_item cells (is_at_limit sitting count) sitting item ≡ Ok judged
    → Wants (put_writes (writes_of judged.verdict item) cells) (count_after (Ok judged) count) sitting items key
    → Wants cells count sitting (item ∷ items) key
unfolding judge_items
wants_later cells count sitting item items key judged is wants =
    let writes = writes_of judged.verdict item in
    let of_rest = wants.1 in
    let rest : Result ItemOutcome CellKey → Result Judgement CellKey =
    λ j. before j item (judge_items (cells_after j item cells) (count_after j count) sitting of_rest.earlier) in (
      puts_lacking writes cells key wants.0,
      record {
        earlier = item ∷ of_rest.earlier;
        item = of_rest.item;
        later = of_rest.later;
        are = ap (λ xs. item ∷ xs) of_rest.are;
        judged = item_in_front judged item of_rest.judged;
        comes_to = ap rest is ∙ ap (before (Ok judged) item) of_rest.comes_to;
        needed = subst (λ c. Contains (needs sitting.rules c of_rest.item) key) (sym (put_writes-append writes of_rest.judged.writes cells)) of_rest.needed;
      },
    )

rest_stops : (judged : ItemOutcome) (item : Readied) (rest : Result Judgement CellKey) (key : CellKey) → before (Ok judged) item rest ≡ Err key → rest ≡ Err key
rest_stops judged item (Ok rest) key is = cc
rest_stops judged item (Err own) key is = is

-- given the outcome of the first item
want_by : (cells : Cells) (count : ℕ) (sitting : Sitting) (item : Readied) (items : List Readied) (key : CellKey) (judged : Result ItemOutcome CellKey)
    → ((later : Cells) (more : ℕ) → judge_items later more sitting items ≡ Err key → Wants later more sitting items key)
    → judge_item cells (is_at_limit sitting count) sitting item ≡ judged
    → before judged item (judge_items (cells_after judged item cells) (count_after judged count) sitting items) ≡ Err key
    → Wants cells count sitting (item ∷ items) key
want_by cells count sitting item items key (Err own) rest is stops =
    let same : own ≡ key = cc in
    wants_first cells count sitting item items key (item_told cells (is_at_limit sitting count) sitting item key (is ∙ ap Err same))
want_by cells count sitting item items key (Ok judged) rest is stops =
    wants_later cells count sitting item items key judged is
    (rest (put_writes (writes_of judged.verdict item) cells) (count_after (Ok judged) count) (rest_stops judged item _ key stops))

pub items-want : (items : List Readied) (cells : Cells) (count : ℕ) (sitting : Sitting) (key : CellKey) → judge_items cells count sitting items ≡ Err key
    → Wants cells count sitting items key
unfolding judge_items
items-want [] cells count sitting key is = cc
items-want (item ∷ items) cells count sitting key is =
    want_by cells count sitting item items key (judge_item cells (is_at_limit sitting count) sitting item)
    (λ later more. items-want items later more sitting key) refl is
