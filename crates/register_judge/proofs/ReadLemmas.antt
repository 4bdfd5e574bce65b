-- The judgement over a view is the judgement over each view that gives the same answers for the cells that were read.
use Rattle.std.specs.Prelude.{◌≡◌, ℕ, ◌+◌, ℤ, List, [], ◌∷◌, ◌++◌, Bool, true, false, ◌&&◌, not, cond, if◌then◌else◌, Option, Some, None, Result, Ok, Err, IfOk, IfSome, IsSome, IsTrue}
use Rattle.std.specs.List.{Contains}
use Rattle.std.specs.Str.{bytes_eq}
use mathlib.Core.Logic.{inl, inr}
use Rattle.std.proofs.Common.{refl, sym, ap, subst, ◌∙◌, rules}
use Rattle.lei_records.specs.Cells.{Cells, holds, lei_in, rec_cell}
use Rattle.lei_records.specs.Exceptions.{exception_category_in, is_same_category, subject_in}
use Rattle.lei_records.specs.Relations.{end_in, is_active, rel_cell}
use Rattle.lei_records.specs.Rows.{Row}
use Rattle.lei_records.specs.Tables.{cells_of, record_count, seen, seen_fact}
use Rattle.lei_records.specs.declared.item.Item.{Item}
use Rattle.lei_records.specs.declared.item.Readied.{Readied}
use Rattle.lei_records.specs.declared.view.CellKey.{CellKey}
use Rattle.lei_records.specs.declared.view.CellSeen.{CellSeen}
use Rattle.lei_records.specs.declared.view.RowKey.{RowKey}
use Rattle.lei_records.specs.declared.view.Seen.{Seen}
use Rattle.lei_shapes.specs.declared.lists.ExceptionCategory.{ExceptionCategory}
use Rattle.authority_rules.specs.Taken.{unless_own}
use Rattle.relation_rules.specs.Checks.{is_from}
use Rattle.relation_rules.specs.Needs.{is_lacking, lacks}
use Rattle.cell_reads.specs.Needs.{needs}
use Rattle.cell_reads.specs.Notes.{IsCovered}
use Rattle.cell_reads.specs.Reads.{AnswersReads, HasCell, Listed}
use Rattle.register_judge.specs.declared.judge.ItemOutcome.{ItemOutcome}
use Rattle.register_judge.specs.declared.outcome.JudgeStop.{JudgeStop}
use Rattle.register_judge.specs.declared.outcome.Outcome.{Outcome}
use Rattle.register_judge.specs.declared.outcome.Verdict.{Verdict}
use Rattle.lei_records.specs.RuleNumbers.{newest}
use Rattle.register_judge.specs.declared.sitting.Sitting.{Sitting}
use Rattle.register_judge.specs.Agreement.{IsAgreed, IsByReads, NotesMore}
use Rattle.register_judge.specs.Judging.{Judgement, judge_item, judge_items, put_writes, records_added}
use Rattle.register_judge.specs.Outcomes.{Judges, Shows}
use Rattle.register_judge.specs.Overlays.{is_between, put_exception, put_in_view, put_record, put_relation}
use Rattle.register_judge.specs.Sittings.{is_at_limit, sitting_by}
use Rattle.register_judge.specs.Taking.{take, writes_of}
use Rattle.register_judge.proofs.ItemLemmas.{LessJudged, less-item}
use Rattle.register_judge.proofs.JudgingLemmas.{with_front, with_front-end, with_front-nil, with_front-step}
use Rattle.register_judge.proofs.MonotonyLemmas.{Less, LessAt, less-own, less-same}
use Rattle.register_judge.proofs.TakingLemmas.{judged-taken, judges-takes}

-- ---- writes over a view that knows more

less_cond : {X : Type 0} (test : Bool) (put a b : Seen X) → Less a b → Less (cond test put a) (cond test put b)
less_cond true put a b less = less-same put
less_cond false put a b less = less

less_put_record : (a b : Cells) (row : Row) (key : CellKey) → LessAt a b key → LessAt (put_record a row) (put_record b row) key
less_put_record a b row (CellKey.Rec lei) less = less_cond (bytes_eq lei (lei_in row)) (Seen.Held (rec_cell row)) _ _ less
less_put_record a b row (CellKey.Rel start kind end) less = less
less_put_record a b row (CellKey.Exc lei category) less = less
less_put_record a b row (CellKey.Key authority id) less =
    less_cond (holds authority id row) (Seen.Held (lei_in row)) _ _ (less-own (lei_in row) (a.holder authority id) (b.holder authority id) less)
less_put_record a b row (CellKey.Act start kind) less = less

-- the end of the active relationship, after one of its start and type is put, or another one
less_active : (active of_them : Bool) (end : List ℕ) (a b : Seen (List ℕ)) → Less a b
    → Less (cond of_them (cond active (Seen.Held end) (unless_own end a)) a) (cond of_them (cond active (Seen.Held end) (unless_own end b)) b)
less_active active false end a b less = less
less_active active true end a b less = less_cond active (Seen.Held end) _ _ (less-own end a b less)

less_put_relation : (a b : Cells) (row : Row) (key : CellKey) → LessAt a b key → LessAt (put_relation a row) (put_relation b row) key
less_put_relation a b row (CellKey.Rec lei) less = less
less_put_relation a b row (CellKey.Rel start kind end) less = less_cond (is_between start kind end row) (Seen.Held (rel_cell row)) _ _ less
less_put_relation a b row (CellKey.Exc lei category) less = less
less_put_relation a b row (CellKey.Key authority id) less = less
less_put_relation a b row (CellKey.Act start kind) less =
    less_active (is_active row) (is_from start kind row) (end_in row) (a.active start kind) (b.active start kind) less

less_put_exception : (a b : Cells) (lei : List ℕ) (category : ExceptionCategory) (stands : Bool) (key : CellKey) → LessAt a b key
    → LessAt (put_exception a lei category stands) (put_exception b lei category stands) key
less_put_exception a b lei category stands (CellKey.Rec own) less = less
less_put_exception a b lei category stands (CellKey.Rel start kind end) less = less
less_put_exception a b lei category stands (CellKey.Exc own other) less =
    less_cond (bytes_eq lei own && is_same_category category other) (seen_fact stands) _ _ less
less_put_exception a b lei category stands (CellKey.Key authority id) less = less
less_put_exception a b lei category stands (CellKey.Act start kind) less = less

less_put : (a b : Cells) (write : RowKey × Option Item) (key : CellKey) → LessAt a b key → LessAt (put_in_view a write) (put_in_view b write) key
less_put a b (row_key, Some (Item.Record row)) key less = less_put_record a b row key less
less_put a b (row_key, Some (Item.Relation row)) key less = less_put_relation a b row key less
less_put a b (row_key, Some (Item.Exception item)) key less =
    less_put_exception a b (subject_in item.0) (exception_category_in item.0) (not item.1) key less
less_put a b (RowKey.Exc lei category, None) key less = less_put_exception a b lei category false key less
less_put a b (RowKey.Rec lei, None) key less = less
less_put a b (RowKey.Rel start kind end, None) key less = less

less_puts : (writes : List (RowKey × Option Item)) (a b : Cells) (key : CellKey) → LessAt a b key → LessAt (put_writes writes a) (put_writes writes b) key
less_puts [] a b key less = less
less_puts (write ∷ writes) a b key less = less_puts writes (put_in_view a write) (put_in_view b write) key (less_put a b write key less)

-- ---- cells that are covered

less_lacking : {X : Type 0} (a b : Seen X) → is_lacking a ≡ true → Less a b
less_lacking (Seen.Held x) b lacking = cc
less_lacking Seen.Empty b lacking = cc
less_lacking Seen.Missing b lacking = tt

lacking_at : (a b : Cells) (key : CellKey) → IsTrue (lacks a key) → LessAt a b key
lacking_at a b (CellKey.Rec lei) lacking = less_lacking (a.record_cell lei) (b.record_cell lei) lacking
lacking_at a b (CellKey.Rel start kind end) lacking = less_lacking (a.relation start kind end) (b.relation start kind end) lacking
lacking_at a b (CellKey.Exc lei category) lacking = less_lacking (a.exception lei category) (b.exception lei category) lacking
lacking_at a b (CellKey.Key authority id) lacking = less_lacking (a.holder authority id) (b.holder authority id) lacking
lacking_at a b (CellKey.Act start kind) lacking = less_lacking (a.active start kind) (b.active start kind) lacking

-- if both answers are the one that was read, the second is the first
less_alike : {X : Type 0} (a b read : Seen X) → a ≡ read → b ≡ read → Less a b
less_alike {X} a b read a_is b_is =
    let P : Seen X → Type 0 = λ seen. Less seen b in
    subst P (sym a_is) (let Q : Seen X → Type 0 = λ seen. Less read seen in subst Q (sym b_is) (less-same read))

alike_at : (a b : Cells) (key : CellKey) (found : CellSeen) → HasCell a key found → HasCell b key found → LessAt a b key
alike_at a b (CellKey.Rec lei) (CellSeen.Rec found) in_a in_b = less_alike _ _ (seen found) in_a in_b
alike_at a b (CellKey.Rel start kind end) (CellSeen.Rel found) in_a in_b = less_alike _ _ (seen found) in_a in_b
alike_at a b (CellKey.Exc lei category) (CellSeen.Exc stands) in_a in_b = less_alike _ _ (seen_fact stands) in_a in_b
alike_at a b (CellKey.Key authority id) (CellSeen.Key found) in_a in_b = less_alike _ _ (seen found) in_a in_b
alike_at a b (CellKey.Act start kind) (CellSeen.Act found) in_a in_b = less_alike _ _ (seen found) in_a in_b
alike_at a b key found in_a in_b = absurd in_a

less_covered : (reads : Listed) (a b : Cells) (key : CellKey) → AnswersReads reads a → AnswersReads reads b → IsCovered reads a key → LessAt a b key
less_covered reads a b key in_a in_b (inl lacking) = lacking_at a b key lacking
less_covered reads a b key in_a in_b (inr listed) = alike_at a b key listed.0 (in_a key listed.0 listed.1) (in_b key listed.0 listed.1)

-- an item whose needs are covered has the same outcome over each view that answers the reads
item_by_reads : (reads : Listed) (view cells : Cells) (writes : List (RowKey × Option Item)) (full : Bool) (sitting : Sitting) (item : Readied) (judged : ItemOutcome)
    → ((key : CellKey) → Contains (needs sitting.rules (put_writes writes view) item) key → IsCovered reads view key)
    → AnswersReads reads view → AnswersReads reads cells → judge_item (put_writes writes view) full sitting item ≡ Ok judged
    → judge_item (put_writes writes cells) full sitting item ≡ Ok judged
item_by_reads reads view cells writes full sitting item judged covers in_view in_cells is =
    let P : Result ItemOutcome CellKey → Type 0 = λ r. LessJudged r (judge_item (put_writes writes cells) full sitting item) in
    subst P is (less-item (put_writes writes view) (put_writes writes cells) full sitting item (λ key at.
    less_puts writes view cells key (less_covered reads view cells key in_view in_cells (covers key at))))

-- ---- what was judged so far, with or without the reads

-- the view answers what was noted, if cells are noted; or else it is the view that items are judged over
abbrev pub Admits : Option Listed → Cells → Cells → Type 0
Admits None view cells = cells ≡ view
Admits (Some reads) view cells = AnswersReads reads cells

-- what was judged so far, followed by the judgement of the items left, is the judgement of all, over each admitted view
abbrev pub IsSoFar : Option Listed → Cells → Sitting → ℕ → List Verdict → List (RowKey × Option Item) → ℕ → List Readied → List Readied → Type 0
IsSoFar noted view sitting count verdicts writes n left_items items =
    (cells : Cells) → Admits noted view cells
    → with_front verdicts writes n (judge_items (put_writes writes cells) count sitting left_items) ≡ judge_items cells 0 sitting items

pub put_writes-append : (first second : List (RowKey × Option Item)) (cells : Cells) → put_writes (first ++ second) cells ≡ put_writes second (put_writes first cells)
put_writes-append [] second cells = refl
put_writes-append (write ∷ first) second cells = put_writes-append first second (put_in_view cells write)

none_read : (read : CellKey × CellSeen) → Contains [] read → ⊥
none_read read at = search rules

-- at the start nothing is noted
pub admits-start : (noted now : Option Listed) (view : Cells) → IfSome noted (λ reads. reads ≡ []) → now ≡ noted → Admits now view view
admits-start None now view fresh is = let P : Option Listed → Type 0 = λ o. Admits o view view in subst P (sym is) refl
admits-start (Some reads) now view fresh is =
    let P : Option Listed → Type 0 = λ o. Admits o view view in
    subst P (sym (is ∙ ap Some fresh)) (λ key found at. absurd (none_read (key, found) at))

pub so_far-start : (noted : Option Listed) (view : Cells) (sitting : Sitting) (count : ℕ) (verdicts : List Verdict) (writes : List (RowKey × Option Item)) (n : ℕ) (items : List Readied)
    → verdicts ≡ [] → writes ≡ [] → n ≡ 0 → count ≡ 0 → IsSoFar noted view sitting count verdicts writes n items items
so_far-start noted view sitting count verdicts writes n items no_verdicts no_writes none_new none_added cells admitted =
    (λ i. with_front (no_verdicts i) (no_writes i) (none_new i) (judge_items (put_writes (no_writes i) cells) (none_added i) sitting items))
    ∙ with_front-nil (judge_items cells 0 sitting items)

-- the view still answers what is noted
pub admits-more : (old new : Option Listed) (view : Cells) (keys : List CellKey) → NotesMore old new view keys → Admits old view view → Admits new view view
admits-more None None view keys notes admitted = admitted
admits-more None (Some new) view keys notes admitted = absurd notes
admits-more (Some old) None view keys notes admitted = absurd notes
admits-more (Some old) (Some new) view keys notes admitted = notes.answers admitted

-- a view that answers the reads now answered those before
admits_before : (old new : Option Listed) (view cells : Cells) (keys : List CellKey) → NotesMore old new view keys → Admits new view cells → Admits old view cells
admits_before None None view cells keys notes admitted = admitted
admits_before None (Some new) view cells keys notes admitted = absurd notes
admits_before (Some old) None view cells keys notes admitted = absurd notes
admits_before (Some old) (Some new) view cells keys notes admitted = λ key found at. admitted key found (notes.grows key found at)

item_alike : (old new : Option Listed) (view cells : Cells) (writes : List (RowKey × Option Item)) (full : Bool) (sitting : Sitting) (item : Readied) (judged : ItemOutcome)
    → NotesMore old new view (needs sitting.rules (put_writes writes view) item) → Admits new view view → Admits new view cells
    → judge_item (put_writes writes view) full sitting item ≡ Ok judged → judge_item (put_writes writes cells) full sitting item ≡ Ok judged
item_alike None None view cells writes full sitting item judged notes of_view of_cells is =
    ap (λ c. judge_item (put_writes writes c) full sitting item) of_cells ∙ is
item_alike None (Some new) view cells writes full sitting item judged notes of_view of_cells is = absurd notes
item_alike (Some old) None view cells writes full sitting item judged notes of_view of_cells is = absurd notes
item_alike (Some old) (Some new) view cells writes full sitting item judged notes of_view of_cells is =
    item_by_reads new view cells writes full sitting item judged notes.covers of_view of_cells is

pub so_far-step : (old new : Option Listed) (view : Cells) (sitting : Sitting) (count more : ℕ) (verdicts verdicts' : List Verdict) (writes writes' : List (RowKey × Option Item)) (n n' : ℕ)
    (judged : ItemOutcome) (item : Readied) (rest left_items items : List Readied)
    → left_items ≡ item ∷ rest
    → NotesMore old new view (needs sitting.rules (put_writes writes view) item)
    → Admits old view view
    → judge_item (put_writes writes view) (is_at_limit sitting count) sitting item ≡ Ok judged
    → more ≡ count + records_added judged.verdict judged.new
    → verdicts' ≡ verdicts ++ judged.verdict ∷ []
    → writes' ≡ writes ++ writes_of judged.verdict item
    → n' ≡ n + (if judged.new then 1 else 0)
    → IsSoFar old view sitting count verdicts writes n left_items items
    → IsSoFar new view sitting more verdicts' writes' n' rest items
so_far-step old new view sitting count more verdicts verdicts' writes writes' n n' judged item rest left_items items cut notes of_view is more_is verdicts_are writes_are n_is so_far cells of_cells =
    let keys = needs sitting.rules (put_writes writes view) item in
    with_front-step (put_writes writes cells) (put_writes writes' cells) count more sitting verdicts verdicts' writes writes' n n' judged item rest left_items _ cut
    (item_alike old new view cells writes (is_at_limit sitting count) sitting item judged notes (admits-more old new view keys notes of_view) of_cells is)
    (ap (λ w. put_writes w cells) writes_are ∙ put_writes-append writes (writes_of judged.verdict item) cells)
    more_is verdicts_are writes_are n_is (so_far cells (admits_before old new view cells keys notes of_cells))

-- if cells were listed, they still are
pub listed-more : (old new : Option Listed) (view : Cells) (keys : List CellKey) → NotesMore old new view keys → IsSome old → IsSome new
listed-more None new view keys notes some = cc
listed-more (Some old) None view keys notes some = absurd notes
listed-more (Some old) (Some new) view keys notes some = refl

-- at the end the outcome depends only on what was read
pub by_reads-end : (noted : Option Listed) (view : Cells) (sitting : Sitting) (count : ℕ) (verdicts : List Verdict) (writes : List (RowKey × Option Item)) (n : ℕ)
    (outcome : Outcome) (left_items items : List Readied)
    → IsSome noted → left_items ≡ [] → Shows outcome verdicts writes n → IfSome noted (λ reads. outcome.reads ≡ reads) → Admits noted view view
    → IsSoFar noted view sitting count verdicts writes n left_items items → IsByReads outcome view sitting items
by_reads-end None view sitting count verdicts writes n outcome left_items items some none shows is admitted so_far = cc
by_reads-end (Some reads) view sitting count verdicts writes n outcome left_items items some none shows is admitted so_far = record {
  read = subst (λ r. AnswersReads r view) (sym is) admitted;
  alike = λ cells answers. with_front-end (put_writes writes cells) count sitting verdicts writes n outcome left_items _ none shows
      (so_far cells (subst (λ r. AnswersReads r cells) is answers));
}

-- ---- what judging returns

pub read-by : (result : Result Outcome JudgeStop) (view : Cells) (sitting : Sitting) (items : List Readied)
    → IfOk result (λ outcome. IsByReads outcome view sitting items) → IfOk result (λ outcome. AnswersReads outcome.reads view)
read-by (Ok outcome) view sitting items by_reads = by_reads.read
read-by (Err stop) view sitting items by_reads = tt

-- an outcome that depends only on its reads is that of each sound table that agrees with them
pub agreed-by : (result : Result Outcome JudgeStop) (view : Cells) (room : ℕ) (today : ℤ) (issuer : List ℕ) (items : List Readied)
    → IfOk result (λ outcome. IsByReads outcome view (sitting_by newest room today issuer) items)
    → IfOk result (λ outcome. IsAgreed outcome room today issuer items)
agreed-by (Ok outcome) view room today issuer items by_reads = λ table sound agrees.
    judges-takes (Ok outcome) _ (take table (sitting_by newest (record_count table + room) today issuer) items)
    (judged-taken table (sitting_by newest room today issuer) items sound) (by_reads.alike (cells_of table) agrees)
agreed-by (Err stop) view room today issuer items by_reads = tt

-- the cell at which judging stopped is the one that the judgement lacks
pub stopped-by : (result : Result Outcome JudgeStop) (judged : Result Judgement CellKey) (key : CellKey) → Judges result judged
    → result ≡ Err (JudgeStop.NeedCell key) → judged ≡ Err key
stopped-by result judged key judges is = let P : Result Outcome JudgeStop → Type 0 = λ r. Judges r judged in subst P is judges
