-- Uploads whose items were judged, in their turn or ahead of it.
use Rattle.std.proofs.Common.{◌≡◌, ◌≤◌, ◌+◌, ◌||◌, ℕ, ℤ, List, map, Bool, false, cond, length, Option, IfSome, Result, Ok, Err, Vec, Global, refl, sym, ap, subst, ◌∙◌}
use Rattle.std.proofs.lemmas.List.{length-map}
use Rattle.std.specs.Result.{result_ok}
use Rattle.cell_reads.specs.Reads.{Agrees}
use Rattle.lei_code.specs.Texts.{Body}
use Rattle.lei_values.specs.declared.entry.KeptEntry.{KeptEntry}
use Rattle.item_fields.specs.Items.{ready}
use Rattle.lei_records.specs.Tables.{IsSoundTable, Table, record_count}
use Rattle.item_fields.specs.declared.item.RawItem.{RawItem}
use Rattle.lei_records.specs.declared.item.Readied.{Readied}
use Rattle.lei_shapes.specs.Moment.{day_of}
use Rattle.register_history.specs.Register.{after, readied_items}
use Rattle.register_history.specs.Replies.{adds, body_outcome, is_full, is_too_much, newest_rules, stays, taken_upload, upload_entry}
use Rattle.register_history.specs.State.{OfficeState}
use Rattle.register_judge.specs.Agreement.{IsAgreed}
use Rattle.register_judge.specs.Sittings.{sitting_by}
use Rattle.register_judge.specs.Taking.{take}
use Rattle.register_judge.specs.declared.outcome.Outcome as judged
use Rattle.register_judge.specs.declared.outcome.Plan.{Plan}
use Rattle.register_judge.specs.declared.sitting.Sitting.{Sitting}
use Rattle.register_judge.proofs.LimitLemmas.{plan-taken}
use Rattle.register_history.proofs.Registers.{upload-within}
use Rattle.register_state.specs.Books.{office_writes}
use Rattle.register_state.specs.Deciding.{Decides}
use Rattle.register_state.specs.Judging.{ShowsTaken}
use Rattle.register_state.specs.Planning.{AreItemsOf, IsPlanOf, IsTakenBy}
use Rattle.register_state.specs.declared.decision.Decision.TheVariants.{Adds}
use Rattle.register_table.specs.Undos.{WriteList}
use Rattle.register_words.specs.declared.malformed.Malformed.{Malformed}
use Rattle.register_words.specs.declared.reply.Refusal.TheVariants.{LedgerFull}
use Rattle.register_words.specs.declared.reply.Reply.TheVariants.{Words}
use Rattle.register_words.specs.declared.request.Call.{Call}
use Rattle.register_words.specs.declared.request.Request.TheVariants.{Upload}
use Rattle.upload_format.specs.Bodies.{BodyGives, ready_upload, upload}
use Rattle.upload_format.specs.declared.fault.UploadFault.{UploadFault}
use Rattle.upload_format.proofs.Ready.{ready-raws}
use Rattle.register_history.specs.declared.terms.EntryTerms.{EntryTerms}
use Rattle.lei_records.specs.RuleNumbers.{newest, rules_of}

-- ---- the items of a body

-- the items of a body that was read
pub items_read : (call : Call) (read : Result (Vec Readied Global) UploadFault) (found : Option (Vec Readied Global)) (body : Body) → body ≡ call.body
    → BodyGives (λ items. items.items) read (ready_upload newest body) → found ≡ result_ok read → IfSome found (λ items. AreItemsOf call items.items)
items_read call (Ok items) found body same reads is =
    let raws = ready-raws newest call.body items.items (ap (ready_upload newest) (sym same) ∙ reads) in
    rw is (record { raws = raws.0; reads = raws.1; are = raws.2 })
items_read call (Err fault) found body same reads is = rw is tt

-- a body has at most 5,000 items
pub few_items : (call : Call) (items : List Readied) → AreItemsOf call items → length items ≤ 5000
few_items call items is =
    subst (λ n. n ≤ 5000) (sym (ap length is.are ∙ length-map is.raws (ready newest))) (upload-within call.body is.raws is.reads)

-- ---- the outcome of items

-- items that were judged on the table as it is kept, in the sitting that was passed on
pub judged_by : (office : OfficeState) (call : Call) (terms : EntryTerms) (outcome : judged.Outcome) (raws : List RawItem) (sitting : Sitting) (items : List Readied) (table : Table)
    → upload call.body ≡ Ok raws → items ≡ map (ready (rules_of terms.rules)) raws
    → sitting ≡ sitting_by (rules_of terms.rules) office.limits.records (day_of terms.moment) call.office → table ≡ after office.limits office.history
    → ShowsTaken outcome (take table sitting items) → IsTakenBy office call terms outcome
judged_by office call terms outcome raws sitting items table reads same held is shows =
    let own = sitting_by (rules_of terms.rules) office.limits.records (day_of terms.moment) call.office in
    let R : List Readied → Type 0 = λ rs. ShowsTaken outcome (take (after office.limits office.history) own rs) in
    let S : Sitting → Type 0 = λ s. ShowsTaken outcome (take (after office.limits office.history) s items) in
    let T : Table → Type 0 = λ t. ShowsTaken outcome (take t sitting items) in
    record { raws = raws; reads = reads; taken = subst R same (subst S held (subst T is shows)) }

-- items that were judged ahead of their turn, by the newest rules
pub planned_by : (office : OfficeState) (call : Call) (terms : EntryTerms) (plan : Plan) → IsPlanOf call plan → terms.rules ≡ newest_rules → plan.today ≡ day_of terms.moment
    → IsSoundTable (after office.limits office.history) → Agrees plan.outcome.reads (after office.limits office.history)
    → record_count (after office.limits office.history) + plan.outcome.new_records ≤ office.limits.records
    → office.limits.records ≤ 4294967295 → IsTakenBy office call terms plan.outcome
planned_by office call terms plan is by_newest today sound agrees fits less =
    let D : ℤ → Type 0 = λ day. IsAgreed plan.outcome 4294967295 day call.office (map (ready newest) is.raws) in
    let shows = plan-taken plan.outcome office.limits.records (day_of terms.moment) call.office (map (ready newest) is.raws) (after office.limits office.history)
    (subst D today is.agreed) sound agrees fits less in
    let S : ℕ → Type 0 = λ rules. ShowsTaken plan.outcome (take (after office.limits office.history)
    (sitting_by (rules_of rules) office.limits.records (day_of terms.moment) call.office) (map (ready (rules_of rules)) is.raws)) in
    record { raws = is.raws; reads = is.reads; taken = subst S (sym by_newest) (record { verdicts = shows.verdicts_are; writes = shows.writes_are }) }

-- ---- the decision

none_of : (full much : Bool) → full ≡ false → much ≡ false → (full || much) ≡ false
none_of full much not_full not_much = ap (λ b. b || much) not_full ∙ not_much

-- the entry of such an upload, for which there is room, with its writes
pub judged_decides : (office : OfficeState) (call : Call) (terms : EntryTerms) (outcome : judged.Outcome) (entry : KeptEntry) (list : WriteList)
    → IsTakenBy office call terms outcome → is_full office ≡ false → is_too_much office call.body ≡ false
    → entry ≡ upload_entry office.history call terms outcome.verdicts → list ≡ outcome.writes
    → Decides office (Upload call) (body_outcome office call terms (upload call.body)) (Ok (Adds entry list))
judged_decides office call terms outcome entry list is not_full not_much made wrote =
    let raws = is.raws in
    let rules = rules_of terms.rules in
    let sitting = sitting_by rules office.limits.records (day_of terms.moment) call.office in
    let taken = take (after office.limits office.history) sitting (map (ready rules) raws) in
    let whole = taken_upload office call terms raws in
    let B : Result (List RawItem) Malformed → Type 0 = λ read. Decides office (Upload call) (body_outcome office call terms read) (Ok (Adds entry list)) in
    let C : Bool → Type 0 = λ full. Decides office (Upload call) (cond full (stays (Words LedgerFull)) (adds whole)) (Ok (Adds entry list)) in
    let same : whole ≡ entry = sym (made ∙ ap (λ vs. upload_entry office.history call terms vs) is.taken.verdicts) in
    let W : Result (List RawItem) Malformed → Type 0 = λ read. taken.writes ≡ (take (after office.limits office.history) sitting (readied_items rules read)).writes in
    let written : taken.writes ≡ office_writes office whole = subst W (sym is.reads) refl in
    subst B (sym is.reads) (subst C (sym (none_of (is_full office) (is_too_much office call.body) not_full not_much)) (
      ap adds same,
      wrote ∙ is.taken.writes ∙ written ∙ ap (office_writes office) same,
    ))
