-- The reply to a request, and what is added for it: both come from one outcome.
use Rattle.std.specs.Prelude.{◌≡◌, ◌⊎◌, ℕ, ℤ, ◌+◌, List, [], ◌∷◌, ◌++◌, length, map, Bool, true, false, ◌||◌, ◌==◌, nat_lt, nat_le, is_some, if◌then◌else◌, IsTrue, Option, Some, None, Result, Ok, Err}
use Rattle.std.specs.FinMap.{len}
use Rattle.lei_code.specs.Texts as texts
use Rattle.lei_code.specs.Texts.{Lei}
use Rattle.lei_values.specs.declared.entry.KeptEntry.{KeptEntry}
use Rattle.upload_format.specs.Bodies.{upload}
use Rattle.register_words.specs.declared.malformed.Malformed.{Malformed}
use Rattle.lei_shapes.specs.Moment.{day_of}
use Rattle.item_fields.specs.Items.{ready}
use Rattle.lei_records.specs.Rows.{Row}
use Rattle.lei_records.specs.Tables.{Table, row_at}
use Rattle.lei_records.specs.declared.item.Item.{Item}
use Rattle.item_fields.specs.declared.item.RawItem.{RawItem}
use Rattle.lei_records.specs.RuleNumbers.{rules_of}
use Rattle.register_judge.specs.Sittings.{sitting_by}
use Rattle.register_judge.specs.Taking.{take}
use Rattle.register_judge.specs.declared.outcome.Verdict.{Verdict}
use Rattle.register_words.specs.declared.request.Call.{Call}
use Rattle.register_words.specs.declared.request.Request.{Request}
use Rattle.register_words.specs.declared.request.Request.TheVariants as requests
use Rattle.register_words.specs.declared.sheets.Form.{Form}
use Rattle.register_words.specs.declared.sheets.Sheet.{Sheet}
use Rattle.copy_forms.specs.Trails.{Publication, Trail, copy_of, delta_between}
use Rattle.register_words.specs.declared.base.Base.{Base}
use Rattle.golden_shelf.specs.declared.fault.ShelfFault.{ShelfFault}
use Rattle.golden_shelf.specs.Bases.{base_in, trail_moments}
use Rattle.golden_shelf.specs.Shelves.{latest}
use Rattle.register_words.specs.declared.reply.Kind.{Kind}
use Rattle.register_words.specs.declared.reply.Kind.TheVariants.{Csv, Json}
use Rattle.register_words.specs.declared.reply.Refusal.{Refusal}
use Rattle.register_words.specs.declared.reply.Refusal.TheVariants.{TooLong, NoRoute, Path, IssuerUnknown, NumberTaken, NumberAhead, LedgerFull, NotKept, LeiUnknown, NothingPublished, PublicationUnknown, NoBase, NoMemory, KeeperFault, Head, HeadTooLong, LengthRequired}
use Rattle.register_words.specs.declared.reply.Refusal.TheVariants as refusals
use Rattle.register_words.specs.declared.reply.Reply.{Reply}
use Rattle.register_words.specs.declared.reply.Reply.TheVariants.{Text, Words}
use Rattle.upload_ledger.specs.History.{History, accredited, kept, kept_bytes, Place, unknown_issuer, repeat_of, number_taken, ahead, fresh, place, publications, published, stamp, totals}
use Rattle.answer_texts.specs.Answers.{accreditation_text, publication_text, status_answer_text, upload_text}
use Rattle.register_history.specs.Publications.{published_rows, trail}
use Rattle.register_history.specs.Register.{after}
use Rattle.register_history.specs.State.{OfficeState}
use Rattle.register_history.specs.declared.terms.EntryTerms.{EntryTerms}
use Rattle.copy_forms.specs.Items.{item_text}

-- A request leaves the history unchanged, and has this reply; or it adds this entry, and has the entry's reply.
pub data Outcome : Type 0 where
  stays : Reply → Outcome
  adds : KeptEntry → Outcome

-- The status code of the reply that reports an entry of this kind, following HTTP (RFC 9110): 201 for a publication,
-- 200 for any other.
abbrev pub kind_status_code : ℕ → ℕ
kind_status_code kind = if kind == 3 then 201 else 200

-- a JSON text, as it is answered with this status code
abbrev pub json_reply : ℕ → texts.Text → Reply
json_reply code text = Text code Json text

-- the reply that an entry's answer gives
abbrev pub entry_reply : KeptEntry → Reply
entry_reply e = json_reply (kind_status_code e.kind) e.answer

-- ---- what a request adds, by the rules and at the moment of the new entry

-- an accreditation is an entry of kind 1, without a number or a body
abbrev pub accreditation : History → Lei → EntryTerms → KeptEntry
accreditation history issuer terms =
    let number = length history + 1 in
    record {
      seq = number;
      kind = 1;
      office = issuer;
      number = 0;
      moment = terms.moment;
      rules = terms.rules;
      body = [];
      answer = accreditation_text number issuer;
    }

-- an upload is an entry of kind 2, with the number and the body that were sent, and a verdict on each item
abbrev pub upload_entry : History → Call → EntryTerms → List Verdict → KeptEntry
upload_entry history call terms verdicts =
    let number = length history + 1 in
    record {
      seq = number;
      kind = 2;
      office = call.office;
      number = call.number;
      moment = terms.moment;
      rules = terms.rules;
      body = call.body;
      answer = upload_text number call.office call.number verdicts;
    }

-- the items are read and judged by the entry's rules, on the table after the history and on the day of the moment
abbrev pub taken_upload : OfficeState → Call → EntryTerms → List RawItem → KeptEntry
taken_upload office call terms raws =
    let table = after office.limits office.history in
    let rules = rules_of terms.rules in
    let sitting = sitting_by rules office.limits.records (day_of terms.moment) call.office in
    let taken = take table sitting (map (ready rules) raws) in
    upload_entry office.history call terms taken.verdicts

-- how many rows of each sheet are published from a table: records, relationships and exceptions
abbrev pub published_counts : Table → ℕ × ℕ × ℕ
published_counts table = (
  length (published_rows table Sheet.Lei),
  length (published_rows table Sheet.Rr),
  length (published_rows table Sheet.Repex),
)

-- a publication is an entry of kind 3, without an office or a body, with the number in the request
abbrev pub publication_entry : OfficeState → ℕ → EntryTerms → KeptEntry
publication_entry office number terms =
    let seq = length office.history + 1 in
    record {
      seq = seq;
      kind = 3;
      office = [];
      number = number;
      moment = terms.moment;
      rules = terms.rules;
      body = [];
      answer = publication_text seq number terms.moment (published_counts (after office.limits office.history));
    }

-- ---- the outcome of a request

-- the number of entries is at its limit
abbrev pub is_full : OfficeState → Bool
is_full office = nat_le office.limits.entries (length office.history)

-- with this body, the kept bodies would have more bytes than the limit
abbrev pub is_too_much : OfficeState → texts.Body → Bool
is_too_much office body = nat_lt office.limits.kept (kept_bytes office.history + length body)

-- an issuer that is already accredited gets the answer from then
abbrev pub accredit_outcome : OfficeState → Lei → EntryTerms → Option texts.Text → Outcome
accredit_outcome office issuer terms None =
    if is_full office then stays (Words LedgerFull) else adds (accreditation office.history issuer terms)
accredit_outcome office issuer terms (Some text) = stays (json_reply (kind_status_code 1) text)

-- a body that isn't an upload takes no number, and neither does one that there is no room for
abbrev pub body_outcome : OfficeState → Call → EntryTerms → Result (List RawItem) Malformed → Outcome
body_outcome office call terms (Ok raws) =
    if is_full office || is_too_much office call.body then stays (Words LedgerFull)
    else adds (taken_upload office call terms raws)
body_outcome office call terms (Err fault) = stays (Words (refusals.Malformed fault))

-- a repeat gets the kept answer, however late it comes
abbrev pub place_outcome : OfficeState → Call → EntryTerms → Place → Outcome
place_outcome office call terms unknown_issuer = stays (Words IssuerUnknown)
place_outcome office call terms (repeat_of answer) = stays (json_reply (kind_status_code 2) answer)
place_outcome office call terms number_taken = stays (Words NumberTaken)
place_outcome office call terms (ahead next) = stays (Words (NumberAhead next))
place_outcome office call terms fresh = body_outcome office call terms (upload call.body)

-- a body is no longer than the limit
unfoldable pub upload_outcome : OfficeState → Call → EntryTerms → Outcome
upload_outcome office call terms =
    if nat_lt office.limits.body (length call.body) then stays (Words TooLong)
    else place_outcome office call terms (place office.history call.office call.number call.body)

-- an upload's answer is returned as it was kept
abbrev pub answer_outcome : Option texts.Text → Outcome
answer_outcome None = stays (Words NotKept)
answer_outcome (Some text) = stays (json_reply (kind_status_code 2) text)

-- the same for an accredited issuer only
abbrev pub kept_outcome : History → Lei → ℕ → Outcome
kept_outcome history issuer number =
    if is_some (accredited history issuer) then answer_outcome (kept history issuer number)
    else stays (Words IssuerUnknown)

-- the number of the next publication
abbrev pub next_publication : History → ℕ
next_publication history = length (publications history) + 1

-- An existing publication gets the answer from then. Of all other numbers, only the next one is made.
abbrev pub publish_outcome : OfficeState → ℕ → EntryTerms → Option texts.Text → Outcome
publish_outcome office number terms None =
    if number == next_publication office.history then
    (if is_full office then stays (Words LedgerFull) else adds (publication_entry office number terms))
    else stays (Words (NumberAhead (next_publication office.history)))
publish_outcome office number terms (Some text) = stays (json_reply (kind_status_code 3) text)

-- the kind of a text that is a file in this form
abbrev pub form_kind : Form → Kind
form_kind Form.Csv = Csv
form_kind Form.Json = Json

-- the copy of a sheet in the latest publication, which has this number
abbrev pub copy_of_latest : Sheet → Form → ℕ → Option Publication → Outcome
copy_of_latest sheet form number None = stays (Words NothingPublished)
copy_of_latest sheet form number (Some publication) =
    stays (Text 200 (form_kind form) (copy_of number publication sheet form))

-- the same of a trail of publications
abbrev pub copy_outcome : Sheet → Form → Trail → Outcome
copy_outcome sheet form made = copy_of_latest sheet form (length made) (latest made)

-- the refusal that reports why there is no base
abbrev pub base_refusal : ShelfFault → Refusal
base_refusal ShelfFault.NothingPublished = NothingPublished
base_refusal ShelfFault.PublicationUnknown = PublicationUnknown
base_refusal ShelfFault.NoBase = NoBase
base_refusal ShelfFault.NoMemory = NoMemory

-- the delta of a sheet from the base that was found to the latest publication, or why there is no base
abbrev pub delta_to_latest : Sheet → Form → Trail → Result ℕ ShelfFault → Option Publication → Outcome
delta_to_latest sheet form made (Err fault) last = stays (Words (base_refusal fault))
delta_to_latest sheet form made (Ok from) None = stays (Words NothingPublished)
delta_to_latest sheet form made (Ok from) (Some publication) =
    stays (Text 200 (form_kind form) (delta_between made from (length made) publication sheet form))

-- the same from the base that is named
abbrev pub delta_outcome : Base → Sheet → Form → Trail → Outcome
delta_outcome base sheet form made = delta_to_latest sheet form made (base_in (trail_moments made) base) (latest made)

-- a record is shown as it is held: a JSON object of its present fields
abbrev pub show_outcome : Option Row → Outcome
show_outcome None = stays (Words LeiUnknown)
show_outcome (Some row) = stays (json_reply 200 (item_text (Item.Record row)))

-- how many records, relationships and exceptions a table has
abbrev pub held_counts : Table → ℕ × ℕ × ℕ
held_counts table = (len table.records, len table.relations, len table.exceptions)

-- the numbers of what is kept and of what is held
abbrev pub status_outcome : History → Table → Outcome
status_outcome history table = stays (json_reply 200 (status_answer_text (totals history) (held_counts table)))

-- the outcome of a request, if an entry that is added has these rules and this moment
abbrev pub outcome_at : OfficeState → Request → EntryTerms → Outcome
outcome_at office (requests.Accredit issuer) terms =
    accredit_outcome office issuer terms (accredited office.history issuer)
outcome_at office (requests.Upload call) terms = upload_outcome office call terms
outcome_at office (requests.Kept issuer number) terms = kept_outcome office.history issuer number
outcome_at office (requests.Publish number) terms =
    publish_outcome office number terms (published office.history number)
outcome_at office (requests.Show lei) terms = show_outcome (row_at (after office.limits office.history) lei)
outcome_at office (requests.Copy sheet form) terms = copy_outcome sheet form (trail office)
outcome_at office (requests.Delta base sheet form) terms = delta_outcome base sheet form (trail office)
outcome_at office requests.Status terms = status_outcome office.history (after office.limits office.history)

-- the terms of the next entry by these rules, if its request comes at this moment of the clock
abbrev pub terms_by : ℕ → History → ℤ → EntryTerms
terms_by rules history moment = record { rules = rules; moment = stamp history moment }

-- the outcome of a request by these rules at this moment of the clock
abbrev pub outcome_by : ℕ → OfficeState → Request → ℤ → Outcome
outcome_by rules office request moment = outcome_at office request (terms_by rules office.history moment)

-- the rules of each entry that is made now: the third rules
abbrev pub newest_rules : ℕ
newest_rules = 3

-- the outcome of a request that is made now
abbrev pub outcome : OfficeState → Request → ℤ → Outcome
outcome office request moment = outcome_by newest_rules office request moment

-- ---- the reply and the next history

-- the reply that an outcome has
abbrev pub reply_of : Outcome → Reply
reply_of (stays reply) = reply
reply_of (adds e) = entry_reply e

-- the history after an outcome
abbrev pub history_after : History → Outcome → History
history_after history (stays reply) = history
history_after history (adds e) = history ++ e ∷ []

-- the office after an outcome: its limits stay
abbrev pub next_of : OfficeState → Outcome → OfficeState
next_of office outcome = record office { history = history_after office.history outcome }

-- the reply by these rules to a request at a moment of the clock
abbrev pub reply_by : ℕ → OfficeState → Request → ℤ → Reply
reply_by rules office request moment = reply_of (outcome_by rules office request moment)

-- the office after the request
abbrev pub next_by : ℕ → OfficeState → Request → ℤ → OfficeState
next_by rules office request moment = next_of office (outcome_by rules office request moment)

-- the reply to a request that is made now
abbrev pub reply : OfficeState → Request → ℤ → Reply
reply office request moment = reply_by newest_rules office request moment

-- the office after the request
abbrev pub next : OfficeState → Request → ℤ → OfficeState
next office request moment = next_by newest_rules office request moment

-- ---- one step, which lack of memory or the keeper may stop

-- An upload is refused for a full ledger only after its body was read, an accreditation or a publication at once.
abbrev pub full_needs_memory : Request → Bool
full_needs_memory (requests.Accredit issuer) = false
full_needs_memory (requests.Upload call) = true
full_needs_memory (requests.Kept issuer number) = false
full_needs_memory (requests.Publish number) = false
full_needs_memory (requests.Show lei) = false
full_needs_memory (requests.Copy sheet form) = false
full_needs_memory (requests.Delta base sheet form) = false
full_needs_memory requests.Status = false

-- The other refusals, except for a malformed body, follow from what is kept, without memory.
abbrev pub needs_memory : Request → Refusal → Bool
needs_memory request TooLong = false
needs_memory request NoRoute = false
needs_memory request Path = false
needs_memory request IssuerUnknown = false
needs_memory request NumberTaken = false
needs_memory request (NumberAhead k) = false
needs_memory request (refusals.Malformed fault) = true
needs_memory request LedgerFull = full_needs_memory request
needs_memory request NotKept = false
needs_memory request LeiUnknown = false
needs_memory request NothingPublished = false
needs_memory request PublicationUnknown = false
needs_memory request NoBase = false
needs_memory request NoMemory = true
needs_memory request KeeperFault = false
needs_memory request Head = false
needs_memory request HeadTooLong = false
needs_memory request LengthRequired = false
needs_memory request (refusals.Method allowed) = false

-- a reply to this request that takes memory to make
abbrev pub takes_memory : Request → Reply → Bool
takes_memory request (Text code kind text) = true
takes_memory request (Words refusal) = needs_memory request refusal

-- an entry would be added
abbrev pub IsAddition : Outcome → Type 0
IsAddition (stays reply) = ⊥
IsAddition (adds e) = Unit {0}

-- The request's reply, and the office after it. If the reply takes memory, the reply may report lack of memory instead.
-- If an entry would be added, it may report that the entry couldn't be kept. In both cases nothing changes.
abbrev pub StepOf : Request → Outcome → OfficeState → Reply → OfficeState → Type 0
StepOf request outcome old answered new = ((answered ≡ reply_of outcome) × (new ≡ next_of old outcome))
    ⊎ ((answered ≡ Words NoMemory) × (new ≡ old) × IsTrue (takes_memory request (reply_of outcome)))
    ⊎ ((answered ≡ Words KeeperFault) × (new ≡ old) × IsAddition outcome)

-- a request that comes at a moment of the clock makes such a step
abbrev pub Step : OfficeState → Request → ℤ → Reply → OfficeState → Type 0
Step old request moment answered new = StepOf request (outcome old request moment) old answered new
