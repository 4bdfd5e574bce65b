-- Which histories are legal, and runs of requests over them.
use Rattle.std.specs.Prelude.{◌≡◌, ◌⊎◌, ℕ, ℤ, ◌≤ℤ◌, List, [], ◌∷◌, ◌++◌, Bool, ◌&&◌, nat_le, IsTrue, if◌then◌else◌, Option, Some, None}
use Rattle.lei_code.specs.Texts.{Lei}
use Rattle.lei_shapes.specs.Moment.{IsMoment}
use Rattle.lei_values.specs.declared.entry.KeptEntry.{KeptEntry}
use Rattle.register_words.specs.declared.request.Asked.{Asked}
use Rattle.register_words.specs.declared.request.Asked.TheVariants.{Ask, Refuse}
use Rattle.register_words.specs.declared.request.Request.{Request}
use Rattle.register_words.specs.declared.request.Request.TheVariants.{Accredit, Publish, Upload}
use Rattle.register_words.specs.declared.reply.Refusal.TheVariants.{NoMemory}
use Rattle.register_words.specs.declared.reply.Reply.{Reply}
use Rattle.register_words.specs.declared.reply.Reply.TheVariants.{Words}
use Rattle.register_words.specs.declared.limits.Limits.{Limits}
use Rattle.upload_ledger.specs.History.{History, is_accreditation, is_publication, is_upload, last_entry, upload_at}
use Rattle.register_words.specs.Requests.{IsRequest, TakesMemoryToRead}
use Rattle.request_loop.specs.Sessions as sessions
use Rattle.register_history.specs.State.{OfficeState, office_of}
use Rattle.register_history.specs.Replies.{adds, newest_rules, next, outcome_by, reply, Step}

-- the request that an entry was made for
abbrev pub request_of : KeptEntry → Option Request
request_of e =
    if is_accreditation e then Some (Accredit e.office)
    else (if is_upload e then Some (Upload (record { office = e.office; number = e.number; body = e.body }))
    else (if is_publication e then Some (Publish e.number) else None))

-- the number of the last entry's rules, or that of the first rules if there is no entry
abbrev pub last_rules : Option KeptEntry → ℕ
last_rules None = 1
last_rules (Some e) = e.rules

-- An entry after a history may have these rules: they exist, and they aren't lower than those of the last entry.
abbrev pub rules_may_follow : History → ℕ → Bool
rules_may_follow history rules =
    nat_le 1 rules && nat_le rules newest_rules && nat_le (last_rules (last_entry history)) rules

-- The entry is what its own request adds to the office before it, by its own rules and at its own moment. Its rules may
-- follow those of the entry before it.
abbrev pub IsNext : OfficeState → KeptEntry → Type 0
IsNext before e =
    (request : Request) × (request_of e ≡ Some request) × IsRequest request × IsMoment e.moment
    × IsTrue (rules_may_follow before.history e.rules) × (outcome_by e.rules before request e.moment ≡ adds e)

-- each entry of the rest is next after those before it
abbrev pub LegalAfter : Limits → History → History → Type 0
LegalAfter limits before [] = Unit {0}
LegalAfter limits before (e ∷ rest) = IsNext (office_of limits before) e
    × LegalAfter limits (before ++ e ∷ []) rest

-- Each entry is what its own request adds to the entries before it, under the limits. No entry's rules are lower than
-- those of the entry before it.
unfoldable pub Legal : OfficeState → Type 0
Legal office = LegalAfter office.limits [] office.history

-- no entry's moment is later than that of the next entry
abbrev pub MomentsNeverFall : History → Type 0
MomentsNeverFall history =
    (before after : History) (first second : KeptEntry) → history ≡ before ++ first ∷ second ∷ after
    → first.moment ≤ℤ second.moment

-- each issuer's uploads are numbered 1, 2, 3 and so on
abbrev pub UploadsAreNumbered : History → Type 0
UploadsAreNumbered history =
    (issuer : Lei) (number : ℕ) (e : KeptEntry) → upload_at history issuer number ≡ Some e → e.number ≡ number

-- ---- runs

-- A refusal by the reader is its own reply, and takes no moment. A request takes one moment, and makes a step. If
-- memory ran out while an upload was read, that is answered instead of its step: no moment is taken, and nothing
-- changes.
abbrev pub AskStep : OfficeState → Asked → List ℤ → Reply → OfficeState → Type 0
AskStep old (Refuse refusal) moments answered new = (moments ≡ []) × (answered ≡ Words refusal) × (new ≡ old)
AskStep old (Ask request) moments answered new =
    ((m : ℤ) × (moments ≡ m ∷ []) × Step old request m answered new)
    ⊎ (TakesMemoryToRead request × (moments ≡ []) × (answered ≡ Words NoMemory) × (new ≡ old))

-- these replies answer what was asked, in order, at these moments, and lead from one office to the other
abbrev pub OfficeSession : OfficeState → List Asked → List ℤ → List Reply → OfficeState → Type 0
OfficeSession = sessions.Session AskStep

-- The replies if memory never runs out and the keeper never fails. If the moments run out, nothing more is answered.
abbrev pub replies_to : OfficeState → List Asked → List ℤ → List Reply
replies_to office [] moments = []
replies_to office (Refuse refusal ∷ asks) moments = Words refusal ∷ replies_to office asks moments
replies_to office (Ask request ∷ asks) [] = []
replies_to office (Ask request ∷ asks) (m ∷ moments) =
    reply office request m ∷ replies_to (next office request m) asks moments
