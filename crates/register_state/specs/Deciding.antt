-- What is decided for a request before anything changes.
use Rattle.std.specs.Prelude.{◌≡◌, ◌+◌, ◌++◌, ◌∷◌, [], length, IsTrue, Result, Ok, Err}
use Rattle.std.specs.Str.{IsAscii}
use Rattle.lei_keeper.specs.declared.fault.KeepFault.{KeepFault}
use Rattle.lei_keeper.specs.declared.fault.KeepFault.TheVariants as keep_faults
use Rattle.lei_values.specs.declared.entry.KeptEntry.{KeptEntry}
use Rattle.lei_values.specs.declared.no_memory.NoMemory.{NoMemory}
use Rattle.register_state.specs.Books.{office_writes}
use Rattle.register_state.specs.declared.decision.Decision.{Decision}
use Rattle.register_state.specs.declared.decision.Decision.TheVariants.{Adds, Stays}
use Rattle.register_words.specs.Requests.{IsRequest}
use Rattle.register_words.specs.declared.request.Request.{Request}
use Rattle.register_history.specs.Replies.{Outcome, adds, reply_of, stays, takes_memory}
use Rattle.register_history.specs.State.{OfficeState}
use Rattle.register_words.specs.declared.reply.Refusal.TheVariants as refusals
use Rattle.register_words.specs.declared.reply.Reply.{Reply}
use Rattle.register_words.specs.declared.reply.Reply.TheVariants.{Words}
use Rattle.upload_ledger.specs.Limits.{AreFew}

-- the reply, if nothing is added; the entry that is added, and its writes; or an out-of-memory error, if the reply
-- needs memory
abbrev pub Decides : OfficeState → Request → Outcome → Result Decision NoMemory → Type 0
Decides office request outcome (Ok (Stays reply)) = outcome ≡ stays reply
Decides office request outcome (Ok (Adds entry list)) = (outcome ≡ adds entry)
    × (list ≡ office_writes office entry)
Decides office request outcome (Err wanted) = IsTrue (takes_memory request (reply_of outcome))

-- the reply to a request that adds nothing, or an out-of-memory error, if the reply needs memory
abbrev pub GivesReply : Request → Outcome → Result Reply NoMemory → Type 0
GivesReply request outcome (Ok reply) = outcome ≡ stays reply
GivesReply request outcome (Err wanted) = IsTrue (takes_memory request (reply_of outcome))

-- an entry has the next number, an office that is ASCII, and room in the ledger
abbrev pub FitsNext : OfficeState → KeptEntry → Type 0
FitsNext office entry =
    (entry.seq ≡ length office.history + 1) × IsAscii entry.office × AreFew (office.history ++ entry ∷ [])

-- if a decision adds an entry, the entry fits, and the request is one that readers can make
abbrev pub AddsNext : OfficeState → Request → Result Decision NoMemory → Type 0
AddsNext office request (Ok (Stays reply)) = Unit {0}
AddsNext office request (Ok (Adds entry list)) = IsRequest request × FitsNext office entry
AddsNext office request (Err wanted) = Unit {0}

-- the reply, or the refusal that says why there is none
abbrev pub reply_or : Result Reply KeepFault → Reply
reply_or (Ok reply) = reply
reply_or (Err keep_faults.NoMemory) = Words refusals.NoMemory
reply_or (Err keep_faults.Failed) = Words refusals.KeeperFault
