-- What readers make of a request's bytes. This project's profile.
use Rattle.std.specs.Prelude.{◌≡◌, ◌≢◌}
use Rattle.register_words.specs.Refusals.{refusal_status_code}
use Rattle.register_words.specs.Requests.{TakesMemoryToRead}
use Rattle.register_words.specs.declared.reply.Refusal.TheVariants.{NoMemory}
use Rattle.register_words.specs.declared.reply.Reply.{Reply}
use Rattle.register_words.specs.declared.reply.Reply.TheVariants.{Words}
use Rattle.register_words.specs.declared.request.Asked.{Asked}
use Rattle.register_words.specs.declared.request.Asked.TheVariants.{Ask, Refuse}

-- Memory may run out when this is read: the body of an upload.
abbrev pub MayWantMemory : Asked → Type 0
MayWantMemory (Ask request) = TakesMemoryToRead request
MayWantMemory (Refuse refusal) = ⊥

-- If memory runs out when the first is read, the reading may be the refusal for that instead.
abbrev pub ReadsAs : Asked → Asked → Type 0
ReadsAs meant read = MayWantMemory meant × (read ≡ Refuse NoMemory)

-- A refusal by the reader is its own reply. None reports a fault of the keeper.
abbrev pub RefusesBy : Asked → Reply → Type 0
RefusesBy (Ask request) reply = ⊥
RefusesBy (Refuse refusal) reply = (reply ≡ Words refusal) × (refusal_status_code refusal ≢ 503)
