-- What serving a connection does, and how it ends.
use Rattle.std.specs.Prelude.{◌≡◌, ℕ, ℤ, List, Contains, Option}
use Rattle.lei_office.specs.Answering.{CountedOffice, OfficeStep}
use Rattle.lei_office.specs.Faults.{keeper_faults}
use Rattle.lei_values.specs.Count.{Rose}
use Rattle.lei_values.specs.KeptTables.{KeptTables}
use Rattle.register_history.specs.Kept.{StaysUntold}
use Rattle.register_history.specs.Legal.{replies_to}
use Rattle.register_history.specs.State.{OfficeState}
use Rattle.register_words.specs.declared.reply.Refusal.TheVariants.{NoMemory}
use Rattle.register_words.specs.declared.reply.Reply.{Reply}
use Rattle.register_words.specs.declared.reply.Reply.TheVariants.{Words}
use Rattle.register_words.specs.declared.request.Asked.{Asked}
use Rattle.request_loop.specs.Counts.{RoseBy}
use Rattle.request_loop.specs.Sessions.{Session}
use Rattle.request_loop.specs.Serving as any
use Rattle.request_loop.specs.declared.frames.Ended as loop
use Rattle.issuer_http.specs.Frames.{http_rules}
use Rattle.issuer_http.specs.declared.ended.Ended.{Ended}
use Rattle.issuer_http.specs.declared.ended.HttpEnd.{HttpEnd}

-- A connection is served until it has taken 1,073,741,824 bytes (1 GiB). This project's profile.
abbrev pub connection_limit : ℕ
connection_limit = 1_073_741_824

-- How serving ends, by the words of any session: at the end of the input a connection counts as closed, too.
abbrev pub ended_of : loop.Ended HttpEnd → Ended
ended_of loop.Ended.AtEnd = Ended.Closed
ended_of (loop.Ended.By HttpEnd.Closed) = Ended.Closed
ended_of (loop.Ended.By HttpEnd.BadHead) = Ended.BadHead
ended_of loop.Ended.ReadFault = Ended.ReadFault
ended_of loop.Ended.WriteFault = Ended.WriteFault
ended_of loop.Ended.InputLimit = Ended.InputLimit
ended_of loop.Ended.NoMemory = Ended.NoMemory

-- A read of the link failed exactly if serving ended with a read fault, and a write exactly if it ended with a write
-- fault. The counts of failed reads and of failed writes are each given before and after serving.
pub record ReportsFaults (ended : Ended) (reads reads_now writes writes_now : ℕ) : Type 0 where
  pub read_fault : ended ≡ Ended.ReadFault → Rose reads reads_now
  pub no_read_fault : ¬ (ended ≡ Ended.ReadFault) → reads_now ≡ reads
  pub write_fault : ended ≡ Ended.WriteFault → Rose writes writes_now
  pub no_write_fault : ¬ (ended ≡ Ended.WriteFault) → writes_now ≡ writes

-- ---- anyone who answers

-- What serving does if these are the steps of the answerer: it takes bytes from the link, answers the requests in them,
-- and ends.
abbrev pub ServesBy : {A : Type 0} → (A → Asked → List ℤ → Reply → A → Type 0) → any.Progress A
    → Option (List ℕ)
    → any.Progress A → Option (List ℕ) → Ended → Type 0
ServesBy step before left after left_now ended =
    (end : loop.Ended HttpEnd) × (ended ≡ ended_of end)
    × any.Serves step http_rules connection_limit before left after left_now end

-- The result for a link with these bytes left, if neither of its directions fails and memory never runs out. All bytes
-- were taken, and all complete requests answered, or those up to the first that asks to close or whose head is refused.
-- Or the bytes are so many that they end a connection.
abbrev pub CompletesBy : {A : Type 0} → (A → Asked → List ℤ → Reply → A → Type 0) → Ended
    → any.Progress A → List ℕ
    → any.Progress A → Type 0
CompletesBy step ended before bytes after =
    (end : loop.Ended HttpEnd) × (ended ≡ ended_of end)
    × any.Completes step http_rules connection_limit end before bytes after

-- ---- an office

-- The progress of serving has the office, with what its keeper tells and the keeper's count. It also has the moments
-- that the clock has given, and the bytes that were written. `None` means a device that doesn't tell it.
abbrev pub HttpProgress : Type 0
HttpProgress = any.Progress CountedOffice

-- The progress of these five.
abbrev pub http_progress : OfficeState → Option KeptTables → ℕ → Option (List ℤ) → Option (List ℕ) → HttpProgress
http_progress office kept faults given written = record {
  who = record { office = office; kept = kept; faults = faults };
  given = given;
  written = written;
}

-- What serving does over an office. If the keeper tells its tables afterwards, it told them before. The following holds
-- for any session that leads from the office before to the office after. At most as many of its replies are
-- KEEPER_FAULT as calls of the keeper have failed. If none failed and memory never ran out, the replies are those that
-- the requests and the moments determine.
pub record ServesHttp (before : HttpProgress) (left : Option (List ℕ)) (after : HttpProgress) (left_now : Option (List ℕ))
    (ended : Ended) : Type 0 where
  pub serves : ServesBy OfficeStep before left after left_now ended
  pub untold : StaysUntold before.who.kept after.who.kept
  pub refuses : (asks : List Asked) (moments : List ℤ) (replies : List Reply)
      → Session OfficeStep before.who asks moments replies after.who
      → RoseBy (keeper_faults replies) before.who.faults after.who.faults
  pub exact : (asks : List Asked) (moments : List ℤ) (replies : List Reply)
      → Session OfficeStep before.who asks moments replies after.who
      → ¬ (Rose before.who.faults after.who.faults) → ¬ (Contains replies (Words NoMemory))
      → replies ≡ replies_to before.who.office asks moments

-- The result for a link that doesn't fail, over an office.
abbrev pub CompletesHttp : Ended → HttpProgress → List ℕ → HttpProgress → Type 0
CompletesHttp ended before bytes after = CompletesBy OfficeStep ended before bytes after
