-- A search: its state, and the replies to queries. This project's profile.
use Rattle.std.specs.Prelude.{◌≡◌, ◌⊎◌, ◌<◌, ◌^◌, ⊤, ◌==◌, ℕ, ℤ, Bool, List, [], length, map, nat_lt, if◌then◌else◌, Option}
use Rattle.lei_code.specs.Texts.{Text}
use Rattle.register_words.specs.declared.sheets.Form.{Form}
use Rattle.register_words.specs.declared.sheets.Sheet.{Sheet}
use Rattle.copy_csv.specs.Sheets.{SheetRow}
use Rattle.copy_csv.specs.declared.heads.CopyRead.{CopyRead}
use Rattle.copy_csv.specs.declared.heads.DeltaRead.{DeltaRead}
use Rattle.copy_csv.specs.declared.heads.Head.{Head}
use Rattle.copy_csv.specs.declared.rows.Change.{Change}
use Rattle.copy_forms.specs.Files.{IsDelta, IsDeltaRead}
use Rattle.copy_forms.specs.Patching.{patched}
use Rattle.name_search.specs.NameTables.{IsTakeFault, MayTakeDelta, NameTable, key_and_name, number_in}
use Rattle.name_search.specs.Searching.{found_names}
use Rattle.name_search.specs.Words.{words}
use Rattle.name_search.specs.declared.faults.TakeFault.{TakeFault}
use Rattle.name_search.specs.declared.faults.TakeFault.TheVariants as faults
use Rattle.query_reading.specs.declared.asked.QueryAsked.{QueryAsked}
use Rattle.query_reading.specs.declared.refusal.QueryRefusal.{QueryRefusal}
use Rattle.query_reading.specs.declared.refusal.QueryRefusal.TheVariants as refusals
use Rattle.query_reading.specs.declared.reply.QueryReply.{QueryReply}
use Rattle.query_reading.specs.declared.reply.QueryReply.TheVariants as replies
use Rattle.search_queries.specs.Answers.{found_text, rows_text}
use Rattle.search_queries.specs.declared.grammar.FindQuery.{FindQuery}

-- What is asked of a search.
abbrev pub SearchAsked : Type 0
SearchAsked = QueryAsked FindQuery (Unit {0})

-- ---- the state

-- The state of a search: the golden copy of `lei` that it holds. The copy has the number of its publication, known only
-- in JSON, its width, and its rows.
pub record SearchState : Type 0 where
  pub publication : Option ℕ
  pub wide : Bool
  pub rows : List SheetRow

-- What an index has of such a copy.
abbrev pub name_table : SearchState → NameTable
name_table state = record { publication = state.publication; wide = state.wide; names = map key_and_name state.rows }

-- The state of a search over a copy that was read.
abbrev pub state_of : CopyRead → SearchState
state_of copy = record { publication = number_in copy.head; wide = copy.wide; rows = copy.rows }

-- The state after a delta that was taken.
abbrev pub after_delta : SearchState → DeltaRead → SearchState
after_delta state delta =
    record { publication = number_in delta.head; wide = delta.wide; rows = patched state.rows delta.changes }

-- ---- FIND

-- The reply if a text has this many words.
abbrev pub find_by_words : SearchState → ℕ → Text → ℕ → QueryReply
find_by_words state page text count =
    if count == 0 then replies.Refused refusals.NoWord
    else (if nat_lt 8 count then replies.Refused refusals.TooManyWords
    else replies.Text (found_text (found_names (map key_and_name state.rows) text) page))

-- The reply to FIND: the text has no word, or more than 8; or the names of the rows that have each of its words.
abbrev pub find_reply : SearchState → FindQuery → QueryReply
find_reply state query = find_by_words state query.page query.text (length (words query.text))

-- ---- TAKE

-- The refusal for a delta that a copy doesn't take.
abbrev pub take_refusal : TakeFault → QueryRefusal
take_refusal (faults.WrongBase publication from) = refusals.WrongBase publication from
take_refusal faults.OlderDelta = refusals.OlderDelta
take_refusal faults.NoMemory = refusals.NoMemory

-- The bytes aren't a delta of `lei` in this form.
abbrev pub IsNoLeiDelta : Form → Text → Type 0
IsNoLeiDelta form packet =
    (head : Head) (wide : Bool) (changes : List Change) → IsDelta packet Sheet.Lei form head wide changes → ⊥

-- Memory ran out, and nothing changes.
pub record LacksMemory (state : SearchState) (reply : QueryReply) (new : SearchState) : Type 0 where
  pub reply_is : reply ≡ replies.Refused refusals.NoMemory
  pub stays : new ≡ state

-- The packet isn't a delta, and nothing changes.
pub record RefusesDeltaPacket (form : Form) (state : SearchState) (packet : Text) (reply : QueryReply)
    (new : SearchState) : Type 0 where
  pub none : IsNoLeiDelta form packet
  pub reply_is : reply ≡ replies.Refused refusals.DeltaNotRead
  pub stays : new ≡ state

-- The packet is a delta that the copy doesn't take for this reason, and nothing changes.
pub record RefusesDelta (state : SearchState) (delta : DeltaRead) (reply : QueryReply)
    (new : SearchState) : Type 0 where
  pub fault : TakeFault
  pub why : IsTakeFault (name_table state) delta fault
  pub reply_is : reply ≡ replies.Refused (take_refusal fault)
  pub stays : new ≡ state

-- The packet is a delta that the copy takes: its rows are patched by the delta, and the reply has their number.
pub record TakesDelta (state : SearchState) (delta : DeltaRead) (reply : QueryReply)
    (new : SearchState) : Type 0 where
  pub takes : MayTakeDelta (name_table state) delta
  pub reply_is : reply ≡ replies.Text (rows_text (length (patched state.rows delta.changes)))
  pub state_is : new ≡ after_delta state delta

-- The reply to TAKE, and the state after it.
abbrev pub TakeStep : Form → SearchState → Text → QueryReply → SearchState → Type 0
TakeStep form state packet reply new =
    RefusesDeltaPacket form state packet reply new
    ⊎ ((delta : DeltaRead) × IsDeltaRead packet Sheet.Lei form delta
    × (RefusesDelta state delta reply new ⊎ TakesDelta state delta reply new))
    ⊎ LacksMemory state reply new

-- ---- queries

-- The reply to what is asked, and the state after it. The clock isn't read. FIND and every refusal leave the state
-- unchanged.
abbrev pub SearchStep : Form → SearchState → SearchAsked → List ℤ → QueryReply → SearchState → Type 0
SearchStep form state (QueryAsked.Refuse refusal) moments reply new =
    (moments ≡ []) × (reply ≡ replies.Refused refusal) × (new ≡ state)
SearchStep form state (QueryAsked.Query query) moments reply new =
    (moments ≡ []) × ((reply ≡ find_reply state query) ⊎ (reply ≡ replies.Refused refusals.NoMemory)) × (new ≡ state)
SearchStep form state (QueryAsked.Packet head packet) moments reply new =
    (moments ≡ []) × TakeStep form state packet reply new

-- A packet has fewer than 2^64 bytes.
abbrev pub HasShortPacket : SearchAsked → Type 0
HasShortPacket (QueryAsked.Refuse refusal) = ⊤
HasShortPacket (QueryAsked.Query query) = ⊤
HasShortPacket (QueryAsked.Packet head packet) = length packet < 2 ^ 64
