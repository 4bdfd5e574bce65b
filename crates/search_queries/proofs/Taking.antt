-- The answer to TAKE.
use Rattle.std.proofs.Common.{◌≡◌, ◌⊎◌, ℕ, List, [], Bool, length, map, Option, inl, inr, refl, sym, ap, ◌∙◌, subst}
use Rattle.std.proofs.lemmas.List.{length-map}
use Rattle.lei_code.specs.Texts.{Text}
use Rattle.register_words.specs.declared.sheets.Form.{Form}
use Rattle.register_words.specs.declared.sheets.Sheet.{Sheet}
use Rattle.copy_csv.specs.Sheets.{SheetRow}
use Rattle.copy_csv.specs.declared.heads.DeltaRead.{DeltaRead}
use Rattle.copy_forms.specs.Files.{IsDeltaRead}
use Rattle.copy_forms.specs.Patching.{patched}
use Rattle.name_search.specs.NameTables.{IsNameTable, IsTakeFault, MayTakeDelta, Name, NameTable, key_and_name, number_in}
use Rattle.name_search.specs.declared.faults.TakeFault.{TakeFault}
use Rattle.query_reading.specs.declared.asked.QueryAsked.{QueryAsked}
use Rattle.query_reading.specs.declared.refusal.QueryRefusal.TheVariants as refusals
use Rattle.query_reading.specs.declared.reply.QueryReply.{QueryReply}
use Rattle.query_reading.specs.declared.reply.QueryReply.TheVariants as replies
use Rattle.search_queries.specs.Answers.{rows_text}
use Rattle.search_queries.specs.Searchers.{AnswersSo, CountsDelta, IsStateOf, Searching, TakesDeltaSo, TakesSo}
use Rattle.search_queries.specs.Searches.{IsNoLeiDelta, SearchAsked, SearchState, after_delta, find_reply, take_refusal}
use Rattle.search_queries.specs.declared.grammar.FindQuery.{FindQuery}

-- a table by its three parts
table_by : (table : NameTable) (publication : Option ℕ) (wide : Bool) (names : List Name)
    → table.publication ≡ publication
    → table.wide ≡ wide → table.names ≡ names
    → table ≡ record { publication = publication; wide = wide; names = names }
table_by table publication wide names is_publication is_wide is_names =
    let P : Option ℕ → NameTable = λ p. record { publication = p; wide = table.wide; names = table.names } in
    let W : Bool → NameTable = λ w. record { publication = publication; wide = w; names = table.names } in
    let N : List Name → NameTable = λ ns. record { publication = publication; wide = wide; names = ns } in
    ap P is_publication ∙ (ap W is_wide ∙ ap N is_names)

-- an index over a state has the names of its rows
pub table_rows : (state : SearchState) (table : NameTable) → IsStateOf state table → IsNameTable state.rows table
table_rows state table is =
    record { rows_are = is.rows_are; names_are = ap (λ (t : NameTable). t.names) is.table_is }

-- and so it is over the state of a copy
pub state_by : (state : SearchState) (table : NameTable) → IsNameTable state.rows table
    → table.publication ≡ state.publication → table.wide ≡ state.wide → IsStateOf state table
state_by state table rows publication wide = record {
  rows_are = rows.rows_are;
  table_is = table_by table state.publication state.wide (map key_and_name state.rows) publication wide rows.names_are;
}

-- a delta was taken
pub taken : (table table_now : NameTable) (delta : DeltaRead) (reply : QueryReply)
    → ((rows : List SheetRow) → IsNameTable rows table → IsNameTable (patched rows delta.changes) table_now)
    → table_now.publication ≡ number_in delta.head → table_now.wide ≡ delta.wide → MayTakeDelta table delta
    → reply ≡ replies.Text (rows_text (length table_now.names)) → TakesDeltaSo table delta reply table_now
taken table table_now delta reply patches publication wide takes is state held =
    let now = after_delta state delta in
    let rows = patches state.rows (table_rows state table held) in
    let T : NameTable → Type 0 = λ t. MayTakeDelta t delta in
    let count : length table_now.names ≡ length (patched state.rows delta.changes) = ap length rows.names_are
    ∙ length-map (patched state.rows delta.changes) key_and_name in (
      now,
      state_by now table_now rows publication wide,
      inr (record {
        takes = subst T held.table_is takes;
        reply_is = is ∙ ap (λ n. replies.Text (rows_text n)) count;
        state_is = refl;
      }),
    )

-- a delta wasn't taken
pub delta_refused : (table table_now : NameTable) (delta : DeltaRead) (reply : QueryReply) (fault : TakeFault)
    → table_now ≡ table → IsTakeFault table delta fault → reply ≡ replies.Refused (take_refusal fault)
    → TakesDeltaSo table delta reply table_now
delta_refused table table_now delta reply fault stays why is state held =
    let S : NameTable → Type 0 = λ t. IsStateOf state t in
    let R : NameTable → Type 0 = λ t. IsTakeFault t delta fault in (
      state,
      subst S (sym stays) held,
      inl (record { fault = fault; why = subst R held.table_is why; reply_is = is; stays = refl }),
    )

-- a packet that was read as a delta
pub packet_read : (form : Form) (table table_now : NameTable) (packet : Text) (delta : DeltaRead) (reply : QueryReply)
    → IsDeltaRead packet Sheet.Lei form delta → TakesDeltaSo table delta reply table_now
    → TakesSo form table packet reply table_now
packet_read form table table_now packet delta reply read answered state held =
    let so = answered state held in
    (so.0, so.1, inr (inl (delta, read, so.2)))

-- a packet that wasn't
pub packet_refused : (form : Form) (table : NameTable) (packet : Text) (reply : QueryReply) → IsNoLeiDelta form packet
    → reply ≡ replies.Refused refusals.DeltaNotRead → TakesSo form table packet reply table
packet_refused form table packet reply none is state held =
    (state, held, inl (record { none = none; reply_is = is; stays = refl }))

-- a packet for which memory ran out
pub packet_unread : (form : Form) (table : NameTable) (packet : Text) (reply : QueryReply)
    → reply ≡ replies.Refused refusals.NoMemory → TakesSo form table packet reply table
packet_unread form table packet reply is state held =
    (state, held, inr (inr (record { reply_is = is; stays = refl })))

-- ---- steps of the answerer

pub find_step : (old : Searching) (asked : SearchAsked) (query : FindQuery) (reply : QueryReply)
    → asked ≡ QueryAsked.Query query
    → ((state : SearchState) → IsStateOf state old.table
    → (reply ≡ find_reply state query) ⊎ (reply ≡ replies.Refused refusals.NoMemory))
    → AnswersSo old asked [] reply old
find_step old asked query reply is finds =
    let A : SearchAsked → Type 0 = λ a. AnswersSo old a [] reply old in
    subst A (sym is)
    (record { form = refl; counts = refl; answers = λ state held. (state, held, (refl, finds state held, refl)) })

pub take_step : (old new : Searching) (asked : SearchAsked) (packet bytes : Text) (reply : QueryReply)
    → asked ≡ QueryAsked.Packet (tt {0}) packet → bytes ≡ packet → new.form ≡ old.form
    → CountsDelta old.form bytes old.steps new.steps → TakesSo old.form old.table bytes reply new.table
    → AnswersSo old asked [] reply new
take_step old new asked packet bytes reply is same form counts takes =
    let A : SearchAsked → Type 0 = λ a. AnswersSo old a [] reply new in
    let C : Text → Type 0 = λ bytes. CountsDelta old.form bytes old.steps new.steps in
    let T : Text → Type 0 = λ bytes. TakesSo old.form old.table bytes reply new.table in
    let so = subst T same takes in
    subst A (sym is) (record {
      form = form;
      counts = subst C same counts;
      answers = λ state held. let now = so state held in (now.0, now.1, (refl, now.2));
    })
