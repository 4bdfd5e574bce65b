-- A search that is served: the answers to the bytes of an input.
use Rattle.std.specs.Prelude.{◌≤◌, ℕ, List, length, Option, None}
use Rattle.register_words.specs.declared.sheets.Form.{Form}
use Rattle.request_loop.specs.Frames.{Rules}
use Rattle.request_loop.specs.Serving.{Progress, Serves, progress}
use Rattle.request_loop.specs.declared.frames.Ended.{Ended}
use Rattle.line_reading.specs.declared.framing.NoEnd.{NoEnd}
use Rattle.name_search.specs.NameTables.{NameTable}
use Rattle.query_reading.specs.Inputs.{AnswersInput}
use Rattle.query_reading.specs.QueryFrames.{query_rules}
use Rattle.query_reading.specs.declared.reply.QueryReply.{QueryReply}
use Rattle.search_queries.specs.Grammar.{search_says}
use Rattle.search_queries.specs.Searchers.{IsStateOf}
use Rattle.search_queries.specs.Searches.{SearchAsked, SearchState, SearchStep}

-- How an input is cut into the queries of a search, and what is written for the replies.
abbrev pub search_rules : Rules SearchAsked QueryReply NoEnd
search_rules = query_rules search_says

-- The progress of a search: its state, and the bytes that were written. No clock gives it moments.
abbrev pub search_progress : SearchState → Option (List ℕ) → Progress SearchState
search_progress state written = progress state None written

-- A search over this state was served. The bytes that were taken are cut into queries, which were answered in order.
-- Each reply is the one that belongs to the query in the state that the queries before it left. The written bytes are
-- those of the replies. The index has the state after them.
abbrev pub ServesQueries : Form → ℕ → SearchState → Option (List ℕ) → Option (List ℕ) → NameTable → Option (List ℕ)
    → Option (List ℕ) → Ended NoEnd → Type 0
ServesQueries form most state written left table written_now left_now ended =
    (now : SearchState) × IsStateOf now table
    × Serves (SearchStep form) search_rules most (search_progress state written) left
    (search_progress now written_now) left_now ended

-- A search over this state was served completely, to the end of these bytes. All that they ask was answered in order,
-- and the written bytes are those of the replies. Or the bytes are so many that they end a session. Nothing else ends
-- it if nothing fails.
abbrev pub CompletesQueries : Form → ℕ → SearchState → Option (List ℕ) → List ℕ → NameTable → Option (List ℕ)
    → Ended NoEnd → Type 0
CompletesQueries form most state written bytes table written_now Ended.AtEnd =
    (now : SearchState) × IsStateOf now table
    × AnswersInput (SearchStep form) search_says state written bytes now written_now
CompletesQueries form most state written bytes table written_now (Ended.By end) = ⊥
CompletesQueries form most state written bytes table written_now Ended.ReadFault = ⊥
CompletesQueries form most state written bytes table written_now Ended.WriteFault = ⊥
CompletesQueries form most state written bytes table written_now Ended.InputLimit = most ≤ length bytes
CompletesQueries form most state written bytes table written_now Ended.NoMemory = ⊥
