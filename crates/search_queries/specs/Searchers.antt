-- What contracts see of the answerer of a search.
use Rattle.std.specs.Prelude.{◌≡◌, ◌⊎◌, ◌+◌, ◌≤◌, ℕ, ℤ, List, Bool, true, false, length, is_some}
use Rattle.register_words.specs.declared.sheets.Form.{Form}
use Rattle.register_words.specs.declared.sheets.Sheet.{Sheet}
use Rattle.lei_code.specs.Texts.{Text}
use Rattle.copy_csv.specs.Rows.{AreRows}
use Rattle.copy_csv.specs.declared.heads.DeltaRead.{DeltaRead}
use Rattle.copy_forms.specs.Files.{IsDeltaRead}
use Rattle.name_search.specs.NameTables.{NameTable}
use Rattle.query_reading.specs.declared.asked.QueryAsked.{QueryAsked}
use Rattle.query_reading.specs.declared.reply.QueryReply.{QueryReply}
use Rattle.search_queries.specs.Searches.{RefusesDelta, SearchAsked, SearchState, SearchStep, TakeStep, TakesDelta, name_table}

-- The answerer: the form of the copy and of the deltas, what an index has of the copy, and how many steps were counted.
pub record Searching : Type 0 where
  pub form : Form
  pub table : NameTable
  pub steps : ℕ

-- The index has the copy that is held in this state: rows of `lei` whose keys rise.
pub record IsStateOf (state : SearchState) (table : NameTable) : Type 0 where
  pub rows_are : AreRows Sheet.Lei state.rows
  pub table_is : table ≡ name_table state

-- In JSON a copy has a number, and in CSV it has none.
abbrev pub has_number : Form → Bool
has_number Form.Csv = false
has_number Form.Json = true

-- The number of a copy is there exactly if it is in JSON.
abbrev pub IsNumberedIfJson : Form → NameTable → Type 0
IsNumberedIfJson form table = is_some table.publication ≡ has_number form

-- The count of steps rises by at most the number of members of the delta in the packet. If the packet isn't a delta, it
-- stays.
abbrev pub CountsDelta : Form → Text → ℕ → ℕ → Type 0
CountsDelta form packet before now =
    (now ≡ before)
    ⊎ ((delta : DeltaRead) × IsDeltaRead packet Sheet.Lei form delta × (before ≤ now)
    × (now ≤ before + length delta.changes))

-- What is asked takes this many steps: TAKE at most as many as the delta has members, and anything else none.
abbrev pub Counts : Form → SearchAsked → ℕ → ℕ → Type 0
Counts form (QueryAsked.Refuse refusal) before now = now ≡ before
Counts form (QueryAsked.Query query) before now = now ≡ before
Counts form (QueryAsked.Packet head packet) before now = CountsDelta form packet before now

-- A packet was answered as the search answers it in every state that the index may have.
abbrev pub TakesSo : Form → NameTable → Text → QueryReply → NameTable → Type 0
TakesSo form table packet reply table_now =
    (state : SearchState) → IsStateOf state table
    → (now : SearchState) × IsStateOf now table_now × TakeStep form state packet reply now

-- A delta that was read was answered the same way.
abbrev pub TakesDeltaSo : NameTable → DeltaRead → QueryReply → NameTable → Type 0
TakesDeltaSo table delta reply table_now =
    (state : SearchState) → IsStateOf state table
    → (now : SearchState) × IsStateOf now table_now
    × (RefusesDelta state delta reply now ⊎ TakesDelta state delta reply now)

-- A step of the answerer: in every state that the index may have, the reply and the next state are those of the search.
pub record AnswersSo (old : Searching) (asked : SearchAsked) (moments : List ℤ) (reply : QueryReply)
    (new : Searching) : Type 0 where
  pub form : new.form ≡ old.form
  pub counts : Counts old.form asked old.steps new.steps
  pub answers : (state : SearchState) → IsStateOf state old.table
      → (now : SearchState) × IsStateOf now new.table × SearchStep old.form state asked moments reply now
