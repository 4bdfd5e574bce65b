-- The answerer of a search, and lines as its queries.
use Rattle.std.proofs.Common.{◌≡◌, ℕ, ℤ, List, inl, inr, Option, refl, ◌∙◌, subst}
use Rattle.register_words.specs.declared.sheets.Form.{Form}
use Rattle.request_loop.specs.Frames.{Fits}
use Rattle.request_loop.specs.Serving.{Completes, Progress, Serves}
use Rattle.request_loop.specs.declared.frames.Ended.{Ended}
use Rattle.line_reading.specs.declared.framing.NoEnd.{NoEnd}
use Rattle.query_reading.specs.QueryFrames.{QueryReadsAs, TakesMemory}
use Rattle.query_reading.specs.declared.asked.QueryAsked.{QueryAsked}
use Rattle.query_reading.specs.declared.refusal.QueryRefusal.TheVariants.{NoMemory}
use Rattle.query_reading.specs.declared.reply.QueryReply.{QueryReply}
use Rattle.query_reading.proofs.Likeness.{completes_alike, progress_like, serves_alike}
use Rattle.query_reading.proofs.Inputs.{AnswersAlike, answers_input}
use Rattle.search_queries.specs.Grammar.{search_says}
use Rattle.search_queries.specs.Searchers.{AnswersSo, IsStateOf, Searching}
use Rattle.search_queries.specs.Searches.{SearchAsked, SearchState, SearchStep}
use Rattle.search_queries.specs.Serving.{CompletesQueries, ServesQueries, search_rules}

-- ---- it fits the framing

unread : (meant : SearchAsked) (old new : Searching) (moments : List ℤ) (reply : QueryReply)
    → QueryReadsAs meant (QueryAsked.Refuse NoMemory) → AnswersSo old (QueryAsked.Refuse NoMemory) moments reply new
    → AnswersSo old meant moments reply new
unread (QueryAsked.Refuse refusal) old new moments reply reads answered = absurd reads.0
unread (QueryAsked.Query query) old new moments reply reads answered = record {
  form = answered.form;
  counts = answered.counts;
  answers = λ state held.
      let so = answered.answers state held in
      (so.0, so.1, (so.2.0, inr so.2.1, so.2.2));
}
unread (QueryAsked.Packet head packet) old new moments reply reads answered = record {
  form = answered.form;
  counts = inl answered.counts;
  answers = λ state held.
      let so = answered.answers state held in
      (so.0, so.1, (so.2.0, inr (inr (record { reply_is = so.2.1; stays = so.2.2 }))));
}

read_alike : (meant read : SearchAsked) (old new : Searching) (moments : List ℤ) (reply : QueryReply)
    → QueryReadsAs meant read → AnswersSo old read moments reply new → AnswersSo old meant moments reply new
read_alike meant read old new moments reply reads answered =
    let A : SearchAsked → Type 0 = λ asked. AnswersSo old asked moments reply new in
    unread meant old new moments reply (reads.0, refl) (subst A reads.1 answered)

pub search_fits : Fits (λ asked. Unit {0}) AnswersSo search_rules
search_fits = record {
  whole = λ bytes want rest is. tt;
  ends = λ bytes want is. tt;
  reads = λ meant read is. tt;
  same = read_alike;
  refused = λ asked who reply is. absurd is;
}

answers_unread : (form : Form) (meant : SearchAsked) (state new : SearchState) (moments : List ℤ) (reply : QueryReply)
    → TakesMemory meant → SearchStep form state (QueryAsked.Refuse NoMemory) moments reply new
    → SearchStep form state meant moments reply new
answers_unread form (QueryAsked.Refuse refusal) state new moments reply takes answered = absurd takes
answers_unread form (QueryAsked.Query query) state new moments reply takes answered =
    (answered.0, inr answered.1, answered.2)
answers_unread form (QueryAsked.Packet head packet) state new moments reply takes answered =
    (answered.0, inr (inr (record { reply_is = answered.1; stays = answered.2 })))

-- ---- it acts like the search

-- it has the state, and the form
abbrev IsLike : Form → SearchState → Searching → Type 0
IsLike form state who = (who.form ≡ form) × IsStateOf state who.table

does_alike : (form : Form) (old new : Searching) (asked : SearchAsked) (moments : List ℤ) (reply : QueryReply)
    (state : SearchState) → IsLike form state old → AnswersSo old asked moments reply new
    → (next : SearchState) × IsLike form next new × SearchStep form state asked moments reply next
does_alike form old new asked moments reply state (is, held) answered =
    let so = answered.answers state held in
    let S : Form → Type 0 = λ f. SearchStep f state asked moments reply so.0 in
    (so.0, (answered.form ∙ is, so.1), subst S is so.2)

pub served : (form : Form) (most : ℕ) (start now : Progress Searching) (left left_now : Option (List ℕ))
    (ended : Ended NoEnd)
    (state : SearchState) → start.who.form ≡ form → IsStateOf state start.who.table
    → Serves AnswersSo search_rules most start left now left_now ended
    → ServesQueries form most state start.written left now.who.table now.written left_now ended
served form most start now left left_now ended state is held serves =
    let so = serves_alike AnswersSo (IsLike form) (SearchStep form) search_rules most ended
    (does_alike form) start now left
    left_now state (is, held) serves in
    (so.0, so.1.1, so.2)

-- no line ends a session
nothing_ends : NoEnd → ⊥
nothing_ends end = elim end [ ]

-- if memory ran out for reading, a search answers what was read as it answers what was meant
answers_alike : (form : Form) → AnswersAlike (SearchStep form)
answers_alike form meant read old new moments reply reads answered =
    let S : SearchAsked → Type 0 = λ asked. SearchStep form old asked moments reply new in
    answers_unread form meant old new moments reply reads.0 (subst S reads.1 answered)

pub served_whole : (form : Form) (most : ℕ) (start now : Progress Searching) (left left_now : Option (List ℕ))
    (ended : Ended NoEnd) (state : SearchState) (bytes : List ℕ) → start.who.form ≡ form
    → IsStateOf state start.who.table → Serves AnswersSo search_rules most start left now left_now ended
    → Completes AnswersSo search_rules most ended start bytes now
    → CompletesQueries form most state start.written bytes now.who.table now.written ended
served_whole form most start now left left_now Ended.AtEnd state bytes is held serves done =
    let some = serves_alike AnswersSo (IsLike form) (SearchStep form) search_rules most Ended.AtEnd
    (does_alike form) start now left
    left_now state (is, held) serves in
    let so = completes_alike AnswersSo (IsLike form) (SearchStep form) search_rules most Ended.AtEnd
    (does_alike form) start now
    bytes state (is, held) (some.0, some.1) done in
    let answers = answers_input (SearchStep form) search_says (progress_like state start) (progress_like so.0 now) bytes
    (answers_alike form) so.2.1 in
    (so.0, so.1.1, answers)
served_whole form most start now left left_now (Ended.By end) state bytes is held serves done = nothing_ends end
served_whole form most start now left left_now Ended.ReadFault state bytes is held serves done = done
served_whole form most start now left left_now Ended.WriteFault state bytes is held serves done = done
served_whole form most start now left left_now Ended.InputLimit state bytes is held serves done = done
served_whole form most start now left left_now Ended.NoMemory state bytes is held serves done = done
