-- The answer to FIND.
use Rattle.std.proofs.Common.{◌≡◌, ◌≤◌, ℕ, List, [], length, map, Bool, true, false, cond, eqb, ltb, sym, ap, ◌∙◌, arith}
use Rattle.std.proofs.lemmas.Bool.Decides.{nat_tests}
use Rattle.serde_json.specs.Written.{compact_text}
use Rattle.lei_code.specs.Texts.{Text}
use Rattle.name_search.specs.NameTables.{Name, NameTable, key_and_name}
use Rattle.name_search.specs.Searching.{found_names, page_of}
use Rattle.name_search.specs.Words.{words}
use Rattle.query_reading.specs.declared.refusal.QueryRefusal.TheVariants as refusals
use Rattle.query_reading.specs.declared.reply.QueryReply.TheVariants as replies
use Rattle.search_queries.specs.Answers.{found_answer, found_text}
use Rattle.search_queries.specs.Searchers.{IsStateOf}
use Rattle.search_queries.specs.Searches.{SearchState, find_by_words, find_reply}
use Rattle.search_queries.specs.declared.grammar.FindQuery.{FindQuery}

pub no_word : (state : SearchState) (query : FindQuery) → words query.text ≡ []
    → replies.Refused refusals.NoWord ≡ find_reply state query
no_word state query none =
    sym (ap (λ ws. find_by_words state query.page query.text (length ws)) none)

some_words : (state : SearchState) (query : FindQuery) (count : ℕ) → 1 ≤ count
    → find_by_words state query.page query.text count ≡ cond (ltb 8 count) (replies.Refused refusals.TooManyWords)
    (replies.Text (found_text (found_names (map key_and_name state.rows) query.text) query.page))
some_words state query count some =
    let is : eqb count 0 ≡ false = grind (arith, nat_tests) in
    let other = cond (ltb 8 count) (replies.Refused refusals.TooManyWords)
    (replies.Text (found_text (found_names (map key_and_name state.rows) query.text) query.page)) in
    ap (λ (b : Bool). cond b (replies.Refused refusals.NoWord) other) is

pub too_many_words : (state : SearchState) (query : FindQuery) → 9 ≤ length (words query.text)
    → replies.Refused refusals.TooManyWords ≡ find_reply state query
too_many_words state query many =
    let count = length (words query.text) in
    let is : ltb 8 count ≡ true = grind (arith, nat_tests) in
    let text = replies.Text (found_text (found_names (map key_and_name state.rows) query.text) query.page) in
    sym (some_words state query count (omega (arith, many))
    ∙ ap (λ (b : Bool). cond b (replies.Refused refusals.TooManyWords) text) is)

few_words : (state : SearchState) (query : FindQuery) → 1 ≤ length (words query.text) → length (words query.text) ≤ 8
    → find_reply state query ≡ replies.Text (found_text (found_names (map key_and_name state.rows) query.text) query.page)
few_words state query some few =
    let count = length (words query.text) in
    let is : ltb 8 count ≡ false = grind (arith, nat_tests) in
    let text = replies.Text (found_text (found_names (map key_and_name state.rows) query.text) query.page) in
    some_words state query count some ∙ ap (λ (b : Bool). cond b (replies.Refused refusals.TooManyWords) text) is

pub names_found : (state : SearchState) (table : NameTable) (query : FindQuery) (page matches : ℕ) (names : List Name)
    (text : Text) → IsStateOf state table → page ≡ query.page → 1 ≤ length (words query.text)
    → length (words query.text) ≤ 8
    → matches ≡ length (found_names table.names query.text) → names ≡ page_of page (found_names table.names query.text)
    → text ≡ compact_text (found_answer matches names page) → replies.Text text ≡ find_reply state query
unfolding found_text
names_found state table query page matches names text is page_is some few counted named_so written =
    let all = found_names (map key_and_name state.rows) query.text in
    let same : found_names table.names query.text ≡ all = ap (λ (t : NameTable). found_names t.names query.text) is.table_is in
    let count : matches ≡ length all = counted ∙ ap length same in
    let here : names ≡ page_of query.page all = named_so ∙ (ap (λ xs. page_of page xs) same
    ∙ ap (λ p. page_of p all) page_is) in
    let text_is : text ≡ compact_text (found_answer (length all) (page_of query.page all) query.page) = written
    ∙ (ap (λ n. compact_text (found_answer n names page)) count
    ∙ (ap (λ ns. compact_text (found_answer (length all) ns page)) here
    ∙ ap (λ p. compact_text (found_answer (length all) (page_of query.page all) p)) page_is)) in
    ap replies.Text text_is ∙ sym (few_words state query some few)
