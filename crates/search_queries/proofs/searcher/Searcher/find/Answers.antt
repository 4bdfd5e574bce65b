use Rattle.std.proofs.Common.{◌≡◌, ◌≤◌, length, inl, rules}
use Rattle.name_search.specs.Searching.{found_names, page_of}
use Rattle.name_search.specs.Words.{words}
use Rattle.search_queries.proofs.Finding.{names_found}
use Rattle.search_queries.proofs.searcher.Searcher.find.Goals as goal

pub returns-in-Ok-found_text : goal.returns-in-Ok-found_text
returns-in-Ok-found_text g c state held =
    let here = c.in-Ok.found in
    let table = c.args.self.now.table in
    let query = c.args.query.now in
    let page = c.number-page.result in
    let some : 1 ≤ length (words query.text) = search rules in
    let few : length (words query.text) ≤ 8 = search rules in
    let counted : here.matches ≡ length (found_names table.names query.text) = search rules in
    let names : here.names ≡ page_of page (found_names table.names query.text) = search rules in
    inl (names_found state table query page here.matches here.names c.in-Ok-found_text.text held
    c.number-page.ensures.value some few counted names c.in-Ok-found_text.ensures)
