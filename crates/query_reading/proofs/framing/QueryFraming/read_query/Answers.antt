use Rattle.std.proofs.Common.{◌≡◌, List, ℕ, Some, subst, rules}
use Rattle.query_reading.specs.Meanings.{IsMeaning}
use Rattle.query_reading.specs.declared.grammar.LineMeaning.{LineMeaning}
use Rattle.query_reading.proofs.QueryFronts.{query_frame, refused_frame}
use Rattle.query_reading.proofs.framing.QueryFraming.read_query.Goals as goal

pub returns-in-Some-Refused : goal.returns-in-Some-Refused
returns-in-Some-Refused g c ends =
    let says = g.G.Grammar.says in
    let said : c.meaning_of.result ≡ Some (LineMeaning.Refused c.in-Some-Refused.refusal) = search rules in
    let M : List ℕ → Type 0 = λ line. IsMeaning says line c.meaning_of.result in
    refused_frame says c.args.held.now c.args.end c.meaning_of.result c.in-Some-Refused.refusal c.want_of.result
    c.requires.within ends (subst M c.line_of.ensures c.meaning_of.ensures)
    said c.want_of.ensures

pub returns-in-Some-Query : goal.returns-in-Some-Query
returns-in-Some-Query g c ends =
    let says = g.G.Grammar.says in
    let said : c.meaning_of.result ≡ Some (LineMeaning.Query c.in-Some-Query.query) = search rules in
    let M : List ℕ → Type 0 = λ line. IsMeaning says line c.meaning_of.result in
    query_frame says c.args.held.now c.args.end c.meaning_of.result c.in-Some-Query.query c.want_of-in-Some-Query.result
    c.requires.within ends (subst M c.line_of.ensures c.meaning_of.ensures)
    said c.want_of-in-Some-Query.ensures
