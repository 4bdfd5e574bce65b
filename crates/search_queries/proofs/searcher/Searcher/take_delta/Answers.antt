use Rattle.std.proofs.Common.{◌≡◌, List, length, subst, rules}
use Rattle.copy_csv.specs.Sheets.{SheetRow}
use Rattle.copy_forms.specs.Patching.{patched}
use Rattle.name_search.specs.NameTables.{IsNameTable, MayTakeDelta, NameTable, number_in}
use Rattle.query_reading.specs.declared.reply.QueryReply.TheVariants as replies
use Rattle.search_queries.specs.Answers.{rows_text}
use Rattle.search_queries.specs.Searchers.{TakesDeltaSo}
use Rattle.search_queries.proofs.ReadFiles.{delta_changes}
use Rattle.search_queries.proofs.Taking.{taken}
use Rattle.search_queries.proofs.searcher.Searcher.take_delta.Goals as goal

pub take-requires-clause-changes : goal.take-requires-clause-changes
take-requires-clause-changes g c =
    delta_changes c.requires.read.0 c.args.self.now.form c.args.delta.now c.requires.read.1

pub returns-clause-takes : goal.returns-clause-takes
returns-clause-takes g c =
    let index = c.self.inside.index in
    let delta = c.args.delta.now in
    let new = c.take.new.self in
    let reply = replies.Text c.rows_text.result in
    let T : NameTable → Type 0 = λ table. TakesDeltaSo table delta reply new in
    let same : index ≡ c.args.self.now.table = search rules in
    let rows : (rows : List SheetRow) → IsNameTable rows index
    → IsNameTable (patched rows delta.changes) new = search rules in
    let publication : new.publication ≡ number_in delta.head = search rules in
    let wide : new.wide ≡ delta.wide = search rules in
    let takes : MayTakeDelta index delta = search rules in
    let text : reply ≡ replies.Text (rows_text (length new.names)) = search rules in
    subst T same (taken index new delta reply rows publication wide takes text)
