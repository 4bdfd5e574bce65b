use Rattle.std.proofs.Common.{ap, refl, sym, ◌∙◌}
use Rattle.std.specs.FinMap.Entries.{find}
use Rattle.std.specs.Option.{option_map}
use Rattle.name_search.specs.Keys.{text_cmp}
use Rattle.name_search.specs.Walks.{has_word}
use Rattle.name_search.proofs.NotedLemmas.{forgets_one}
use Rattle.name_search.proofs.postings.Postings.forget.Goals as goal

pub loop-word-preserved : goal.loop-word-preserved
loop-word-preserved c =
    forgets_one c.args.self.now c.loop-word.self (record c.loop-word.self { later = c.forget_word.new.later }) c.args.rows.now c.word-item.result c.key-key.result.now (option_map (λ row. row.now) c.row_near-row.result)
    c.requires (c.row_near-row.ensures ∙ ap (λ k. option_map (λ name. (k, name)) (find text_cmp k c.args.rows.now)) c.to_search_key.ensures)
    (ap (has_word (option_map (λ row. row.now) c.row_near-row.result)) (sym c.as_str.ensures) ∙ sym c.has_word.ensures ∙ c.if-has_word.false) c.forget_word.ensures refl c.loop-word.invariant
