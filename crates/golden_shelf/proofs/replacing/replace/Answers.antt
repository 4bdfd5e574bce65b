use Rattle.std.proofs.Common.{ap, length, sym, ◌∙◌}
use Rattle.golden_shelf.specs.Keys.{key_texts}
use Rattle.golden_shelf.proofs.ExchangeSteps.{line_put, texts_found}
use Rattle.golden_shelf.proofs.PlaceLemmas.{length_with_texts}
use Rattle.golden_shelf.proofs.replacing.replace.Goals as goal

pub returns-in-Some-take-clause-rows : goal.returns-in-Some-take-clause-rows
returns-in-Some-take-clause-rows c =
    line_put c.args.rows.now.lines c.exchange.new.self.lines c.args.note.now c.in-Some.index c.in-Some-take.texts c.requires.sorted c.in-Some.ensures
    (sym c.take.ensures.value ∙ c.in-Some-take.is) c.exchange.ensures.lines

pub returns-in-Some-take-clause-texts : goal.returns-in-Some-take-clause-texts
returns-in-Some-take-clause-texts c =
    texts_found c.args.rows.now.lines (key_texts c.args.note.now.key) c.in-Some.index c.exchange.new.texts c.requires.sorted c.in-Some.ensures
    c.exchange.ensures.texts

pub returns-in-Some-take-clause-count : goal.returns-in-Some-take-clause-count
returns-in-Some-take-clause-count c =
    ap length c.exchange.ensures.lines ∙ length_with_texts c.args.rows.now.lines c.in-Some.index c.in-Some-take.texts
