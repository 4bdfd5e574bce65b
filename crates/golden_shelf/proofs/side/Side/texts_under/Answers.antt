use Rattle.std.proofs.Common.{ap, arith, length, ◌∙◌}
use Rattle.std.specs.FinMap.Entries.{find}
use Rattle.std.specs.List.{slice_get}
use Rattle.std.proofs.lemmas.List.{length-map}
use Rattle.lei_records.specs.Tables.{key_cmp}
use Rattle.golden_shelf.specs.Keys.{key_texts}
use Rattle.golden_shelf.specs.Lines.{KeyedLine}
use Rattle.golden_shelf.proofs.PlaceLemmas.{got, texts_got, under_place}
use Rattle.golden_shelf.proofs.side.Side.texts_under.Goals as goal

pub returns : goal.returns
returns c =
    let n = c.in_ok-index.index in
    let lines = c.self.inside.rows.lines in
    let count = ap length c.texts.ensures ∙ length-map lines (λ (line : KeyedLine). line.1) in
    let place = c.in_ok-index.ensures in
    let within = place.0 in
    under_place (key_texts c.args.key.now) lines n c.get.result c.self.invariant.sorted place
    (got c.texts.result.now n c.get.result (omega (arith, count, within)) c.get.ensures.lookup.0 c.get.ensures.lookup.1
    ∙ ap (λ l. slice_get l n) c.texts.ensures ∙ texts_got lines n)
    ∙ ap (λ s. find key_cmp (key_texts c.args.key.now) s.lines) c.self.view_is
