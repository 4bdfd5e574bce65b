use Rattle.std.proofs.Common.{◌≡◌, ◌++◌, ◌∷◌, [], ◌+◌, take, sym, ap, ◌∙◌}
use Rattle.std.proofs.lemmas.List.{take_more}
use Rattle.search_queries.proofs.NameValues.{names-push}
use Rattle.search_queries.proofs.texts.name_values.Goals as goal

pub loop-name-preserved : goal.loop-name-preserved
loop-name-preserved c =
    let names = c.args.names.now in
    let at = c.loop-name.name-index in
    let name = c.name-item.result in
    let taken : take (at + 1) names ≡ take at names ++ name ∷ [] = take_more names at name c.loop-name-test.true
    ∙ ap (λ n. take at names ++ n ∷ []) (sym c.name-item.is) in
    rw (c.in_ok-push.ensures.items, taken)
    (names-push c.loop-name.values.items _ (take at names) name c.in_ok-name_value.ensures c.loop-name.invariant)
