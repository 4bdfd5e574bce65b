use Rattle.golden_shelf.proofs.Publishing.{all_noted, if_ok}
use Rattle.golden_shelf.proofs.notes.render_all.Goals as goal

pub returns-clause-notes : goal.returns-clause-notes
returns-clause-notes g c = if_ok c.map_list.result _ _ c.map_list.ensures.answers (λ v h. all_noted _ _ (λ z note p. p) c.args.changes.now v.items h)
