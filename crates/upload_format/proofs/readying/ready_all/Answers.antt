use Rattle.item_fields.specs.Items.{ready}
use Rattle.lei_records.specs.RuleNumbers.{rules_of}
use Rattle.upload_format.proofs.InThreads.{all_made, if_ok}
use Rattle.upload_format.proofs.readying.ready_all.Goals as goal

pub returns : goal.returns
returns g c = if_ok c.map_items.result _ _ c.map_items.ensures (λ v h. all_made _ _ (ready (rules_of c.args.rules)) (λ z item p. p) c.args.raws.now v.items h)
