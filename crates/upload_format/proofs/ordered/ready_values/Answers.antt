use Rattle.std.proofs.lemmas.Option.{IfSome_then}
use Rattle.lei_records.specs.RuleNumbers.{rules_of}
use Rattle.upload_format.specs.Ordered.{IsReadAs}
use Rattle.upload_format.proofs.InThreads.{each_made, if_ok}
use Rattle.upload_format.proofs.ordered.ready_values.Goals as goal

pub returns : goal.returns
returns g c =
    if_ok c.all_some.result _ _ c.all_some.ensures (λ all found.
    IfSome_then all found (λ items is.
    each_made _ _ (IsReadAs (rules_of c.args.rules)) (λ z read p. p) c.args.values.now c.in_ok-read.read.items items.items is c.in_ok-read.ensures))
