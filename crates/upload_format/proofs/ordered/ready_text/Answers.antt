use Rattle.std.proofs.Common.{Some, ap, subst, sym, ◌∙◌}
use Rattle.std.proofs.lemmas.Option.{IfSome_then}
use Rattle.json.specs.Find.{BeginsWith}
use Rattle.json.specs.Json.{document}
use Rattle.lei_records.specs.RuleNumbers.{rules_of}
use Rattle.upload_format.specs.Ordered.{list_under}
use Rattle.upload_format.proofs.InThreads.{if_ok}
use Rattle.upload_format.proofs.OrderedLemmas.{items-ready, some_of}
use Rattle.upload_format.proofs.ordered.ready_text.Goals as goal

pub returns : goal.returns
returns g c =
    let text = c.args.text.now in
    let is = some_of (document text) c.in-Ok.ensures.ok.1 in
    let begins = subst (λ tokens. BeginsWith tokens is.0) (sym c.root.ensures.same) (c.in-Ok.ensures.value is.0 is.1) in
    let found = c.in-Some.ensures is.0 begins in
    let lists = c.in-Some-lists_of.ensures found.0 found.2 in
    if_ok c.ready_values.result _ _ c.ready_values.ensures (λ read all.
    IfSome_then read all (λ items read.
    items-ready (rules_of c.args.rules) text found.0 (list_under c.in-Some-lists_of.lists) c.as_slice.result.now items.items c.utf8.text (is.1 ∙ ap Some found.1) lists
    (rw c.as_slice.ensures.value c.in_ok-values.ensures) read))
