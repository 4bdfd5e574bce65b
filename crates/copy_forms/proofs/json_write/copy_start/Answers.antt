use Rattle.std.proofs.Common.{◌∷◌, ◌++◌, [], ap, codes, ◌∙◌}
use Rattle.std.specs.Prelude.{decimal}
use Rattle.json.specs.Token.{key, number}
use Rattle.copy_forms.proofs.JsonWriting.{copy-made}
use Rattle.copy_forms.proofs.json_write.copy_start.Goals as goal

pub returns : goal.returns
returns c = λ rest.
    let alone = c.put_records.ensures.before ∙ c.put_number.ensures.before ∙ c.put_date.ensures.before ∙ c.begin_object.ensures.room.0 ∙ c.new-out.ensures.before ∙ c.new.ensures.items in
    copy-made c.args.head.now c.args.count c.into_inner.result.items _ rest _ _ _ _ _ alone c.new-out.ensures.tokens c.in_ok-begin_object.ensures.ok
    c.in_ok-put_date.ensures.tokens
    (c.in_ok-put_number.ensures.tokens ∙ ap (λ n. c.put_date.new.out.tokens ++ (key (codes "publication") ∷ number (decimal n) ∷ [])) c.from.ensures)
    c.in_ok-put_records.ensures.tokens c.into_inner.ensures.items
