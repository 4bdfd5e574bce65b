use Rattle.std.proofs.Common.{◌∷◌, ◌++◌, [], ap, append_assoc, ◌∙◌}
use Rattle.serde_json.specs.Written.{comma_if}
use Rattle.copy_forms.proofs.json_write.put_record.Goals as goal

pub returns : goal.returns
returns c =
    let comma = comma_if c.args.later in
    let begin = c.args.begin.now in
    let record_bytes = c.args.text.now in
    let old = c.args.out.now.items in
    c.in_ok-push.ensures.items ∙ ap (λ l. l ++ 125 ∷ []) (c.in_ok-extend_from_slice.ensures.items ∙ ap (λ l. l ++ record_bytes) c.in_ok-put_item.ensures)
    ∙ append_assoc (old ++ (comma ++ begin)) record_bytes (125 ∷ []) ∙ append_assoc old (comma ++ begin) (record_bytes ++ 125 ∷ [])
    ∙ ap (λ l. old ++ l) (append_assoc comma begin (record_bytes ++ 125 ∷ []))
