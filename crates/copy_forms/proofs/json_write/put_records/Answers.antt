use Rattle.std.proofs.Common.{◌∷◌, ◌++◌, [], ap, append_assoc, codes, ◌∙◌}
use Rattle.std.specs.Prelude.{decimal}
use Rattle.json.specs.Token.{begin_array, key, number}
use Rattle.copy_forms.proofs.json_write.put_records.Goals as goal

pub returns-clause-tokens : goal.returns-clause-tokens
returns-clause-tokens c =
    let tokens = c.args.out.now.tokens in
    let count = key (codes "recordCount") ∷ number (decimal c.args.count) ∷ [] in
    let name = key (codes "records") ∷ [] in
    c.in_ok-begin_array.ensures.ok ∙ ap (λ t. t ++ begin_array ∷ []) (c.in_ok-key.ensures.ok ∙ ap (λ t. t ++ name) c.in_ok-put_number.ensures.tokens)
    ∙ append_assoc (tokens ++ count) name (begin_array ∷ []) ∙ append_assoc tokens count (key (codes "records") ∷ begin_array ∷ [])
