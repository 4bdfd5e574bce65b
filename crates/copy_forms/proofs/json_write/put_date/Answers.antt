use Rattle.std.proofs.Common.{◌∷◌, ◌++◌, [], ap, append_assoc, codes, subst, sym, ◌∙◌}
use Rattle.std.specs.Str.{IsUtf8}
use Rattle.std.proofs.lemmas.Str.{IsUtf8-from_ascii}
use Rattle.json.specs.Token.{key, string}
use Rattle.copy_forms.proofs.json_write.put_date.Goals as goal

pub unreachable-requires : goal.unreachable-requires
unreachable-requires c = c.in-Err.ensures.cases.0 (subst IsUtf8 (sym c.as_slice.ensures) (IsUtf8-from_ascii c.text-text.result c.text-text.ensures.ascii))

pub returns-clause-tokens : goal.returns-clause-tokens
returns-clause-tokens c =
    let name = key (codes "contentDate") ∷ [] in
    let text = c.in-Ok.ensures.cases.0 ∙ c.as_slice.ensures ∙ c.text-text.ensures.bytes in
    c.in_ok-string-in-Ok.ensures.ok ∙ ap (λ t. t ++ string c.in-Ok.text.now ∷ []) c.in_ok-key.ensures.ok
    ∙ append_assoc c.args.out.now.tokens name (string c.in-Ok.text.now ∷ []) ∙ ap (λ t. c.args.out.now.tokens ++ (key (codes "contentDate") ∷ string t ∷ [])) text
