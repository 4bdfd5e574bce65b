use Rattle.std.proofs.Common.{◌≡◌, ℕ, ◌++◌, codes, decimal, refl, ap, ◌∙◌, append_assoc}
use Rattle.json.specs.Print.{escape_byte}
use Rattle.search_queries.specs.Answers.{rows_text}
use Rattle.search_queries.proofs.texts.rows_text.Goals as goal

spelled : (rows : ℕ) → codes "{\"rows\":" ++ (decimal rows ++ codes "}") ≡ rows_text rows
unfolding rows_text escape_byte
spelled rows = refl

pub returns : goal.returns
returns c =
    let first = c.append.ensures.items ∙ ap (λ xs. xs ++ codes "{\"rows\":") c.requires.none in
    let digits : c.as_bytes-digits.result.now ≡ decimal c.args.rows = c.as_bytes-digits.ensures.value
    ∙ c.format.ensures.text in
    let second = c.append-2.ensures.items
    ∙ (ap (λ xs. xs ++ c.as_bytes-digits.result.now) first ∙ ap (λ xs. codes "{\"rows\":" ++ xs) digits) in
    c.from.ensures ∙ (c.append-3.ensures.items
    ∙ (ap (λ xs. xs ++ codes "}") second
    ∙ (append_assoc (codes "{\"rows\":") (decimal c.args.rows) (codes "}") ∙ spelled c.args.rows)))
