use Rattle.std.proofs.Common.{◌≡◌, IsTrue, ◌∷◌, [], ◌∙◌, codes, true, false, arith, rules}
use Rattle.sqlite_schema.specs.declared.schema.Kind.TheVariants.{Integer, Text, Blob}
use Rattle.store_statements.specs.Schemas.{column_of, entry_table}
use Rattle.store_statements.proofs.ListLemmas.{of_eight}
use Rattle.store_statements.proofs.stage.are_entry_columns.Goals as goal

pub returns-then-is_column : goal.returns-then-is_column
returns-then-is_column c = (are_these, λ are. search rules)
  where
    are_these : IsTrue c.is_column-then-is_column.result → c.args.columns.now ≡ entry_table.columns
    are_these h =
        let seq : c.seq-item.result ≡ column_of (codes "seq") Integer false = search rules in
        let kind : c.kind-item.result ≡ column_of (codes "kind") Integer true = search rules in
        let office : c.office-item.result ≡ column_of (codes "office") Text true = search rules in
        let number : c.number-item.result ≡ column_of (codes "number") Integer true = search rules in
        let moment : c.moment-item.result ≡ column_of (codes "moment") Integer true = search rules in
        let rules_column : c.rules-item.result ≡ column_of (codes "rules") Integer true = search rules in
        let body : c.body-item.result ≡ column_of (codes "body") Blob true = search rules in
        let answer : c.answer-item.result ≡ column_of (codes "answer") Blob true = search rules in
        of_eight c.args.columns.now _ _ _ _ _ _ _ _
        (omega (arith, c.in-len8.len_at_least, c.in-len8.len_below)) c.seq-item.is c.kind-item.is
        c.office-item.is c.number-item.is
        c.moment-item.is c.rules-item.is c.body-item.is c.answer-item.is
        ∙ (λ i. seq i ∷ kind i ∷ office i ∷ number i ∷ moment i ∷ rules_column i ∷ body i ∷ answer i ∷ [])
