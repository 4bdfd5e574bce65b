use Rattle.std.proofs.Common.{◌≡◌, IsTrue, ◌∷◌, [], ◌∙◌, ap₂, arith, rules}
use Rattle.store_statements.proofs.ListLemmas.{of_two}
use Rattle.store_statements.proofs.stage.are_cell2_keys.Goals as goal

pub returns-then-eq : goal.returns-then-eq
returns-then-eq c = (are_these, λ are. search rules)
  where
    are_these : IsTrue c.eq-then-eq.result → c.args.keys.now ≡ (1 ∷ 2 ∷ 3 ∷ []) ∷ (4 ∷ 1 ∷ 2 ∷ 3 ∷ []) ∷ []
    are_these h =
        let first : c.first-item.result ≡ 1 ∷ 2 ∷ 3 ∷ [] = search rules in
        let second : c.second-item.result ≡ 4 ∷ 1 ∷ 2 ∷ 3 ∷ [] = search rules in
        of_two c.args.keys.now _ _ (omega (arith, c.in-len2.len_at_least, c.in-len2.len_below))
        c.first-item.is c.second-item.is
        ∙ ap₂ (λ a b. a ∷ b ∷ []) first second
