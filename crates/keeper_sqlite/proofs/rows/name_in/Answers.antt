use Rattle.std.proofs.Common.{◌∙◌, sym, rules, true≢false}
use Rattle.keeper_sqlite.proofs.RowLemmas.{lei_again, no_parts, rest_again}
use Rattle.keeper_sqlite.proofs.rows.name_in.Goals as goal

pub returns-then-not-are_parts-clause-err : goal.returns-then-not-are_parts-clause-err
returns-then-not-are_parts-clause-err c = λ failed name p q.
    no_parts _ _ _ _ name c.in_ok-lei.ensures.ok c.in_ok-rest.ensures.ok
    (λ are. true≢false (sym (c.are_parts.ensures.1 are) ∙ c.if-not-are_parts.true)) p q

pub returns-clause-lei : goal.returns-clause-lei
returns-clause-lei c = lei_again _ _ _ _ c.in_ok-lei.ensures.ok (c.are_parts.ensures.0 (search rules))
    c.in_ok-join_name.ensures

pub returns-clause-rest : goal.returns-clause-rest
returns-clause-rest c = rest_again _ _ _ _ c.in_ok-rest.ensures.ok (c.are_parts.ensures.0 (search rules))
    c.in_ok-join_name.ensures
