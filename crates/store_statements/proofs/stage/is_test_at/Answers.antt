use Rattle.std.proofs.Common.{◌≡◌, rules}
use Rattle.sqlite_value.specs.declared.keys.Collation.TheVariants.{Binary}
use Rattle.sqlite_sql.specs.declared.ops.BinaryOp.TheVariants.{Compare}
use Rattle.sqlite_sql.specs.declared.ops.CompareOp.TheVariants.{Ge}
use Rattle.sqlite_schema.specs.declared.code.Op.{Op}
use Rattle.store_statements.specs.Checks.{node_at}
use Rattle.store_statements.proofs.CheckLemmas.{test_is, test_nodes}
use Rattle.store_statements.proofs.stage.is_test_at.Goals as goal

pub returns-then-is_place_at : goal.returns-then-is_place_at
returns-then-is_place_at c =
    let node : node_at c.args.nodes.now c.args.index
    ≡ Op.Binary (Compare Ge Binary) c.in-Some-Binary-Compare-Ge-Binary-default-default.value
    c.in-Some-Binary-Compare-Ge-Binary-default-default.one = search rules in (
      λ is. test_is _ _ _ _ _ node (c.is_place_at.ensures.0 (search rules)) (c.is_one_at.ensures.0 is),
      λ e. c.is_one_at.ensures.1 (test_nodes _ _ _ _ _ node e).1,
    )

pub returns-else-is_place_at : goal.returns-else-is_place_at
returns-else-is_place_at c =
    let node : node_at c.args.nodes.now c.args.index
    ≡ Op.Binary (Compare Ge Binary) c.in-Some-Binary-Compare-Ge-Binary-default-default.value
    c.in-Some-Binary-Compare-Ge-Binary-default-default.one = search rules in
    (λ is. absurd (search rules), λ e. c.is_place_at.ensures.1 (test_nodes _ _ _ _ _ node e).0)
